use Rattle.parts.specs.Changes.{lost}
use Rattle.parts.proofs.changes.lost.Goals as goal

pub returns : goal.returns
unfolding lost
returns c = rw (c.ne.ensures, c.fits.ensures)
