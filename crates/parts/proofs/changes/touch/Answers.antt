use Rattle.parts.specs.Changes.{touched_cell}
use Rattle.parts.proofs.changes.touch.Goals as goal

pub returns : goal.returns
unfolding touched_cell
returns c = rw (c.wish.ensures, c.write.ensures, c.either-word.ensures, c.wanted.ensures)
