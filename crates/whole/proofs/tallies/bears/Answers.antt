use Rattle.rules.specs.States.{bears}
use Rattle.whole.proofs.tallies.bears.Goals as goal

pub returns : goal.returns
unfolding bears
returns c = rw (c.is_free.ensures, c.eq.ensures)
