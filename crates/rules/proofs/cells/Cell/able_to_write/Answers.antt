use Rattle.rules.specs.Cells.{able_to_write}
use Rattle.rules.proofs.cells.Cell.able_to_write.Goals as goal

pub returns : goal.returns
unfolding able_to_write
returns c = rw c.eq.ensures
