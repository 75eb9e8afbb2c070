use Rattle.rules.specs.Cells.{able_to_read}
use mathlib.Core.Path.{refl}
use Rattle.rules.proofs.cells.Cell.able_to_read.Goals as goal

pub returns : goal.returns
unfolding able_to_read
returns c = refl
