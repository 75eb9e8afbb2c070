use Rattle.std.proofs.Common.{arith}
use Rattle.numbers.proofs.refusals.for_caches.Goals as goal

pub returns-in_default : goal.returns-in_default
returns-in_default c = grind arith
