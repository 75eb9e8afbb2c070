use Rattle.std.proofs.Common.{arith}
use Rattle.std.proofs.lemmas.Grind.{common_steps}
use Rattle.rules.specs.Refusals.{table, given}
use Rattle.numbers.specs.Rows.{own_refusal, from, before}
use Rattle.numbers.proofs.refusals.own_refusal.Goals as goal

pub returns-in-WantRead : goal.returns-in-WantRead
unfolding own_refusal from before table given
returns-in-WantRead c = grind (arith, common_steps)
