use Rattle.std.proofs.Common.{arith}
use Rattle.std.proofs.lemmas.Grind.{common_steps}
use Rattle.rules.specs.Refusals.{table, given}
use Rattle.numbers.specs.Rows.{slot_refusal}
use Rattle.numbers.proofs.refusals.slot_refusal.Goals as goal

pub returns-in-Some : goal.returns-in-Some
unfolding slot_refusal table given
returns-in-Some c = grind (arith, common_steps)
