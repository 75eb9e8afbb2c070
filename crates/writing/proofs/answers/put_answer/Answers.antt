use native.Mathlib.Omega.{arith}
use Rattle.std.proofs.lemmas.Grind.{common_steps}
use Rattle.writing.proofs.Puts.{answer_short}
use Rattle.writing.proofs.answers.put_answer.Goals as goal

pub place-requires : goal.place-requires
place-requires c = grind (arith, answer_short)

pub returns-then-mark-eq1-clause-value : goal.returns-then-mark-eq1-clause-value
returns-then-mark-eq1-clause-value c = grind (arith, common_steps, answer_short)

pub place-requires-2 : goal.place-requires-2
place-requires-2 c = grind (arith, answer_short)

pub returns-clause-value : goal.returns-clause-value
returns-clause-value c = grind (arith, common_steps, answer_short)
