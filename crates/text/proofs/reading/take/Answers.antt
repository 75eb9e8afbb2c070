use mathlib.Core.Path.{sym, ◌∙◌}
use native.Mathlib.Omega.{arith}
use Rattle.text.proofs.Runs.{unread_end}
use Rattle.text.proofs.Takes.{left_start, left_none}
use Rattle.text.proofs.Plain.{plain_taken}
use Rattle.text.proofs.reading.take.Goals as goal

pub returns-then-s-from : goal.returns-then-s-from
returns-then-s-from c = let a = c.args in c.skip.ensures ∙ left_none _ _ _ _ _ (left_start _ _) (unread_end a.s.now a.from (omega arith))

pub returns-then-is_plain : goal.returns-then-is_plain
returns-then-is_plain c =
    rw c.plain_words.ensures
    (plain_taken _ _ (omega arith) (sym c.is_plain.ensures ∙ c.if-is_plain.true))
