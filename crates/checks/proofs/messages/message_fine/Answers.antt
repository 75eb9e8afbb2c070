use mathlib.Core.Path.{◌≡◌, refl, ◌∙◌}
use mathlib.Core.Bool.{Bool, true, false, not, beq, and-true}
use Rattle.rules.specs.WellFormed.{message_zero, message_fine}
use Rattle.rules.specs.Tools.{every}
use Rattle.checks.proofs.messages.message_fine.Goals as goal

-- a mark that equals false is not set
unset : (b : Bool) → beq b false ≡ not b
unset true = refl
unset false = refl

-- the empty slot's kind is that of the arm, so it is the other fields that are compared
pub returns-in-Free : goal.returns-in-Free
unfolding message_fine message_zero every
returns-in-Free c =
    let m = c.args.m in
    rw c.in-Free.is (rw c.in-Free.is at (rw c.free_message.ensures at c.eq.ensures) ∙ rw (unset m.owner, unset m.full, and-true))
