use native.Mathlib.Omega.{arith}
use Rattle.text.proofs.Runs.{unread_none, unread_large, unread_zero, found_run}
use Rattle.text.proofs.numbers.field.Goals as goal
use Rattle.text.proofs.numbers.field.Goals.{else-d-from-gt1-via-then-d-from-gt1+else-s-from-eq48, else-d-from-gt1-via-else-d-from-gt1}

pub returns-then-d-from : goal.returns-then-d-from
returns-then-d-from c = unread_none _ _ _ c.digits-d.ensures c.if-d-from.true

pub returns-then-d-gt4294967295 : goal.returns-then-d-gt4294967295
returns-then-d-gt4294967295 c = unread_large _ _ _ c.digits-d.ensures c.if-d-gt4294967295.true

pub returns-then-s-from-eq48 : goal.returns-then-s-from-eq48
returns-then-s-from-eq48 c = unread_zero _ _ _ c.digits-d.ensures c.if-d-from-gt1.true c.if-s-from-eq48.true

pub returns : goal.returns
returns c =
    let found = found_run _ _ _ c.digits-d.ensures c.if-d-from.false c.if-d-gt4294967295.false in
    elim c.else-d-from-gt1.branch [
      | else-d-from-gt1-via-then-d-from-gt1+else-s-from-eq48 w ↦ found (λ h. w.if-s-from-eq48.false)
      | else-d-from-gt1-via-else-d-from-gt1 w ↦ found (λ h. absurd (omega arith))
    ]
