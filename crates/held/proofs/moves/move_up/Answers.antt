use native.Mathlib.Omega.{arith}
use Rattle.held.proofs.Copies.{none_moved, some_moved}
use Rattle.held.proofs.moves.move_up.Goals as goal

pub returns-then-len-from : goal.returns-then-len-from
returns-then-len-from g c = let h = none_moved c.args.list.now c.args.from c.args.n (omega arith) in record { value = h.0; list_after = h.1 }

pub returns : goal.returns
returns g c =
    let a = c.args in
    let h = some_moved a.list.now a.from a.n _ _ c.if-len-from.false c.min-k.ensures c.copy_within.ensures.after in
    record { value = h.0; list_after = h.1 }
