use mathlib.Core.Path.{sym, ◌∙◌}
use native.Mathlib.Omega.{arith}
use native.Mathlib.Nat.{add-zero}
use Rattle.text.proofs.Stores.{sets_step, sets_all}
use Rattle.text.proofs.chunks.store.Goals as goal

pub loop-k-init : goal.loop-k-init
loop-k-init c = rw add-zero

pub loop-k-preserved : goal.loop-k-preserved
loop-k-preserved c =
    let l = c.loop-k in
    sets_step l.dst _ _ l.k (omega arith) ∙ l.invariant

pub returns : goal.returns
returns c =
    let l = c.loop-k in
    sym (sets_all l.dst _ _ l.k (omega arith)) ∙ l.invariant
