use mathlib.Core.Path.{◌≡◌, sym, ◌∙◌}
use mathlib.Core.Logic.{◌⊎◌, inl, inr, ⊎_elim}
use Prim.Native.Nat.{◌<◌}
use native.Mathlib.Omega.{arith}
use borrow.Author.Tests.{eqb-true, eqb-false}
use lib.ListN.{length}
use Rattle.lines.proofs.Starts.{none_taken, start_taken}
use Rattle.lines.proofs.starting.begin.Goals as goal

pub returns-then-is_empty : goal.returns-then-is_empty
returns-then-is_empty c =
    let a = c.args in
    let h : (length a.s.now ≡ 0) ⊎ (length a.out.now < 33) =
    ⊎_elim (λ z. inl (eqb-true (length a.s.now) 0 (sym c.is_empty.ensures ∙ z))) (λ z. inr z.1) c.then-is_empty.either in
    let n = none_taken a.kept a.s.now a.out.now c.requires h in
    record { value = n.0; out_after = n.1 }

pub returns : goal.returns
returns c =
    let a = c.args in
    let t = c.take-line in
    let r = c.start_line-started in
    let w = c.write-written in
    let some = eqb-false (length a.s.now) 0 (sym c.is_empty.ensures ∙ c.if-is_empty.false) in
    let n =
    start_taken a.kept a.s.now a.out.now c.requires (omega (arith, some)) c.if-out-lt33.false t.result t.ensures r.result r.ensures w.result w.new.dst
    (w.ensures.value, w.ensures.dst_after) in
    record { value = n.0; out_after = n.1 }
