use native.Mathlib.Omega.{arith}
use mathlib.Core.Path.{◌≡◌, refl, sym}
use mathlib.Core.Logic.{◌⊎◌, inl, inr}
use borrow.Author.Tests.{eqb-true, eqb-false}
use lib.ListN.{length, length-take}
use Rattle.std.proofs.lemmas.Result.{err_from_is_err_and}
use Rattle.lanes.proofs.Shown.{all_fit, some_number, prints_refused, prints_rest, prints_join}
use Rattle.lanes.proofs.turning.join_print.Goals as goal
use Rattle.lanes.proofs.turning.join_print.Goals.{then-is_empty-via-then-is_empty, then-is_empty-via-else-is_empty+then-is_empty-2}

pub returns-in_err-count : goal.returns-in_err-count
returns-in_err-count c =
    let p = c.args in
    let j = c.join-joined in
    let r = err_from_is_err_and c.from_residual.result c.from_residual.ensures.1 in
    let g = rw c.in_err-count.was at j.ensures in
    rw (r.1, r.2) (prints_refused p.first p.second p.third.now _ _ _ j.result.rest g j.auto.third p.out.now (some_number _))

pub returns-then-is_empty : goal.returns-then-is_empty
returns-then-is_empty c =
    let p = c.args in
    let j = c.join-joined in
    let t = c.print in
    let g = rw c.in_ok-count.was at j.ensures in
    let h : (length p.first.now ≡ 0) ⊎ (length p.second.now ≡ 0)
    = elim c.then-is_empty.branch [
      | then-is_empty-via-then-is_empty w ↦ inl (eqb-true _ _ (sym w.if-is_empty.ensures))
      | then-is_empty-via-else-is_empty+then-is_empty-2 w ↦ inr (eqb-true _ _ (sym w.if-is_empty-2.ensures))
    ] in
    prints_rest p.first p.second p.third.now _ _ _ j.result.rest g j.auto.third refl p.out.now _ _ h t.ensures.value t.ensures.out_after

pub print-requires-2 : goal.print-requires-2
print-requires-2 c =
    let p = c.args in
    let j = c.join-joined in
    let g = rw c.in_ok-count.was at j.ensures in
    let f = all_fit p.first p.second p.third.now _ c.in_ok-count.count j.new.third j.result.rest g j.auto.third refl in
    omega (arith, f.0, c.requires, length-take c.in_ok-count.count j.new.third)

pub returns : goal.returns
returns c =
    let p = c.args in
    let j = c.join-joined in
    let t = c.print-2 in
    let g = rw c.in_ok-count.was at j.ensures in
    prints_join p.first p.second p.third.now _ _ _ j.result.rest g j.auto.third refl p.out.now _ _
    (eqb-false _ _ (sym c.if-is_empty.ensures)) (eqb-false _ _ (sym c.if-is_empty-2.ensures)) t.ensures.value t.ensures.out_after
