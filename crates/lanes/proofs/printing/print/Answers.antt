use native.Mathlib.Omega.{arith}
use mathlib.Core.Path.{ap, ◌∙◌}
use lib.ListN.{length, length-append}
use Rattle.std.specs.Slice.Iter.{chunks_exact_rest}
use Rattle.lanes.proofs.Texts.{short_record, texts_more, texts_end}
use Rattle.lanes.proofs.printing.print.Goals as goal

pub overflow_add-at : goal.overflow_add-at
overflow_add-at c =
    let l = c.loop-record in
    let s = c.in-Some.ensures.steps.1 in
    let x = c.in-Some.record.now in
    let n = s.1 ∙ l.invariant.0 in
    let h = short_record _ l.at _ x n c.line-at.ensures.value in
    let m = ap length s.0 ∙ length-append x (chunks_exact_rest c.next.new.self) in
    omega (arith, h, n, m, l.invariant.1)

pub loop-record-preserved : goal.loop-record-preserved
loop-record-preserved c =
    let l = c.loop-record in
    let t = c.in-Some.ensures.steps in
    let s = t.1 in
    let x = c.in-Some.record.now in
    let n = s.1 ∙ l.invariant.0 in
    let p = c.line-at.ensures in
    let h = short_record _ l.at _ x n p.value in
    let m = ap length s.0 ∙ length-append x (chunks_exact_rest c.next.new.self) in (
      t.0 ∙ l.invariant.0,
      omega (arith, h, n, m, l.invariant.1),
      texts_more _ _ _ l.at _ l.invariant.2 x _ s.0 n (omega (arith, n, m, l.invariant.1, c.loop-record.auto.out)) _ _ p.value p.dst_after,
    )

pub returns : goal.returns
returns c =
    let l = c.loop-record in
    let t = c.in-None.ensures.steps in
    let e = texts_end _ _ _ l.at l.out l.invariant.2 (omega (arith, t.1.0, l.invariant.0)) in
    record { value = e.0; out_after = e.1 }
