use mathlib.Core.Path.{◌∙◌}
use native.Mathlib.Omega.{arith}
use Rattle.text.proofs.Takes.{left_start, left_over, left_none, left_tab, left_end, left_short}
use borrow.Author.Rules.{rules}
use Rattle.text.proofs.reading.take_fields.Goals as goal

pub loop-count-init : goal.loop-count-init
loop-count-init c = (search rules, left_start _ _)

pub loop-count-preserved-in-Some : goal.loop-count-preserved-in-Some
loop-count-preserved-in-Some c =
    let l = c.loop-count in
    let h = c.in-Some.ensures in
    (omega arith, left_short _ _ l.i l.count l.words l.invariant.1 _ h)

pub returns-in_default-field : goal.returns-in_default-field
returns-in_default-field c =
    let l = c.loop-count in
    c.skip.ensures ∙ left_none _ _ l.i l.count l.words l.invariant.1 c.in_default-field.ensures

pub returns-then-f-ne9 : goal.returns-then-f-ne9
returns-then-f-ne9 c =
    let l = c.loop-count in
    let f = c.in-Some-field in
    c.finish.ensures ∙ left_end _ _ l.i l.count l.words l.invariant.1 f.f f.ensures (omega arith) c.if-f-ne9.true

pub loop-count-preserved : goal.loop-count-preserved
loop-count-preserved c =
    let l = c.loop-count in
    let f = c.in-Some-field in
    let tab = left_tab _ _ l.i l.count l.words l.invariant.1 f.f f.ensures c.if-f-ne9.false in
    (omega arith, tab.1)

pub returns : goal.returns
returns c =
    let l = c.loop-count in
    c.skip-2.ensures ∙ left_over _ _ l.i l.count l.words l.invariant.1 (omega arith)
