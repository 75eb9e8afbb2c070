use mathlib.Core.Logic.{inl, inr}
use Rattle.lanes.proofs.Lined.{filling_refused, filling_more, filling_end}
use Rattle.lanes.proofs.filling.fill.Goals as goal

pub returns-then-s-so_far : goal.returns-then-s-so_far
returns-then-s-so_far c =
    let l = c.loop-j in
    let r = filling_end c.args.s.now _ _ _ l.j l.so_far l.words l.invariant (inr c.if-s-so_far.true) in
    record { value = r.0; words_after = r.1 }

pub returns-in-Err : goal.returns-in-Err
returns-in-Err c =
    let l = c.loop-j in
    let t = c.take_nine-line in
    let r = filling_refused c.args.s.now _ _ _ l.j l.so_far l.words l.invariant c.if-s-so_far.false c.loop-j-test.true t.result t.ensures c.in-Err.why c.in-Err.ensures in
    record { value = r.0; words_after = r.1 }

pub loop-j-preserved : goal.loop-j-preserved
loop-j-preserved c =
    let l = c.loop-j in
    let t = c.take_nine-line in
    filling_more c.args.s.now _ _ _ l.j l.so_far l.words l.invariant c.if-s-so_far.false c.loop-j-test.true t.result t.ensures c.in-Ok.record c.in-Ok.ensures _ c.store.ensures

pub returns : goal.returns
returns c =
    let l = c.loop-j in
    let r = filling_end c.args.s.now _ _ _ l.j l.so_far l.words l.invariant (inl c.loop-j-test.false) in
    record { value = r.0; words_after = r.1 }
