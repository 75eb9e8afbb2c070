use native.Mathlib.Omega.{arith}
use Rattle.text.proofs.Events.{going_on, going_most, going_none}
use Rattle.text.proofs.chunks.parse.Goals as goal

pub returns-then-s-next : goal.returns-then-s-next
returns-then-s-next c =
    let l = c.loop-lines in
    rw (← l.invariant.0) (going_none _ _ _ _ l.next l.lines l.at l.words l.marks l.invariant.2 c.if-s-next.true)

pub loop-lines-preserved : goal.loop-lines-preserved
loop-lines-preserved c =
    let l = c.loop-lines in
    let t = c.take-t in
    let p = c.put_line-at in (
      l.invariant.0,
      omega arith,
      going_on _ _ _ _ l.next l.lines l.at l.words l.marks l.invariant.2 (omega arith) (omega arith) t.result p.result p.new.words p.new.marks
          t.ensures p.ensures.value.0 p.ensures.words_after p.ensures.marks_after,
    )

pub returns : goal.returns
returns c =
    let l = c.loop-lines in
    rw (← l.invariant.0) (going_most _ _ _ _ l.next l.lines l.at l.words l.marks l.invariant.2 (omega arith))
