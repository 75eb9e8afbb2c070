use native.Mathlib.Omega.{arith}
use Rattle.writing.proofs.Puts.{printing_start, printing_more, printing_end, no_bytes, no_words}
use Rattle.writing.proofs.answers.print.Goals as goal

pub returns-then-dst-n : goal.returns-then-dst-n
returns-then-dst-n c =
    let p = no_bytes c.args.dst.now c.args.marks.now c.args.answers.now c.if-dst-n.true in
    record { value = p.0; dst_after = p.1 }

pub returns-then-answers-n : goal.returns-then-answers-n
returns-then-answers-n c =
    let p = no_words c.args.dst.now c.args.marks.now c.args.answers.now c.if-dst-n.false c.if-answers-n.true in
    record { value = p.0; dst_after = p.1 }

pub loop-mark-init : goal.loop-mark-init
loop-mark-init c = record { words = omega arith; bytes = omega arith; put = printing_start _ _ _ }

pub loop-mark-preserved : goal.loop-mark-preserved
loop-mark-preserved c =
    let l = c.loop-mark in
    let p = c.put_answer-at in
    let w = c.words_of-a in
    record {
      words = omega arith;
      bytes = omega arith;
      put = printing_more _ _ _ l.mark-index l.a l.at l.dst l.invariant.put c.loop-mark-test.true w.result p.result p.new.dst w.ensures.0 (p.ensures.value.0, p.ensures.dst_after);
    }

pub returns : goal.returns
returns c =
    let l = c.loop-mark in
    let p = printing_end c.args.dst.now c.args.marks.now c.args.answers.now l.mark-index l.a l.at l.dst l.invariant.put c.loop-mark-test.false c.if-dst-n.false c.if-answers-n.false in
    record { value = p.0; dst_after = p.1 }
