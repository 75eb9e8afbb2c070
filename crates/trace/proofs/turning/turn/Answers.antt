use native.Mathlib.Omega.{arith}
use Rattle.lines.specs.Chunks.{lent}
use Rattle.trace.proofs.Turns.{read_fits, turn_is}
use Rattle.trace.proofs.turning.turn.Goals as goal

pub hold-requires : goal.hold-requires
hold-requires c =
    let a = c.args in
    let l = lent a.words.now a.marks.now a.answers.now a.out.now in
    let e = rw c.ready-answered.ensures at c.advance-a.ensures.value in
    let to = c.min-to in
    (read_fits a.kept a.buf.now a.held to.result a.last l c.advance-a.result e, omega (arith, to.ensures))

pub returns : goal.returns
returns c =
    let a = c.args in
    let l = lent a.words.now a.marks.now a.answers.now a.out.now in
    let to = c.min-to in
    let r = c.ready-answered in
    let t = c.advance-a in
    let h = c.hold in
    let e = rw r.ensures at t.ensures.value in
    let f = rw r.ensures at t.ensures.out_after in
    let g =
    turn_is a.kept a.buf.now a.held to.result a.last l t.result e to.ensures
    h.result (lent t.new.words t.new.marks t.new.answers t.new.out) h.new.buf f h.ensures.value h.ensures.buf_after in
    record { value = g.0; out_after = g.1; buf_after = g.2 }
