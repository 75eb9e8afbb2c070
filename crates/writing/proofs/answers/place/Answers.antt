use native.Mathlib.Omega.{arith}
use Rattle.writing.proofs.Puts.{lengths, puts_answer}
use Rattle.writing.proofs.answers.place.Goals as goal

pub put_number-p-requires : goal.put_number-p-requires
put_number-p-requires c =
    let l = lengths c.args.number c.args.word c.args.slot in
    omega arith

pub put_number-q-requires : goal.put_number-q-requires
put_number-q-requires c =
    let l = lengths c.args.number c.args.word c.args.slot in
    omega arith

pub put_number-requires : goal.put_number-requires
put_number-requires c =
    let l = lengths c.args.number c.args.word c.args.slot in
    omega arith

pub returns : goal.returns
returns c =
    let a = c.args in
    let x = c.put_number-p in
    let y = c.put_number-q in
    let z = c.put_number in
    let p = puts_answer a.dst.now x.new.dst y.new.dst z.new.dst a.at x.result y.result z.result a.number a.word a.slot
    (x.ensures.value, x.ensures.dst_after) (y.ensures.value, y.ensures.dst_after) (z.ensures.value, z.ensures.dst_after) in
    record { value = p.0; dst_after = p.1 }
