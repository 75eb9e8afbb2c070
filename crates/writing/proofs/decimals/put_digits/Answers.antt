use mathlib.Core.Path.{ap}
use native.Mathlib.Omega.{arith}
use lib.ListN.{length}
use Rattle.writing.proofs.Digits.{decimal_is}
use Rattle.writing.proofs.Puts.{puts_written}
use Rattle.writing.proofs.decimals.put_digits.Goals as goal

pub write_digits-requires : goal.write_digits-requires
write_digits-requires c =
    let a = c.args in
    let e = c.into.ensures in
    let w = c.count_digits.ensures in
    let d = ap length (decimal_is a.n (let r = c.ranges.n.fits in omega arith)) in
    rw e (omega arith, omega arith)

pub returns : goal.returns
returns c =
    let a = c.args in
    let e = c.into.ensures in
    let w = c.write_digits in
    let l = c.count_digits.ensures in
    let x = w.ensures.start in
    let p = puts_written a.dst.now w.new.buf a.at a.n a.end w.result _ c.ranges.n.fits (omega arith) (omega arith) (rw e at x) (rw e at w.ensures.written) w.ensures.before in
    record { value = p.0; dst_after = p.1 }
