use native.Mathlib.Omega.{arith}
use lib.ListN.{get_or}
use Rattle.writing.proofs.Puts.{decimal_short, length_ended}
use Rattle.writing.proofs.Rows.{lining_start, lining_more, lining_end}
use Rattle.writing.proofs.listing.place_line.Goals as goal

pub loop-k-init : goal.loop-k-init
loop-k-init c = record { room = omega arith; put = lining_start _ _ _ }

pub put_number-p-requires : goal.put_number-p-requires
put_number-p-requires c = omega (arith, decimal_short (get_or c.args.numbers.now c.loop-k.k 0))

pub loop-k-preserved : goal.loop-k-preserved
loop-k-preserved c =
    let l = c.loop-k in
    let p = c.put_number-p in
    let b = c.byte_after-end in
    let n = c.args.numbers.now in
    record {
      room = omega (arith, length_ended (get_or n l.k 0) b.result, decimal_short (get_or n l.k 0));
      put = lining_more _ n _ l.k l.p l.dst l.invariant.put c.loop-k-test.true b.result p.result p.new.dst b.ensures p.ensures.value p.ensures.dst_after;
    }

pub returns : goal.returns
returns c =
    let l = c.loop-k in
    let p = lining_end c.args.dst.now c.args.numbers.now c.args.at l.k l.p l.dst l.invariant.put c.loop-k-test.false in
    record { value = p.0; dst_after = p.1 }
