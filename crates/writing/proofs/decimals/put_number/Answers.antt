use mathlib.Core.Path.{ap}
use native.Mathlib.Omega.{arith}
use lib.ListN.{length, length-set}
use Rattle.writing.proofs.Puts.{decimal_one, decimal_two, puts_one, puts_two}
use Rattle.writing.proofs.decimals.put_number.Goals as goal

pub bounds-dst-at-then-n-lt10 : goal.bounds-dst-at-then-n-lt10
bounds-dst-at-then-n-lt10 c =
    let l = ap length (decimal_one c.args.n c.if-n-lt10.true) in
    simp length-set (omega arith)

pub returns-then-n-lt10 : goal.returns-then-n-lt10
returns-then-n-lt10 c =
    let p = puts_one c.args.dst.now c.args.at c.args.n c.args.end c.if-n-lt10.true in
    record { value = p.0; dst_after = p.1 }

pub bounds-dst-at-then-n-lt100-2 : goal.bounds-dst-at-then-n-lt100-2
bounds-dst-at-then-n-lt100-2 c =
    let l = ap length (decimal_two c.args.n c.if-n-lt10.false c.if-n-lt100.true) in
    simp length-set (omega arith)

pub bounds-dst-at-then-n-lt100-3 : goal.bounds-dst-at-then-n-lt100-3
bounds-dst-at-then-n-lt100-3 c =
    let l = ap length (decimal_two c.args.n c.if-n-lt10.false c.if-n-lt100.true) in
    simp length-set (omega arith)

pub returns-then-n-lt100 : goal.returns-then-n-lt100
returns-then-n-lt100 c =
    let p = puts_two c.args.dst.now c.args.at c.args.n c.args.end c.if-n-lt10.false c.if-n-lt100.true in
    record { value = p.0; dst_after = p.1 }
