use mathlib.Core.Path.{ap}
use native.Mathlib.Omega.{arith}
use lib.ListN.{length, length-set}
use Rattle.writing.proofs.Puts.{decimal_three, puts_three}
use Rattle.writing.proofs.decimals.put_long.Goals as goal

pub bounds-dst-at-then-n-lt1000 : goal.bounds-dst-at-then-n-lt1000
bounds-dst-at-then-n-lt1000 c =
    let l = ap length (decimal_three c.args.n c.requires.long c.if-n-lt1000.true) in
    simp length-set (omega arith)

pub bounds-dst-at-then-n-lt1000-2 : goal.bounds-dst-at-then-n-lt1000-2
bounds-dst-at-then-n-lt1000-2 c =
    let l = ap length (decimal_three c.args.n c.requires.long c.if-n-lt1000.true) in
    simp length-set (omega arith)

pub bounds-dst-at-then-n-lt1000-3 : goal.bounds-dst-at-then-n-lt1000-3
bounds-dst-at-then-n-lt1000-3 c =
    let l = ap length (decimal_three c.args.n c.requires.long c.if-n-lt1000.true) in
    simp length-set (omega arith)

pub returns-then-n-lt1000 : goal.returns-then-n-lt1000
returns-then-n-lt1000 c =
    let p = puts_three c.args.dst.now c.args.at c.args.n c.args.end c.requires.long c.if-n-lt1000.true in
    record { value = p.0; dst_after = p.1 }
