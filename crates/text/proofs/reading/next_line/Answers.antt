use Prim.Native.Nat.{◌<◌}
use native.Mathlib.Omega.{arith}
use borrow.Author.Rules.{rules}
use lib.ListN.{length}
use Rattle.text.proofs.Lines.{passed_none, next_found, next_none}
use Rattle.text.proofs.reading.next_line.Goals as goal

pub returns-in_default : goal.returns-in_default
returns-in_default c =
    let a = c.args in
    let h : length a.s.now < a.from = search rules in
    let e = passed_none a.s.now a.from (omega arith) in
    omega arith

pub returns-in-Some-position : goal.returns-in-Some-position
returns-in-Some-position c =
    next_found c.args.s.now c.in-Some.rest.now _ c.in-Some-position.feed (search rules) (search rules) (search rules) (search rules)

pub returns-in-None : goal.returns-in-None
returns-in-None c = next_none c.args.s.now c.in-Some.rest.now c.args.from (search rules) (search rules) (search rules)
