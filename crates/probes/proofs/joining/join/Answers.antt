use mathlib.Core.Path.{refl}
use native.Mathlib.Omega.{arith}
use Rattle.probes.proofs.Refusals.{refusal_told}
use Rattle.probes.proofs.Answers.{tail, known, refused, first_rest, second_rest}
use Rattle.probes.proofs.joining.join.Goals as goal
use Rattle.probes.proofs.joining.join.Goals.{then-taken-firsts, else-taken-firsts}

pub returns-in-Err : goal.returns-in-Err
returns-in-Err c =
    let p = c.args in
    refused p.first p.second p.third.now _ c.in-Err.ensures (refusal_told c.in-Err.why)

pub merge-taken-requires : goal.merge-taken-requires
merge-taken-requires c =
    let p = c.args in
    let f = (known p.first p.second p.third.now 0 c.in_default.ensures refl).fits in
    omega arith

pub returns : goal.returns
returns c =
    let m = c.merge-taken in
    let p = c.args in
    let g = rw (c.records-firsts.ensures.cut, c.records-seconds.ensures.cut) at m.ensures in
    elim c.if-taken-firsts.branch [
      | then-taken-firsts w ↦
          second_rest p.first p.second p.third.now 0 c.in_default.ensures refl m.new.third m.result g _
          (rw c.records-firsts.ensures.cut at w.if-taken-firsts.true) (rw w.rest-is (tail p.second _ _ refl refl refl))
      | else-taken-firsts w ↦
          first_rest p.first p.second p.third.now 0 c.in_default.ensures refl m.new.third m.result g _
          (rw c.records-firsts.ensures.cut at w.if-taken-firsts.false) (rw w.rest-is (tail p.first _ _ refl refl refl))
    ]
