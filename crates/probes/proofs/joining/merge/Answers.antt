use mathlib.Core.Path.{refl}
use native.Mathlib.Omega.{arith}
use Rattle.std.proofs.Common.{inl, inr}
use Rattle.probes.proofs.Going.{first_put, second_put, ended}
use Rattle.probes.proofs.joining.merge.Goals as goal
use Rattle.probes.proofs.joining.merge.Goals.{then-a-b, else-a-b, in_default, in-len1-up+in_default-seconds}

pub loop-firsts-preserved : goal.loop-firsts-preserved
loop-firsts-preserved c =
    let g = c.loop-firsts.invariant in
    let h = c.in-len1-up.len_at_least in
    let k = c.in-len1-up-seconds.len_at_least in
    elim c.if-a-b.branch [
      | then-a-b w ↦
          rw (w.third-is, w.firsts-is, w.seconds-is)
          (first_put _ _ _ _ _ _ _ g (omega arith) (omega arith) _ _ refl w.put.ensures.written w.put.ensures.kept w.if-a-b.true)
      | else-a-b w ↦
          rw (w.third-is, w.firsts-is, w.seconds-is)
          (second_put _ _ _ _ _ _ _ g (omega arith) (omega arith) _ _ refl w.put-else-a-b.ensures.written w.put-else-a-b.ensures.kept w.if-a-b.false)
    ]

pub returns : goal.returns
returns c =
    let g = c.loop-firsts.invariant in
    elim c.if-firsts-lt1.branch [
      | in_default w ↦ ended _ _ _ _ _ _ _ g (inl (omega arith)) (omega arith)
      | in-len1-up+in_default-seconds w ↦ ended _ _ _ _ _ _ _ g (inr (omega arith)) (omega arith)
    ]
