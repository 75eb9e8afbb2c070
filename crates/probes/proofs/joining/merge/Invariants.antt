use Prim.Native.Nat.{◌+◌}
use lib.ListN.{length}
use Rattle.probes.proofs.Going.{Going}
use Rattle.probes.proofs.joining.merge.Given as goal

abbrev pub invariant-loop-firsts : goal.invariant-loop-firsts
invariant-loop-firsts l = Going l.first l.second l.firsts l.seconds l.initial.third l.third l.at

abbrev pub decreases-loop-firsts : goal.decreases-loop-firsts
decreases-loop-firsts l = length l.firsts + length l.seconds
