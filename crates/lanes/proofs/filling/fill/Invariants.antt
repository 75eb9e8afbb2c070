use Prim.Native.Nat.{◌/◌}
use lib.ListN.{length}
use Rattle.lanes.proofs.Lined.{Filling}
use Rattle.lanes.proofs.filling.fill.Given as goal

abbrev pub invariant-loop-j : goal.invariant-loop-j
invariant-loop-j l = Filling l.s l.initial.words l.time (length l.initial.words / 9) l.j l.so_far l.words
