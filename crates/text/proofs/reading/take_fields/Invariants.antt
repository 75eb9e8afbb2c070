use Prim.Native.Nat.{◌≤◌}
use lib.ListN.{length}
use Rattle.text.proofs.Takes.{Left}
use Rattle.text.proofs.reading.take_fields.Given as goal

abbrev pub invariant-loop-count : goal.invariant-loop-count
invariant-loop-count l = (l.i ≤ length l.s) × Left l.s l.from l.i l.count l.words
