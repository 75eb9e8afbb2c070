use Prim.Native.Nat.{◌+◌, ◌*◌, ◌≤◌}
use mathlib.Core.Path.{◌≡◌}
use lib.ListN.{length}
use Rattle.std.specs.Slice.Iter.{chunks_exact_rest, chunks_exact_size}
use Rattle.lanes.proofs.Texts.{Texts}
use Rattle.lanes.proofs.printing.print.Given as goal

abbrev pub invariant-loop-record : goal.invariant-loop-record
invariant-loop-record l =
    (chunks_exact_size l.record-iterator ≡ 9) × (l.at + 11 * length (chunks_exact_rest l.record-iterator) ≤ length l.initial.out)
    × Texts l.initial.out l.words (chunks_exact_rest l.record-iterator) l.at l.out
