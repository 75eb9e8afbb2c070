use Prim.Native.Nat.{◌*◌, ◌≤◌}
use Rattle.writing.proofs.Puts.{Printing}
use Rattle.writing.proofs.answers.print.Given as goal

abbrev pub invariant-loop-mark : goal.invariant-loop-mark
invariant-loop-mark l = record {
  words : l.a ≤ 3 * l.mark-index;
  bytes : l.at ≤ 33 * l.mark-index;
  put : Printing l.initial.dst l.marks l.answers l.mark-index l.a l.at l.dst;
}
