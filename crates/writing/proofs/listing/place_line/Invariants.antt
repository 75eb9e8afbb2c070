use Prim.Native.Nat.{◌+◌, ◌*◌, ◌≤◌}
use Rattle.writing.proofs.Rows.{Lining}
use Rattle.writing.proofs.listing.place_line.Given as goal

abbrev pub invariant-loop-k : goal.invariant-loop-k
invariant-loop-k l = record {
  room : l.p ≤ l.at + 11 * l.k;
  put : Lining l.initial.dst l.numbers l.at l.k l.p l.dst;
}
