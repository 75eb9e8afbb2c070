use Rattle.std.proofs.Common.{◌≡◌, ◌+◌, ◌++◌, take, drop}
use Rattle.probes.proofs.records.put.Given as goal

abbrev pub invariant-loop-k : goal.invariant-loop-k
invariant-loop-k l =
    record {
      written : take (l.at + l.k) l.words ≡ take l.at l.initial.words ++ take l.k l.whole;
      kept : drop (l.at + l.k) l.words ≡ drop (l.at + l.k) l.initial.words;
    }
