use Prim.Native.Nat.{◌+◌, ◌<◌}
use Rattle.text.specs.Parts.{Digits}
use Rattle.text.proofs.numbers.digits.Given as goal

abbrev pub invariant-loop-k : goal.invariant-loop-k
invariant-loop-k l = (l.value < 10000000000) × Digits l.s l.from (l.from + l.k) l.value
