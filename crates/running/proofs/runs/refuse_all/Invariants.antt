use Rattle.rules.specs.Runs.{words_of}
use Rattle.rules.specs.Effects.{answer}
use lib.Seq.{sets}
use lib.ListN.{replicate}
use mathlib.Core.Path.{◌≡◌}
use Prim.Native.Nat.{◌-◌, ◌*◌}
use Rattle.running.proofs.runs.refuse_all.Given as goal

abbrev pub invariant-loop-i : goal.invariant-loop-i
invariant-loop-i l = sets l.answers (l.i * 3) (words_of (replicate (l.n - l.i) (answer 1 0 64))) ≡ sets l.initial.answers 0 (words_of (replicate l.n (answer 1 0 64)))
