use Prim.Native.Nat.{◌*◌, ◌≤◌}
use mathlib.Core.Path.{◌≡◌}
use Rattle.text.specs.Chunks.{room}
use Rattle.text.proofs.Events.{Going}
use Rattle.text.proofs.chunks.parse.Given as goal

abbrev pub invariant-loop-lines : goal.invariant-loop-lines
invariant-loop-lines l =
    (l.k ≡ room l.most l.initial.words l.initial.marks) × (l.at ≤ 8 * l.lines) × Going l.s l.initial.words l.initial.marks l.k l.next l.lines l.at l.words l.marks
