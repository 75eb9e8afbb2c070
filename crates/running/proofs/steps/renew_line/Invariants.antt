use mathlib.Core.Path.{◌≡◌}
use Prim.Native.Nat.{◌*◌}
use Rattle.rules.specs.Tools.{fill_to}
use Rattle.running.specs.Steps.{renewed_at}
use Rattle.running.proofs.steps.renew_line.Given as goal

abbrev pub invariant-loop-node : goal.invariant-loop-node
invariant-loop-node l = l.cells ≡ fill_to l.node (l.line * 9) (renewed_at l.n.0 l.word l.chosen l.initial.cells l.line) l.initial.cells
