use Rattle.running.proofs.Facts.Running.{Running}
use Rattle.running.proofs.turns.turns.Given as goal

abbrev pub invariant-loop-i : goal.invariant-loop-i
invariant-loop-i l = Running l.n l.events l.initial.answers l.fn.s l.answers l.run.state l.i
