use mathlib.Core.Path.{◌≡◌}
use Rattle.text.specs.Parts.{tabbed}
use Rattle.text.proofs.reading.is_plain.Given as goal

abbrev pub invariant-loop-k : goal.invariant-loop-k
invariant-loop-k l = l.fine ≡ tabbed l.k l.s l.from
