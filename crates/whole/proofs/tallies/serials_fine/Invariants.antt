use Rattle.std.proofs.Common.{◌≡◌}
use Rattle.rules.specs.Tools.{all_to}
use Rattle.rules.specs.WellFormed.{serial_fine_at}
use Rattle.whole.proofs.tallies.serials_fine.Given as goal

abbrev pub invariant-loop-line : goal.invariant-loop-line
invariant-loop-line l = l.fine ≡ all_to l.line (serial_fine_at l.s)
