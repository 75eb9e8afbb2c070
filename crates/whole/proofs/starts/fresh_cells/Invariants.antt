use Rattle.std.proofs.Common.{◌≡◌}
use Rattle.rules.specs.Fresh.{fresh_cells}
use Rattle.whole.proofs.starts.fresh_cells.Given as goal

abbrev pub invariant-loop-line : goal.invariant-loop-line
invariant-loop-line l = l.cells ≡ fresh_cells l.line l.z.caches l.z.total.0
