use Rattle.std.proofs.Common.{◌≡◌, ◌≤◌, ◌<◌, ℕ, true, length, get_or}
use Rattle.rules.specs.Tools.{all_to}
use Rattle.rules.specs.WellFormed.{held, in_cells, line_fine}
use Rattle.whole.proofs.tallies.check_cells.Given as goal

abbrev pub invariant-loop-line : goal.invariant-loop-line
invariant-loop-line l = record {
  long : length l.sums ≡ 16;
  fine : all_to l.line (line_fine l.s) ≡ true;
  sums : (k : ℕ) → k < l.line → (get_or l.sums k 0 ≡ in_cells l.s k held) × (get_or l.sums k 0 ≤ 2295);
}
