use Rattle.std.proofs.Common.{◌≡◌, ◌≤◌, ◌*◌, true, get_or}
use Rattle.rules.specs.Tools.{all_to, sum_to}
use Rattle.rules.specs.Cells.{zero_cell}
use Rattle.rules.specs.WellFormed.{held, cell_fine}
use Rattle.whole.proofs.tallies.check_line.Given as goal

abbrev pub invariant-loop-node : goal.invariant-loop-node
invariant-loop-node l = record {
  fine : all_to l.node (λ n. cell_fine l.z l.line n (get_or l.nine n zero_cell)) ≡ true;
  sum : l.tokens ≡ sum_to l.node (λ n. held (get_or l.nine n zero_cell));
  small : l.tokens ≤ 255 * l.node;
}
