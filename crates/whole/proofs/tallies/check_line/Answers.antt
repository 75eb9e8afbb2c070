use Rattle.rules.proofs.Facts.Loops.{all_more, all_none, sum_more, sum_none}
use Rattle.rules.specs.WellFormed.{held, cell_fine}
use Rattle.rules.specs.Cells.{zero_cell}
use Rattle.whole.proofs.Facts.Tables.{all_fails}
use lib.ListN.{get_or}
use native.Mathlib.Omega.{arith}
use mathlib.Core.Path.{refl, sym}
use Rattle.whole.proofs.tallies.check_line.Goals as goal

pub loop-node-init : goal.loop-node-init
loop-node-init c = record { fine = sym (all_none _); sum = sum_none _; small = omega arith }

pub returns-then-not-cell_fine : goal.returns-then-not-cell_fine
returns-then-not-cell_fine c =
    let a = c.args in
    all_fails 9 c.loop-node.node (λ n. cell_fine a.z a.line n (get_or a.nine.now n zero_cell)) (omega (arith, c.requires, c.loop-node-test.true)) (sym c.if-not-cell_fine.ensures)

pub loop-node-preserved : goal.loop-node-preserved
loop-node-preserved c =
    let a = c.args in
    let w = c.loop-node.invariant in
    record {
      fine = sym (all_more _ (λ n. cell_fine a.z a.line n (get_or a.nine.now n zero_cell)) (sym w.fine) c.if-not-cell_fine.ensures);
      sum = sum_more _ (λ n. held (get_or a.nine.now n zero_cell)) w.sum refl;
      small = omega arith;
    }
