use Rattle.whole.proofs.Facts.Tables.{all_fails, nine_is, nine_sum}
use Rattle.rules.proofs.Facts.Loops.{all_more, all_none, table_more}
use Rattle.rules.specs.WellFormed.{held, in_cells, line_fine}
use lib.ListN.{length-set}
use native.Mathlib.Omega.{arith}
use mathlib.Core.Path.{◌≡◌, refl, sym, ◌∙◌}
use Prim.Native.Nat.{◌≤◌}
use Rattle.whole.proofs.tallies.check_cells.Goals as goal

pub loop-line-init : goal.loop-line-init
loop-line-init c = record { long = refl; fine = sym (all_none _); sums = λ k h. absurd (omega arith) }

pub returns-in_err-sums : goal.returns-in_err-sums
returns-in_err-sums c =
    let s = c.args.s.now in
    let line = c.loop-line.line in
    rw c.from_residual.ensures (all_fails 16 line (line_fine s) c.loop-line-test.true (sym (nine_is s line _ (omega arith)) ∙ c.in_err-sums.ensures))

pub loop-line-preserved : goal.loop-line-preserved
loop-line-preserved c =
    let s = c.args.s.now in
    let line = c.loop-line.line in
    let w = c.loop-line.invariant in
    let one = c.in_ok-sums.ensures in
    record {
      long = simp length-set w.long;
      fine = sym (all_more _ (line_fine s) (sym w.fine) (sym one.fine ∙ nine_is s line _ (omega arith)));
      sums = table_more 0 (λ k x. (x ≡ in_cells s k held) × (x ≤ 2295)) c.loop-line.sums line _ (omega (arith, w.long, c.loop-line-test.true)) w.sums (one.sum ∙ nine_sum s line _ (omega arith), one.small);
    }
