use Rattle.std.proofs.Common.{◌≡◌, ◌≤◌, ◌<◌, ◌+◌, ◌*◌, ℕ, true, length, get_or}
use Rattle.rules.specs.Tools.{all_to, sum_to}
use Rattle.rules.specs.States.{serial_at, slot_at}
use Rattle.rules.specs.WellFormed.{borne, counted, slot_fine}
use Rattle.whole.proofs.tallies.check_pool.Given as goal

abbrev pub invariant-loop-m : goal.invariant-loop-m
invariant-loop-m l = record {
  long : length l.sums ≡ 16;
  fine : all_to l.m-index (slot_fine l.s) ≡ true;
  sum : (k : ℕ) → k < 16 → get_or l.sums k 0 ≡ get_or l.initial.sums k 0 + sum_to l.m-index (λ j. counted k (serial_at l.s k) borne (slot_at l.s j));
  small : (k : ℕ) → k < 16 → get_or l.sums k 0 ≤ 2295 + 255 * l.m-index;
}
