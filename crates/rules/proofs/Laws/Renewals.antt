-- The change that a recreation makes: one line's cells and its serial. Assumes nothing.
use Prim.Native.Nat.{ℕ, ◌+◌, ◌*◌, ◌<◌}
use mathlib.Core.Path.{◌≡◌, refl, ap, ◌∙◌}
use mathlib.Core.Logic.{◌≢◌}
use native.Mathlib.Omega.{arith}
use lib.ListN.{length-set}
use lib.Seq.{get_or-set_same, get_or-set_other}
use Rattle.rules.specs.Types.{Serial, Cell, Message, State}
use Rattle.rules.specs.Tools.{fill_to}
use Rattle.rules.specs.States.{cell_at, slot_at, serial_at, with_cells, with_serial}
use Rattle.rules.specs.WellFormed.{in_cells, in_messages}
use Rattle.rules.specs.Cells.{zero_cell}
use Rattle.rules.proofs.Laws.Sums.{length_fill, fill_in, fill_out, sum_same}
use Rattle.rules.proofs.Laws.Views.{Sized}

-- the line l has the cells f and the serial q in the second state, and nothing else differs
pub record Renewed (s s' : State) (l : ℕ) (f : ℕ → Cell) (q : ℕ) : Type 0 where
  pub sized : Sized s'
  pub sizes : s'.sizes ≡ s.sizes
  pub serial : serial_at s' l ≡ q
  pub other_serial : (k : ℕ) → k ≢ l → serial_at s' k ≡ serial_at s k
  pub cell : (j : ℕ) → j < 9 → cell_at s' l j ≡ f j
  pub other_line : (k : ℕ) → k ≢ l → (j : ℕ) → j < 9 → cell_at s' k j ≡ cell_at s k j
  pub slot : (j : ℕ) → slot_at s' j ≡ slot_at s j

pub renewed : {s : State} (z : Sized s) (l : ℕ) (f : ℕ → Cell) (q : ℕ) → l < 16
    → Renewed s (with_serial (with_cells s (fill_to 9 (l * 9) f s.cells)) l q) l f q
unfolding with_serial cell_at slot_at serial_at
renewed {s} z l f q hl =
    record {
      sized =
          record {
            cells = length_fill (l * 9) f s.cells zero_cell 9 ∙ z.cells;
            pool = z.pool;
            serials = simp length-set z.serials;
          };
      sizes = refl;
      serial = ap (λ (x : Serial). x.0) (get_or-set_same s.serials l (record { 0 = q }) (record { 0 = 0 }) (omega arith));
      other_serial = λ k d. ap (λ (x : Serial). x.0) (get_or-set_other s.serials l k (record { 0 = q }) (record { 0 = 0 }) d);
      cell = λ j h. fill_in (l * 9) f s.cells zero_cell 9 j h (omega arith);
      other_line = λ k d j h. fill_out (l * 9) f s.cells zero_cell 9 (k * 9 + j) (λ i x. omega arith);
      slot = λ j. refl;
    }

-- other lines keep their sums
module _ {s s' : State} {l : ℕ} {f : ℕ → Cell} {q : ℕ} (r : Renewed s s' l f q) (k : ℕ) (d : k ≢ l) where
  pub other_cells : (g : Cell → ℕ) → in_cells s' k g ≡ in_cells s k g
  unfolding in_cells
  other_cells g = sum_same 9 (λ j h. ap g (r.other_line k d j h))

  pub other_messages : (g : Message → ℕ) → in_messages s' k g ≡ in_messages s k g
  unfolding in_messages
  other_messages g = sum_same 64 (λ i hi. rw (r.other_serial k d, r.slot i))
