-- The change that every event but a recreation makes: one cell and one slot. Assumes nothing.
use Prim.Native.Nat.{ℕ, ◌+◌, ◌*◌, ◌≤◌, ◌<◌}
use mathlib.Core.Path.{◌≡◌, refl, ap, subst, ◌∙◌}
use mathlib.Core.Logic.{◌≢◌}
use native.Mathlib.Omega.{arith}
use lib.ListN.{length-set}
use lib.Seq.{get_or-set_same, get_or-set_other}
use Rattle.rules.specs.Types.{Cell, Message, State}
use Rattle.rules.specs.States.{free_message, cell_at, slot_at, serial_at, with_cell, with_slot}
use Rattle.rules.specs.WellFormed.{counted, in_cells, in_messages}
use Rattle.rules.specs.Cells.{zero_cell}
use Rattle.rules.proofs.Laws.Sums.{sum_change, sum_same}
use Rattle.rules.proofs.Laws.Views.{Sized, same_slot, kept_slot}
use Rattle.rules.proofs.Laws.Bears.{Off, Like, alike, apart, counts_not}

-- where a change is: a line l, a node n and a slot i within the sizes
pub record Place (s : State) (l n i : ℕ) : Type 0 where
  pub line : l < s.sizes.lines
  pub node : n ≤ s.sizes.caches
  pub line16 : l < 16
  pub node9 : n < 9
  pub slot64 : i < 64

-- the second state differs from the first in at most that cell, now c, and that slot, now m
pub record Changed (s s' : State) (l n : ℕ) (c : Cell) (i : ℕ) (m : Message) : Type 0 where
  pub place : Place s l n i
  pub sized : Sized s'
  pub sizes : s'.sizes ≡ s.sizes
  pub serial : (k : ℕ) → serial_at s' k ≡ serial_at s k
  pub cell : cell_at s' l n ≡ c
  pub other_node : (j : ℕ) → j < 9 → j ≢ n → cell_at s' l j ≡ cell_at s l j
  pub other_line : (k : ℕ) → k ≢ l → (j : ℕ) → j < 9 → cell_at s' k j ≡ cell_at s k j
  pub slot : slot_at s' i ≡ m
  pub other_slot : (j : ℕ) → j ≢ i → slot_at s' j ≡ slot_at s j

module _ {s : State} (z : Sized s) {l n i : ℕ} (p : Place s l n i) where
  -- a cell and a slot replaced
  pub landed_changes : (c : Cell) (m : Message) → Changed s (with_slot (with_cell s l n c) i m) l n c i m
  unfolding with_slot with_cell cell_at slot_at serial_at
  landed_changes c m =
      record {
        place = p;
        sized = record { cells = simp length-set z.cells; pool = simp length-set z.pool; serials = z.serials };
        sizes = refl;
        serial = λ k. refl;
        cell = get_or-set_same s.cells (l * 9 + n) c zero_cell (omega arith);
        other_node = λ j h d. get_or-set_other s.cells (l * 9 + n) (l * 9 + j) c zero_cell (omega arith);
        other_line = λ k d j h. get_or-set_other s.cells (l * 9 + n) (k * 9 + j) c zero_cell (omega arith);
        slot = get_or-set_same s.pool i m free_message (omega arith);
        other_slot = λ j d. get_or-set_other s.pool i j m free_message d;
      }

  -- a cell replaced: the slot is put back as it is
  pub cell_changes : (c : Cell) → Changed s (with_cell s l n c) l n c i (slot_at s i)
  cell_changes c =
      subst (λ t. Changed s t l n c i (slot_at s i)) (same_slot (with_cell s l n c) i)
      (subst (λ x. Changed s (with_slot (with_cell s l n c) i x) l n c i (slot_at s i)) (kept_slot s l n c i)
      (landed_changes c (slot_at s i)))

-- sums over a line's cells and messages after a change
module _ {s s' : State} {l n : ℕ} {c : Cell} {i : ℕ} {m : Message} (ch : Changed s s' l n c i m) where
  pub cells_at : (f : Cell → ℕ) → in_cells s' l f + f (cell_at s l n) ≡ in_cells s l f + f c
  unfolding in_cells
  cells_at f =
      sum_change 9 n {f = λ j. f (cell_at s l j)} {g = λ j. f (cell_at s' l j)} ch.place.node9 (λ j h d. ap f (ch.other_node j h d))
      ∙ rw ch.cell

  pub cells_other : (k : ℕ) → k ≢ l → (f : Cell → ℕ) → in_cells s' k f ≡ in_cells s k f
  unfolding in_cells
  cells_other k d f = sum_same 9 (λ j h. ap f (ch.other_line k d j h))

  pub messages_at : (k : ℕ) (f : Message → ℕ)
      → in_messages s' k f + counted k (serial_at s k) f (slot_at s i) ≡ in_messages s k f + counted k (serial_at s k) f m
  unfolding in_messages
  messages_at k f =
      rw (ch.serial k)
      (sum_change 64 i {f = λ j. counted k (serial_at s k) f (slot_at s j)} {g = λ j. counted k (serial_at s k) f (slot_at s' j)} ch.place.slot64
      (λ j h d. ap (counted k (serial_at s k) f) (ch.other_slot j d))
      ∙ rw ch.slot)

  pub messages_other : Like l (slot_at s i) m → (k : ℕ) → k ≢ l → (f : Message → ℕ) → in_messages s' k f ≡ in_messages s k f
  unfolding Off
  messages_other (alike e) k d f = omega (arith, messages_at k f, ap (counted k (serial_at s k) f) e)
  messages_other (apart o p) k d f =
      omega (
        arith,
        messages_at k f,
        counts_not k (serial_at s k) f (slot_at s i) (o k (serial_at s k) d),
        counts_not k (serial_at s k) f m (p k (serial_at s k) d),
      )
