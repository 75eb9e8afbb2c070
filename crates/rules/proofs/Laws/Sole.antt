-- A line whose tokens all stand in one cell, as after a start or a recreation. Assumes nothing.
use Prim.Native.Nat.{ℕ, ◌<◌}
use mathlib.Core.Path.{◌≡◌, ap, ◌∙◌}
use mathlib.Core.Logic.{◌≢◌}
use mathlib.Core.Bool.{false}
use Rattle.rules.specs.Types.{Cell, Message, State}
use Rattle.rules.specs.States.{cell_at, slot_at, serial_at, bears}
use Rattle.rules.specs.WellFormed.{in_cells, in_messages}
use Rattle.rules.proofs.Laws.Sums.{sum_only, sum_zero}
use Rattle.rules.proofs.Laws.Bears.{counts_not}

-- a cell with no token and no mark
pub record Cleared (c : Cell) : Type 0 where
  pub none : c.tokens.0 ≡ 0
  pub valid : c.valid ≡ false
  pub owner : c.owner ≡ false
  pub blocked : c.blocked ≡ false
  pub backup : c.backup ≡ false

-- the line's cell at node n is x, every other is cleared, and no message counts on the line
pub record Sole (s : State) (l n : ℕ) (x : Cell) : Type 0 where
  pub node9 : n < 9
  pub cell : cell_at s l n ≡ x
  pub other : (j : ℕ) → j < 9 → j ≢ n → Cleared (cell_at s l j)
  pub unborne : (i : ℕ) → i < 64 → bears l (serial_at s l) (slot_at s i) ≡ false

module _ {s : State} {l n : ℕ} {x : Cell} (h : Sole s l n x) where
  -- a number that is 0 at cleared cells: its sum over the line is the one cell's
  pub sole_cells : (f : Cell → ℕ) → ((c : Cell) → Cleared c → f c ≡ 0) → in_cells s l f ≡ f x
  unfolding in_cells
  sole_cells f z =
      sum_only 9 n {f = λ j. f (cell_at s l j)} h.node9 (λ j hj d. z (cell_at s l j) (h.other j hj d))
      ∙ ap f h.cell

  pub sole_messages : (f : Message → ℕ) → in_messages s l f ≡ 0
  unfolding in_messages
  sole_messages f = sum_zero 64 (λ i hi. counts_not l (serial_at s l) f (slot_at s i) (h.unborne i hi))
