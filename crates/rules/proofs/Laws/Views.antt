-- A state's lists have the lengths of the arrays, and what stays where something is put back. Assumes nothing.
use Prim.Native.Nat.{ℕ, ◌+◌, ◌*◌}
use mathlib.Core.Path.{◌≡◌, refl, ap}
use lib.ListN.{length}
use lib.Seq.{set-get_or}
use Rattle.rules.specs.Types.{Cell, Sizes, State}
use Rattle.rules.specs.States.{free_message, cell_at, slot_at, with_cells, with_pool, with_cell, with_slot}
use Rattle.rules.specs.Cells.{zero_cell}

-- parts of the same sizes
pub caches_of : {y z : Sizes} → y ≡ z → y.caches ≡ z.caches
caches_of e = ap (λ (z : Sizes). z.caches) e

pub lines_of : {y z : Sizes} → y ≡ z → y.lines ≡ z.lines
lines_of e = ap (λ (z : Sizes). z.lines) e

pub total_of : {y z : Sizes} → y ≡ z → y.total.0 ≡ z.total.0
total_of e = ap (λ (z : Sizes). z.total.0) e

-- the lists have the lengths of the arrays
pub record Sized (s : State) : Type 0 where
  pub cells : length s.cells ≡ 144
  pub pool : length s.pool ≡ 64
  pub serials : length s.serials ≡ 16

-- to put back what stands there changes nothing
pub same_slot : (s : State) (i : ℕ) → with_slot s i (slot_at s i) ≡ s
unfolding with_slot slot_at
same_slot s i = ap (with_pool s) (set-get_or s.pool i free_message)

pub same_cell : (s : State) (l n : ℕ) → with_cell s l n (cell_at s l n) ≡ s
unfolding with_cell cell_at
same_cell s l n = ap (with_cells s) (set-get_or s.cells (l * 9 + n) zero_cell)

-- a cell that is put leaves the slots
pub kept_slot : (s : State) (l n : ℕ) (c : Cell) (i : ℕ) → slot_at s i ≡ slot_at (with_cell s l n c) i
unfolding with_cell slot_at
kept_slot s l n c i = refl
