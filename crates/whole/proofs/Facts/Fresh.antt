-- Laws of a start. Assumes nothing.
use Prim.Native.Nat.{ℕ, ◌+◌, ◌*◌}
use mathlib.Core.Path.{◌≡◌, refl, ap}
use mathlib.Core.List.{List}
use native.Mathlib.Numerals.{add-one}
use lib.ListN.{set, replicate}
use mathlib.Core.Bool.{false}
use Rattle.whole.specs.Types.{Cell, State, Stepped}
use Rattle.rules.specs.declared.events.Answer.{Answer}
use Rattle.rules.specs.Effects.{answer}
use Rattle.rules.specs.WellFormed.{sizes_fine}
use Rattle.rules.specs.Cells.{zero_cell}
use Rattle.rules.specs.Fresh.{memory_cell, fresh_cells, sizes, fresh, zero_state, start_of}

-- the cells before the first line, and after one line more
pub fresh_none : {x : Cell} (c n : ℕ) → x ≡ zero_cell → replicate 144 x ≡ fresh_cells 0 c n
unfolding fresh_cells
fresh_none c n h = ap (replicate 144) h

pub fresh_more : {cs : List Cell} {m : Cell} (l c n : ℕ) → cs ≡ fresh_cells l c n → m ≡ memory_cell n → set cs (l * 9 + c) m ≡ fresh_cells (l + 1) c n
unfolding fresh_cells
fresh_more l c n h e = rw (add-one, h, e)

pub fresh_zero : fresh 0 0 0 ≡ zero_state
unfolding fresh fresh_cells zero_state
fresh_zero = refl

-- a start that is refused
pub start_refused : (c l n : ℕ) → sizes_fine (sizes c l n) ≡ false → {s : State} {a : Answer} → s ≡ fresh 0 0 0 → a ≡ answer 19 0 64
    → ◌≡◌ {A = Stepped} (record { state = s; answer = a }) (start_of c l n)
unfolding start_of
start_refused c l n f hs ha = rw (hs, ha, f, fresh_zero)
