-- What the passes of the whole-state check leave; cited by private functions alone. Assumes nothing.
use Rattle.std.specs.Prelude.{ℕ, ◌+◌, ◌≤◌, ◌<◌, Bool, true, ◌&&◌, ◌≡◌, List, length, get_or}
use Rattle.whole.specs.Types.{Serial, Cell, Message, Sizes, State}
use Rattle.rules.specs.Tools.{all_to, sum_to}
use Rattle.rules.specs.WellFormed.{held, borne, in_cells, in_messages, counted, tokens_of, cell_fine, line_fine, slot_fine}
use Rattle.rules.specs.Cells.{zero_cell}

-- a line's nine cells are fine
abbrev pub nine_fine : Sizes → ℕ → List Cell → Bool
nine_fine z line nine = all_to 9 (λ n. cell_fine z line n (get_or nine n zero_cell))

-- a line's nine cells are fine, with their sum
pub record LineTallied (z : Sizes) (line : ℕ) (nine : List Cell) (tokens : ℕ) : Type 0 where
  pub fine : nine_fine z line nine ≡ true
  pub sum : tokens ≡ sum_to 9 (λ n. held (get_or nine n zero_cell))
  pub small : tokens ≤ 2295

-- all cells are fine, with the sum of each line in a table
pub record CellsTallied (s : State) (sums : List ℕ) : Type 0 where
  pub fine : all_to 16 (line_fine s) ≡ true
  pub sum : (k : ℕ) → k < 16 → get_or sums k 0 ≡ in_cells s k held
  pub small : (k : ℕ) → k < 16 → get_or sums k 0 ≤ 2295

-- all messages are fine, with what they add to the table
pub record PoolTallied (s : State) (before sums : List ℕ) : Type 0 where
  pub fine : all_to 64 (slot_fine s) ≡ true
  pub long : length sums ≡ 16
  pub sum : (k : ℕ) → k < 16 → get_or sums k 0 ≡ get_or before k 0 + in_messages s k borne

-- a table with a message's tokens added to its line
pub record Added (before : List ℕ) (serials : List Serial) (m : Message) (sums : List ℕ) : Type 0 where
  pub sum : (k : ℕ) → k < 16 → get_or sums k 0 ≡ get_or before k 0 + counted k (get_or serials k (record { 0 = 0 })).0 borne m
  pub small : (k : ℕ) → k < 16 → get_or sums k 0 ≤ get_or before k 0 + 255

-- all cells and all messages are fine
abbrev pub parts_fine : State → Bool
parts_fine s = all_to 16 (line_fine s) && all_to 64 (slot_fine s)

-- all cells and all messages are fine, with the tokens of each line
pub record Tallied (s : State) (sums : List ℕ) : Type 0 where
  pub fine : parts_fine s ≡ true
  pub long : length sums ≡ 16
  pub sum : (k : ℕ) → k < 16 → get_or sums k 0 ≡ tokens_of s k
