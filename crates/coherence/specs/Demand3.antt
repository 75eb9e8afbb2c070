-- Demand 3, of a start of c caches, l lines and n tokens and a list of events. Assumes nothing.
use Rattle.std.specs.Prelude.{ℕ, ◌≤◌, ◌<◌, ◌≡◌, ◌≢◌, true, false, List, ◌∷◌, ◌++◌, length}
use Rattle.coherence.specs.Types.{State, Event}
use Rattle.coherence.specs.Histories.{answers, state_at, answer_at, last_write}
use Rattle.rules.specs.States.{cell_at, slot_at, serial_at, bears}
use Rattle.rules.specs.WellFormed.{well_formed}
use Rattle.rules.specs.Cells.{able_to_write}
use Rattle.rules.specs.Refusals.{reading, nothing_left}

-- no node up to c but this one holds a token of the line
abbrev pub OthersEmpty : ℕ → State → ℕ → ℕ → Type 0
OthersEmpty c s line node = (other : ℕ) → other ≤ c → other ≢ node → (cell_at s line other).tokens.0 ≡ 0

-- no message of the line that bears the line's serial has a token
abbrev pub NoneInFlight : State → ℕ → Type 0
NoneInFlight s line = (i : ℕ) → i < 64 → bears line (serial_at s line) (slot_at s i) ≡ true → (slot_at s i).tokens.0 ≡ 0

module _ (c l n : ℕ) (es : List Event) where
  -- the number is the answer to none of the events
  abbrev pub Never : ℕ → Type 0
  Never number = (i : ℕ) → i < length es → (answer_at c l n es i).number ≢ number

  -- every state of the run is well formed, and number 1 is never given
  abbrev pub StaysWellFormed : Type 0
  StaysWellFormed = ((i : ℕ) → well_formed (state_at c l n es i) ≡ true) × Never 1

  -- a read that is accepted answers the word of the last accepted write to its line before it, or 0
  abbrev pub ReadsLastWrite : Type 0
  ReadsLastWrite =
      (before : List Event) (e : Event) (rest : List Event)
      → es ≡ before ++ (e ∷ rest)
      → reading e.kind ≡ true
      → (answer_at c l n es (length before)).number ≡ 0
      → (answer_at c l n es (length before)).word ≡ last_write before (answers c l n es) e.line

  -- in every state of the run, if a node is able to write a line, no other node and no message of the line's serial has a token of it
  abbrev pub WriterAlone : Type 0
  WriterAlone =
      (i line node : ℕ) → line < l → node ≤ c
      → able_to_write n (cell_at (state_at c l n es i) line node) ≡ true
      → OthersEmpty c (state_at c l n es i) line node × NoneInFlight (state_at c l n es i) line

  -- in every state of the run each line has an owner, a valid cell or a backup, and number 18 is never given
  abbrev pub CopyRemains : Type 0
  CopyRemains = ((i line : ℕ) → line < l → nothing_left (cell_at (state_at c l n es i) line) ≡ false) × Never 18

  -- the four together
  abbrev pub Demand3 : Type 0
  Demand3 = StaysWellFormed × ReadsLastWrite × WriterAlone × CopyRemains
