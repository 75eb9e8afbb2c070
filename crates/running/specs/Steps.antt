-- What a run does with one event. Assumes nothing.
use Rattle.std.specs.Prelude.{◌≡◌, ℕ, ◌+◌, ◌*◌, ◌<◌, Bool, ◌||◌, Result, Ok, Err, List, eqb, get_or}
use Rattle.rules.specs.declared.refusals.Refusal.{Refusal}
use Rattle.running.specs.Types.{Cell, State, Answer, Stepped}
use Rattle.rules.specs.Cells.{zero_cell}
use Rattle.rules.specs.Kinds.{number_of}
use Rattle.rules.specs.Refusals.{reading, writing, wanting_read, wanting_write}
use Rattle.rules.specs.Effects.{answer, after_recreation}
use Rattle.renewals.specs.Nines.{nth}

-- kinds 0, 1, 5, 6: a read, a write, a want
abbrev pub touching : ℕ → Bool
touching k = reading k || writing k || wanting_read k || wanting_write k

-- the answer that is given for what may be refused
abbrev pub said : Result Answer Refusal → Answer
said (Ok a) = a
said (Err why) = answer (number_of why) 0 64

-- a state and an answer
abbrev pub stepped : State → Answer → Stepped
stepped s a = record { state = s; answer = a }

-- nine cells are those of a line
pub record LineCopied (cells : List Cell) (line : ℕ) (nine : List Cell) : Type 0 where
  pub same : (n : ℕ) → n < 9 → nth nine n ≡ get_or cells (line * 9 + n) zero_cell

-- a node's cell of a line after a recreation with n tokens and this word for the chosen node
abbrev pub renewed_at : ℕ → ℕ → ℕ → List Cell → ℕ → ℕ → Cell
renewed_at n word chosen cells line node = after_recreation n word (eqb node chosen) (get_or cells (line * 9 + node) zero_cell)
