-- The program, from the bytes of its input to the bytes of its output (document 01, "Batch and program"). Assumes nothing.
use Rattle.std.specs.Prelude.{ℕ, true, false, cond as pick, List, [], ◌∷◌, ◌++◌, get_or}
use Rattle.std.proofs.Math.Option.{Option, none, some}
use Rattle.rules.specs.declared.states.State.{State}
use Rattle.rules.specs.declared.events.Answer.{Answer}
use Rattle.rules.specs.declared.events.Stepped.{Stepped}
use Rattle.rules.specs.Fresh.{zero_state, start_of}
use Rattle.rules.specs.Effects.{step_of}
use Rattle.rules.specs.Runs.{event_of}
use Rattle.text.specs.Lines.{lines_of}
use Rattle.text.specs.Reading.{numbers_of, exactly}
use Rattle.writing.specs.Writing.{answer_text}
use Rattle.lines.specs.declared.kept.Kept.{Kept}

-- what is kept before the first line
abbrev pub nothing_kept : Kept
nothing_kept = record { started = false; state = zero_state }

-- the answer to a line that is not readable
abbrev pub unreadable : Answer
unreadable = record { number = 22; word = 0; slot = 64 }

-- the first line has C, L, N; after a refused or unreadable start the state is all zero
unfoldable pub start_line : Option (List ℕ) → Stepped
start_line none = record { state = zero_state; answer = unreadable }
start_line (some ns) = start_of (get_or ns 0 0) (get_or ns 1 0) (get_or ns 2 0)

-- each later line has the eight words; an unreadable line changes nothing
unfoldable pub event_line : State → Option (List ℕ) → Stepped
event_line s none = record { state = s; answer = unreadable }
event_line s (some ns) = step_of s (event_of ns)

-- what a line does
unfoldable pub line_does : Kept → List ℕ → Stepped
line_does k l = pick k.started (event_line k.state (exactly 8 (numbers_of l))) (start_line (exactly 3 (numbers_of l)))

-- what is kept after it
unfoldable pub kept_after : Kept → List ℕ → Kept
kept_after k l = record { started = true; state = (line_does k l).state }

-- number, word, slot, parted by tabs, with a line feed
unfoldable pub line_text : Answer → List ℕ
line_text a = answer_text a.number a.word a.slot

-- what is kept after lines
unfoldable pub kept_by : Kept → List (List ℕ) → Kept
kept_by k [] = k
kept_by k (l ∷ ls) = kept_by (kept_after k l) ls

-- what is printed for lines
unfoldable pub printed_by : Kept → List (List ℕ) → List ℕ
printed_by k [] = []
printed_by k (l ∷ ls) = line_text (line_does k l).answer ++ printed_by (kept_after k l) ls

-- the whole output of a whole input
unfoldable pub program : List ℕ → List ℕ
program s = printed_by nothing_kept (lines_of s)
