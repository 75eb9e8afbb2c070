-- Runs from a start, and what is said of a list of events and their answers. Assumes nothing.
use Rattle.std.specs.Prelude.{ℕ, ◌<◌, ◌≡◌, Bool, true, false, not, ◌&&◌, ◌||◌, cond as pick, List, [], ◌∷◌, eqb, get_or, take}
use Rattle.coherence.specs.Types.{State, Event, Answer}
use Rattle.rules.specs.States.{slot_at}
use Rattle.rules.specs.Fresh.{start_of}
use Rattle.rules.specs.Refusals.{reading, writing, timeout, slotted, free_at}
use Rattle.rules.specs.Effects.{answer, step_of}
use Rattle.rules.specs.Runs.{run_of, answers_of}

-- the start of c caches, l lines and n tokens is accepted
abbrev pub Started : ℕ → ℕ → ℕ → Type 0
Started c l n = (start_of c l n).answer.number ≡ 0

-- the state after that start and the events
abbrev pub after : ℕ → ℕ → ℕ → List Event → State
after c l n es = run_of (start_of c l n).state es

-- the answers to the events
abbrev pub answers : ℕ → ℕ → ℕ → List Event → List Answer
answers c l n es = answers_of (start_of c l n).state es

-- the state after that start and the first i of the events
abbrev pub state_at : ℕ → ℕ → ℕ → List Event → ℕ → State
state_at c l n es i = after c l n (take i es)

-- the answer to event i, counted from 0
abbrev pub answer_at : ℕ → ℕ → ℕ → List Event → ℕ → Answer
answer_at c l n es i = get_or (answers c l n es) i (answer 0 0 64)

-- the event was an accepted write to the line
abbrev pub wrote : Event → Answer → ℕ → Bool
wrote e a line = eqb a.number 0 && (writing e.kind && eqb e.line line)

-- the word of the last accepted write to the line among the events, the first of them with the first answer and so on; or w if there is none
unfoldable pub last_write_after : ℕ → List Event → List Answer → ℕ → ℕ
last_write_after line [] answers w = w
last_write_after line (e ∷ es) [] w = w
last_write_after line (e ∷ es) (a ∷ answers) w = last_write_after line es answers (pick (wrote e a line) e.word w)

-- the same, or 0 if there is none
unfoldable pub last_write : List Event → List Answer → ℕ → ℕ
last_write es answers line = last_write_after line es answers 0

-- the event was an accepted delivery or drop of slot i
abbrev pub emptied_by : ℕ → Event → Answer → Bool
emptied_by i e a = eqb a.number 0 && (slotted e.kind && eqb e.amount i)

-- none of the events, with their answers, emptied slot i
unfoldable pub stays : ℕ → List Event → List Answer → Bool
stays i [] answers = true
stays i (e ∷ es) [] = true
stays i (e ∷ es) (a ∷ answers) = not (emptied_by i e a) && stays i es answers

-- every event is a read or a write
unfoldable pub reads_and_writes : List Event → Bool
reads_and_writes [] = true
reads_and_writes (e ∷ es) = (reading e.kind || writing e.kind) && reads_and_writes es

-- slot i holds a message of the line whose tokens the accepted timeout r recreates
pub record Overtaken (s : State) (r : Event) (i : ℕ) : Type 0 where
  pub slot : i < 64
  pub message : free_at s i ≡ false
  pub line : (slot_at s i).line ≡ r.line
  pub recreates : timeout r.kind ≡ true
  pub accepted : (step_of s r).answer.number ≡ 0

-- the state after one event and then a list of events
abbrev pub onward : State → Event → List Event → State
onward s r es = run_of (step_of s r).state es
