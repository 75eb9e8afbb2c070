-- Runs over a list of events, and the batch (document 01, "Batch and program"). Assumes nothing.
use Rattle.std.specs.Prelude.{ℕ, zero, suc, ◌*◌, ◌/◌, ◌%◌, not, cond as pick, List, [], ◌∷◌, ◌++◌, eqb, ltb, length, get_or, drop}
use Rattle.rules.specs.Types.{State, Event, Answer, Batched}
use Rattle.rules.specs.Effects.{step_of}

-- the state after the events
unfoldable pub run_of : State → List Event → State
run_of s [] = s
run_of s (e ∷ es) = run_of (step_of s e).state es

-- the answers to the events
unfoldable pub answers_of : State → List Event → List Answer
answers_of s [] = []
answers_of s (e ∷ es) = let r = step_of s e in r.answer ∷ answers_of r.state es

-- the event record in the first eight words
abbrev pub event_of : List ℕ → Event
event_of ws =
    record {
      kind = get_or ws 0 0;
      line = get_or ws 1 0;
      node = get_or ws 2 0;
      other = get_or ws 3 0;
      amount = get_or ws 4 0;
      owner = get_or ws 5 0;
      full = get_or ws 6 0;
      word = get_or ws 7 0;
    }

-- k events, eight words at a time from where the last one ended
unfoldable pub events_to : ℕ → List ℕ → List Event
events_to zero ws = []
events_to (suc k) ws = event_of ws ∷ events_to k (drop 8 ws)

-- the count of events in a list of words
abbrev pub count_of : List ℕ → ℕ
count_of ws = length ws / 8

-- the events in a list of words
abbrev pub events_of : List ℕ → List Event
events_of ws = events_to (count_of ws) ws

-- the words of answers, three for each
unfoldable pub words_of : List Answer → List ℕ
words_of [] = []
words_of (a ∷ answers) = a.number ∷ a.word ∷ a.slot ∷ words_of answers

-- a batch's number: 20, word count not a multiple of 8; 21, fewer than 3 answer words for each event; 20 first
unfoldable pub batch_number : List ℕ → List ℕ → ℕ
batch_number ws answers = pick (not (eqb (length ws % 8) 0)) 20 (pick (ltb (length answers) (3 * count_of ws)) 21 0)

-- what a batch returns: with 20 or 21 the state as it was and no event run, else the state and the count of the run
unfoldable pub batch_of : State → List ℕ → List ℕ → Batched
batch_of s ws answers =
    pick (eqb (batch_number ws answers) 0) (record { number = 0; state = run_of s (events_of ws); count = count_of ws })
    (record { number = batch_number ws answers; state = s; count = 0 })

-- what the answer words hold after it: with 20 or 21 what they held, else the answers, and past them what they held
unfoldable pub batch_answers : State → List ℕ → List ℕ → List ℕ
batch_answers s ws answers =
    pick (eqb (batch_number ws answers) 0) (words_of (answers_of s (events_of ws)) ++ drop (3 * count_of ws) answers) answers
