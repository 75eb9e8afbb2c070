-- A run over a state that is not well formed, and an event of no kind. Assumes nothing.
use Prim.Native.Nat.{ℕ, zero, suc, ◌<◌}
use borrow.Author.Tests.{lt-ltb}
use Rattle.rules.specs.declared.refusals.Refusal.TheVariants.{Unknown}
use mathlib.Core.Bool.{true, false}
use mathlib.Core.Path.{◌≡◌, refl, sym, ap, ◌∙◌}
use mathlib.Core.List.{List, [], ◌∷◌}
use lib.ListN.{length, drop, replicate}
use Rattle.running.specs.Types.{State, Event}
use Rattle.rules.specs.WellFormed.{well_formed}
use Rattle.rules.specs.Refusals.{refusal, table, given}
use Rattle.rules.specs.Effects.{answer, answered, step_of}
use Rattle.rules.specs.Runs.{run_of, answers_of, words_of, events_to}
use Rattle.running.specs.Steps.{stepped}
use Rattle.running.proofs.Facts.Running.{refusals}
use Rattle.running.proofs.Facts.Turns.{refused}

-- a state that is not well formed answers 1 to every event
module _ (s : State) (ill : well_formed s ≡ false) where
  ill_number : (e : Event) → refusal s e ≡ 1
  unfolding refusal table given
  ill_number e = rw ill

  ill_step : (e : Event) → step_of s e ≡ answered s 1 0 64
  unfolding step_of
  ill_step e = rw (ill_number e)

  ill_run : (es : List Event) → run_of s es ≡ s
  unfolding run_of
  ill_run [] = refl
  ill_run (e ∷ es) = rw (ill_step e) (ill_run es)

  ill_answers : (es : List Event) → answers_of s es ≡ replicate (length es) (answer 1 0 64)
  unfolding answers_of
  ill_answers [] = refl
  ill_answers (e ∷ es) = rw (ill_step e) (ap (λ rest. answer 1 0 64 ∷ rest) (ill_answers es))

-- an event of no kind is refused with 2
pub unknown_refused : (t : State) (e : Event) → well_formed t ≡ true → 9 < e.kind → step_of t e ≡ stepped t (answer 2 0 64)
unfolding refusal table given
unknown_refused t e w h = refused t e Unknown (rw (w, lt-ltb 9 e.kind h))

-- how many events there are
pub events_long : (k : ℕ) (ws : List ℕ) → length (events_to k ws) ≡ k
unfolding events_to
events_long zero ws = refl
events_long (suc k) ws = ap suc (events_long k (drop 8 ws))

-- a run that answers 1 to each event is the run over such a state
pub ill_ran : (s : State) → well_formed s ≡ false → (n : ℕ) (ws : List ℕ)
    → (s ≡ run_of s (events_to n ws)) × (refusals n ≡ words_of (answers_of s (events_to n ws)))
ill_ran s ill n ws = (
  sym (ill_run s ill (events_to n ws)),
  ap words_of (sym (ill_answers s ill (events_to n ws) ∙ ap (λ n. replicate n (answer 1 0 64)) (events_long n ws))),
)
