-- The step and the batch, from the run. Assumes nothing.
use Prim.Native.Nat.{ℕ, suc, ◌+◌, ◌*◌, ◌/◌, ◌%◌, ◌≤◌}
use mathlib.Core.Path.{◌≡◌, refl, ap, ◌∙◌}
use mathlib.Core.List.{List, [], ◌∷◌}
use native.Mathlib.Omega.{arith}
use lib.ListN.{length, get_or}
use lib.Seq.{sets, sets-eq}
use lib.Dec.{eqb, ltb}
use borrow.Author.Tests.{ne_eqb, ltb-false, le-leb}
use Rattle.rules.specs.declared.refusals.Refusal.{Refusal}
use Rattle.rules.specs.Kinds.{number_of}
use Rattle.model.specs.Types.{State, Event, Answer, Stepped, Batched}
use Rattle.rules.specs.Effects.{answer, step_of}
use Rattle.rules.specs.Runs.{run_of, answers_of, words_of, events_to, events_of, count_of, batch_number, batch_of, batch_answers}
use Rattle.running.specs.Words.{runnable}
use Rattle.rules.proofs.Laws.Bools.{split}
use Rattle.running.proofs.Facts.Turns.{number_some}
use Rattle.running.proofs.Facts.Ill.{events_long}

-- the words of an event record
abbrev pub words_in : Event → List ℕ
words_in e = e.kind ∷ e.line ∷ e.node ∷ e.other ∷ e.amount ∷ e.owner ∷ e.full ∷ e.word ∷ []

-- a run over one event is its step
pub step_ran : (s : State) (e : Event) {t : State} {o : List ℕ} {a : Answer} → t ≡ run_of s (events_to (runnable 8 3) (words_in e))
    → o ≡ sets (0 ∷ 0 ∷ 0 ∷ []) 0 (words_of (answers_of s (events_to (runnable 8 3) (words_in e)))) → a ≡ answer (get_or o 0 0) (get_or o 1 0) (get_or o 2 0)
    → ◌≡◌ {A = Stepped} (record { state = t; answer = a }) (step_of s e)
unfolding run_of answers_of words_of events_to runnable
step_ran s e ht ho ha = rw (ht, ha, ho)

-- how long the lists are
answers_long : (s : State) (es : List Event) → length (answers_of s es) ≡ length es
unfolding answers_of
answers_long s [] = refl
answers_long s (e ∷ es) = ap suc (answers_long (step_of s e).state es)

words_long : (answers : List Answer) → length (words_of answers) ≡ 3 * length answers
unfolding words_of
words_long [] = refl
words_long (a ∷ answers) = let h = words_long answers in omega arith

module _ (s : State) (ws o : List ℕ) where
  pub batch_refused : (why : Refusal) → number_of why ≡ batch_number ws o
      → (◌≡◌ {A = Batched} (record { number = number_of why; state = s; count = 0 }) (batch_of s ws o)) × (o ≡ batch_answers s ws o)
  unfolding batch_of batch_answers
  batch_refused why h =
      let some = ne_eqb (number_of why) 0 (number_some why) in
      (rw (← h, some), rw (← h, some))

  module _ (taken : 0 ≡ batch_number ws o) where
    room : length ws / 8 ≤ length o / 3
    unfolding batch_number
    room =
        split (eqb (length ws % 8) 0)
        (λ t. split (ltb (length o) (3 * (length ws / 8))) (λ y. absurd (omega (arith, rw (t, y) at taken))) (λ n. omega (arith, ltb-false (length o) (3 * (length ws / 8)) n)))
        (λ f. absurd (omega (arith, rw f at taken)))

    written : sets o 0 (words_of (answers_of s (events_of ws))) ≡ batch_answers s ws o
    unfolding batch_answers
    written =
        let n : length (words_of (answers_of s (events_of ws))) ≡ 3 * count_of ws = words_long (answers_of s (events_of ws)) ∙ ap (λ k. 3 * k) (answers_long s (events_of ws) ∙ events_long (count_of ws) ws) in
        let r = room in
        sets-eq (words_of (answers_of s (events_of ws))) o 0 (omega arith)
        ∙ (let z : 0 + length (words_of (answers_of s (events_of ws))) ≡ 3 * count_of ws = omega arith in rw (z, ← taken))

    all : runnable (length ws) (length o) ≡ length ws / 8
    unfolding runnable
    all = rw (le-leb (length ws / 8) (length o / 3) room)

    pub batch_ran : {t : State} {o' : List ℕ} {n : ℕ} → t ≡ run_of s (events_to (runnable (length ws) (length o)) ws) → o' ≡ sets o 0 (words_of (answers_of s (events_to (runnable (length ws) (length o)) ws)))
        → n ≡ count_of ws → (◌≡◌ {A = Batched} (record { number = 0; state = t; count = n }) (batch_of s ws o)) × (o' ≡ batch_answers s ws o)
    unfolding batch_of
    batch_ran ht ho hn = (rw (ht, all, ← taken, hn), (rw all at ho) ∙ written)
