-- The run's loop: what is left of the events, from where the loop is, gives what the whole list gives from the start. Assumes nothing.
use Prim.Native.Nat.{ℕ, suc, ◌+◌, ◌*◌, ◌-◌, ◌<◌}
use mathlib.Core.Path.{◌≡◌, sym, ap, ◌∙◌}
use mathlib.Core.List.{List, [], ◌∷◌}
use native.Mathlib.Omega.{arith}
use native.Mathlib.Numerals.{add-one, add-two}
use lib.ListN.{take, drop, replicate}
use lib.Seq.{sets, drop-drop, get_or-take}
use Rattle.running.specs.Types.{State, Event, Answer, Stepped}
use Rattle.rules.specs.Effects.{answer, step_of}
use Rattle.rules.specs.Runs.{run_of, answers_of, words_of, event_of, events_to}
use Rattle.running.specs.Words.{answer_set}
use Rattle.running.specs.Steps.{stepped}

-- an event read from the part of the words that holds it
pub event_part : (ws : List ℕ) (k : ℕ) → k ≡ 8 → event_of (take k ws) ≡ event_of ws
event_part ws k h =
    let h0 : 0 < k = omega arith in
    let h1 : 1 < k = omega arith in
    let h2 : 2 < k = omega arith in
    let h3 : 3 < k = omega arith in
    let h4 : 4 < k = omega arith in
    let h5 : 5 < k = omega arith in
    let h6 : 6 < k = omega arith in
    let h7 : 7 < k = omega arith in
    simp get_or-take

-- the events that are left after i of n
abbrev pub rest : ℕ → List ℕ → ℕ → List Event
rest n ws i = events_to (n - i) (drop (i * 8) ws)

rest_more : (n : ℕ) (ws : List ℕ) (i : ℕ) → i < n → rest n ws i ≡ event_of (drop (i * 8) ws) ∷ rest n ws (i + 1)
unfolding events_to
rest_more n ws i h =
    let p : n - i ≡ suc (n - (i + 1)) = omega arith in
    let q : i * 8 + 8 ≡ (i + 1) * 8 = omega arith in
    rw p (ap (λ es. event_of (drop (i * 8) ws) ∷ events_to (n - (i + 1)) es) (drop-drop 8 (i * 8) ws ∙ ap (λ k. drop k ws) q))

rest_none : (n : ℕ) (ws : List ℕ) (i : ℕ) → i ≡ n → rest n ws i ≡ []
unfolding events_to
rest_none n ws i h = let p : n - i ≡ 0 = omega arith in rw p

rest_all : (n : ℕ) (ws : List ℕ) → rest n ws 0 ≡ events_to n ws
rest_all n ws = let p : n - 0 ≡ n = omega arith in rw p

-- an answer's words, and those after it
sets_more : (o : List ℕ) (i : ℕ) (a : Answer) (ws : List ℕ) → sets (answer_set o (i * 3) a) ((i + 1) * 3) ws ≡ sets o (i * 3) (a.number ∷ a.word ∷ a.slot ∷ ws)
sets_more o i a ws =
    let p : (i + 1) * 3 ≡ suc (suc (suc (i * 3))) = omega arith in
    rw (p, add-one (i * 3), add-two (i * 3))

-- where the loop is
pub record Running (n : ℕ) (ws o₀ : List ℕ) (s : State) (o : List ℕ) (t : State) (i : ℕ) : Type 0 where
  pub states : run_of t (rest n ws i) ≡ run_of s (events_to n ws)
  pub answers : sets o (i * 3) (words_of (answers_of t (rest n ws i))) ≡ sets o₀ 0 (words_of (answers_of s (events_to n ws)))

pub begins : (n : ℕ) (ws o : List ℕ) {s t : State} → t ≡ s → Running n ws o s o t 0
begins n ws o {s} {t} h =
    record { states = rw (h, rest_all n ws); answers = rw (h, rest_all n ws) }

-- a turn
pub goes_on : {n : ℕ} {ws o₀ : List ℕ} {s : State} {o : List ℕ} {t : State} {i : ℕ} → Running n ws o₀ s o t i → i < n
    → {e : Event} → e ≡ event_of (take (i * 8 + 8 - i * 8) (drop (i * 8) ws)) → {u : State} {a : Answer} → step_of t e ≡ stepped u a
    → {o' : List ℕ} → o' ≡ answer_set o (i * 3) a → Running n ws o₀ s o' u (i + 1)
unfolding run_of answers_of words_of
goes_on {n} {ws} {o₀} {s} {o} {t} {i} r l {e} he {u} {a} d {o'} ho =
    let it : e ≡ event_of (drop (i * 8) ws) = he ∙ event_part (drop (i * 8) ws) (i * 8 + 8 - i * 8) (omega arith) in
    let state : u ≡ (step_of t (event_of (drop (i * 8) ws))).state = ap (λ (r : Stepped). r.state) (sym d ∙ ap (step_of t) it) in
    let answer : a ≡ (step_of t (event_of (drop (i * 8) ws))).answer = ap (λ (r : Stepped). r.answer) (sym d ∙ ap (step_of t) it) in
    record {
      states = rw state (sym (ap (run_of t) (rest_more n ws i l)) ∙ r.states);
      answers =
          rw (ho, state, answer)
          (sets_more o i (step_of t (event_of (drop (i * 8) ws))).answer (words_of (answers_of (step_of t (event_of (drop (i * 8) ws))).state (rest n ws (i + 1)))) ∙ sym (ap (λ es. sets o (i * 3) (words_of (answers_of t es))) (rest_more n ws i l)) ∙ r.answers);
    }

-- the end
pub ends : {n : ℕ} {ws o₀ : List ℕ} {s : State} {o : List ℕ} {t : State} {i : ℕ} → Running n ws o₀ s o t i → i ≡ n
    → (t ≡ run_of s (events_to n ws)) × (o ≡ sets o₀ 0 (words_of (answers_of s (events_to n ws))))
unfolding run_of answers_of words_of
ends {n} {ws} {o₀} {s} {o} {t} {i} r h = (rw (rest_none n ws i h) at r.states, rw (rest_none n ws i h) at r.answers)

-- the loop that refuses every event
abbrev pub refusals : ℕ → List ℕ
refusals n = words_of (replicate n (answer 1 0 64))

pub refuse_begins : (n : ℕ) (o : List ℕ) → sets o 0 (refusals (n - 0)) ≡ sets o 0 (refusals n)
refuse_begins n o = let p : n - 0 ≡ n = omega arith in rw p

pub refuse_more : {n i : ℕ} (o : List ℕ) {o' x : List ℕ} {a : Answer} → i < n → a ≡ answer 1 0 64 → o' ≡ answer_set o (i * 3) a
    → sets o (i * 3) (refusals (n - i)) ≡ x → sets o' ((i + 1) * 3) (refusals (n - (i + 1))) ≡ x
unfolding words_of
refuse_more {n} {i} o l ha ho h =
    let p : n - i ≡ suc (n - (i + 1)) = omega arith in
    rw (ho, ha) (sets_more o i (answer 1 0 64) (refusals (n - (i + 1))) ∙ (rw p at h))

pub refuse_ends : {n i : ℕ} (o : List ℕ) {x : List ℕ} → i ≡ n → sets o (i * 3) (refusals (n - i)) ≡ x → o ≡ x
unfolding words_of
refuse_ends {n} {i} o e h = let p : n - i ≡ 0 = omega arith in rw p at h
