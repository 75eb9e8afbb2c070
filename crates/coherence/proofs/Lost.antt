-- A drop changes one slot, and no read or write looks at the slots. Assumes nothing.
use Prim.Native.Nat.{ℕ}
use mathlib.Core.Path.{◌≡◌, refl, sym, ap, ap₂, subst, ◌∙◌}
use mathlib.Core.List.{List, [], ◌∷◌}
use lib.ListN.{length-set}
use mathlib.Core.Bool.{Bool, true, false, ◌||◌, cond as pick}
use borrow.Author.Tests.{eqb-true}
use lib.Dec.{eqb}
use Rattle.coherence.specs.Types.{Message, State, Event}
use Rattle.rules.specs.States.{cell_at, serial_at, with_cell, with_slot}
use Rattle.rules.specs.WellFormed.{well_formed}
use Rattle.rules.specs.Refusals.{reading, writing, dropping, table, table_of, given, refusal}
use Rattle.rules.specs.Effects.{answer, emptied, read_of, write_of, effect, step_of}
use Rattle.rules.proofs.Laws.Bools.{split, and_left, and_right}
use Rattle.rules.proofs.Laws.Views.{Sized}
use Rattle.rules.proofs.Keeps.Shapes.{step_keeps_sized}
use Rattle.rules.proofs.Keeps.Steps.{step_keeps_well_formed}
use Rattle.rules.specs.Runs.{answers_of}
use Rattle.coherence.specs.Histories.{reads_and_writes}
use Rattle.rules.proofs.Keeps.Numbers.{step_effect}

module _ (s : State) (i : ℕ) (m : Message) where
  -- a slot that is put leaves the cells and the serials
  pub slot_cells : (line node : ℕ) → cell_at (with_slot s i m) line node ≡ cell_at s line node
  unfolding with_slot cell_at
  slot_cells line node = refl

  pub slot_serials : (line : ℕ) → serial_at (with_slot s i m) line ≡ serial_at s line
  unfolding with_slot serial_at
  slot_serials line = refl

-- an accepted drop empties its slot
pub drops : (s : State) (e : Event) → dropping e.kind ≡ true → refusal s e ≡ 0 → step_of s e ≡ emptied s e.amount
unfolding effect
drops s e k h = step_effect s e h ∙ ap (effect s e) (eqb-true e.kind 4 k)

-- the answer of a step, by its number
answer_by : (s : State) (e : Event)
    → (step_of s e).answer ≡ pick (eqb (refusal s e) 0) (effect s e e.kind).answer (answer (refusal s e) 0 64)
unfolding step_of
answer_by s e = split (eqb (refusal s e) 0) (λ t. rw t) (λ f. rw f)

-- the state of a step, by its number
state_by : (s : State) (e : Event) → (step_of s e).state ≡ pick (eqb (refusal s e) 0) (effect s e e.kind).state s
unfolding step_of
state_by s e = split (eqb (refusal s e) 0) (λ t. rw t) (λ f. rw f)

slot_picked : (b : Bool) (u v : State) (i : ℕ) (m : Message) → pick b (with_slot u i m) (with_slot v i m) ≡ with_slot (pick b u v) i m
slot_picked true u v i m = refl
slot_picked false u v i m = refl

slot_sized : (s : State) (i : ℕ) (m : Message) → Sized s → Sized (with_slot s i m)
unfolding with_slot
slot_sized s i m z = record { cells = z.cells; pool = simp length-set z.pool; serials = z.serials }

module _ (s : State) (i : ℕ) (m : Message) (w : well_formed s ≡ true) (v : well_formed (with_slot s i m) ≡ true) (e : Event) where
  -- two states that differ in a slot answer a read and a write alike
  alike_at : (k : ℕ) → e.kind ≡ k → given (table_of (with_slot s i m) e k) ≡ given (table_of s e k)
      → (effect (with_slot s i m) e k).answer ≡ (effect s e k).answer
      → (step_of (with_slot s i m) e).answer ≡ (step_of s e).answer
  unfolding refusal
  alike_at k h p q =
      let r : refusal (with_slot s i m) e ≡ refusal s e = ap (λ j. given (table_of (with_slot s i m) e j)) h ∙ p ∙ ap (λ j. given (table_of s e j)) (sym h) in
      let t : (effect (with_slot s i m) e e.kind).answer ≡ (effect s e e.kind).answer = ap (λ j. (effect (with_slot s i m) e j).answer) h ∙ q ∙ ap (λ j. (effect s e j).answer) (sym h) in
      answer_by (with_slot s i m) e ∙ ap₂ (λ a b. pick (eqb a 0) b (answer a 0 64)) r t ∙ sym (answer_by s e)

  -- .. and go on to two that differ in that slot
  state_at_lem : (k : ℕ) → e.kind ≡ k → given (table_of (with_slot s i m) e k) ≡ given (table_of s e k)
      → (effect (with_slot s i m) e k).state ≡ with_slot (effect s e k).state i m
      → (step_of (with_slot s i m) e).state ≡ with_slot (step_of s e).state i m
  unfolding refusal
  state_at_lem k h p q =
      let r : refusal (with_slot s i m) e ≡ refusal s e = ap (λ j. given (table_of (with_slot s i m) e j)) h ∙ p ∙ ap (λ j. given (table_of s e j)) (sym h) in
      let t : (effect (with_slot s i m) e e.kind).state ≡ with_slot (effect s e e.kind).state i m = ap (λ j. (effect (with_slot s i m) e j).state) h ∙ q ∙ ap (λ j. with_slot (effect s e j).state i m) (sym h) in
      state_by (with_slot s i m) e ∙ ap₂ (λ a u. pick (eqb a 0) u (with_slot s i m)) r t ∙ slot_picked (eqb (refusal s e) 0) (effect s e e.kind).state s i m
      ∙ ap (λ u. with_slot u i m) (sym (state_by s e))

  given_read : given (table_of (with_slot s i m) e 0) ≡ given (table_of s e 0)
  unfolding table with_slot cell_at
  given_read = rw (w, v)

  given_write : given (table_of (with_slot s i m) e 1) ≡ given (table_of s e 1)
  unfolding table with_slot cell_at
  given_write = rw (w, v)

  same_read : reading e.kind ≡ true → (step_of (with_slot s i m) e).answer ≡ (step_of s e).answer
  unfolding effect read_of with_slot cell_at
  same_read h = alike_at 0 (eqb-true e.kind 0 h) given_read refl

  same_write : writing e.kind ≡ true → (step_of (with_slot s i m) e).answer ≡ (step_of s e).answer
  unfolding effect write_of
  same_write h = alike_at 1 (eqb-true e.kind 1 h) given_write refl

  next_read : reading e.kind ≡ true → (step_of (with_slot s i m) e).state ≡ with_slot (step_of s e).state i m
  unfolding effect read_of
  next_read h = state_at_lem 0 (eqb-true e.kind 0 h) given_read refl

  next_write : writing e.kind ≡ true → (step_of (with_slot s i m) e).state ≡ with_slot (step_of s e).state i m
  unfolding effect write_of with_slot with_cell cell_at
  next_write h = state_at_lem 1 (eqb-true e.kind 1 h) given_write refl

  next_alike : reading e.kind || writing e.kind ≡ true → (step_of (with_slot s i m) e).state ≡ with_slot (step_of s e).state i m
  next_alike h = split (reading e.kind) next_read (λ f. next_write (rw f at h))

  pub same_answer : reading e.kind || writing e.kind ≡ true → (step_of (with_slot s i m) e).answer ≡ (step_of s e).answer
  same_answer h = split (reading e.kind) same_read (λ f. same_write (rw f at h))

-- any number of reads and writes, one after another
pub same_answers : (s : State) (i : ℕ) (m : Message) → Sized s → well_formed s ≡ true → well_formed (with_slot s i m) ≡ true → (es : List Event)
    → reads_and_writes es ≡ true → answers_of (with_slot s i m) es ≡ answers_of s es
unfolding answers_of reads_and_writes
same_answers s i m z w v [] h = refl
same_answers s i m z w v (e ∷ es) h =
    let a = and_left _ _ h in
    let n = next_alike s i m w v e a in
    let v' = subst (λ (u : State). well_formed u ≡ true) n (step_keeps_well_formed (with_slot s i m) (slot_sized s i m z) v e) in
    ap₂ ◌∷◌ (same_answer s i m w v e a)
    (ap (λ u. answers_of u es) n
    ∙ same_answers (step_of s e).state i m (step_keeps_sized s z e) (step_keeps_well_formed s z w e) v' es (and_right (reading e.kind || writing e.kind) (reads_and_writes es) h))
