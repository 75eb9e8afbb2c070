-- A step looks at the words of an event that its kind uses, and at no other. Assumes nothing.
use Prim.Native.Nat.{ℕ, ◌≤◌}
use mathlib.Core.Path.{◌≡◌, refl, sym, ap, ap₂, ◌∙◌}
use mathlib.Core.Bool.{Bool, true, not, cond as pick}
use mathlib.Core.List.{List, ◌∷◌}
use borrow.Author.Tests.{ltb-false}
use lib.Dec.{eqb, ltb}
use lib.ListN.{get_or}
use Rattle.coherence.specs.Types.{State, Event, Stepped}
use Rattle.coherence.specs.Events.{used_by, UnusedWordsUnseen}
use Rattle.rules.specs.WellFormed.{well_formed}
use Rattle.rules.specs.Refusals.{sending, slotted, Row, row, table, table_of, given, refusal}
use Rattle.rules.specs.Effects.{answered, read_of, write_of, sent_cell, send_of, deliver_of, want_of, recreate_of, effect, step_of}
use Rattle.rules.proofs.Laws.Bools.{split}
use Rattle.rules.proofs.Keeps.Accepted.{by_kind}

-- an event of kind k with the words that the kind uses, and 0 for the others
unfoldable blank : ℕ → List ℕ → Event
blank k ws =
    let at : ℕ → ℕ = λ i. get_or ws i 0 in
    pick (sending k) (record { kind = k; line = at 0; node = at 1; other = at 2; amount = at 3; owner = at 4; full = at 5; word = 0 })
    (pick (slotted k) (record { kind = k; line = 0; node = 0; other = 0; amount = at 0; owner = 0; full = 0; word = 0 })
    (record { kind = k; line = at 0; node = at 1; other = 0; amount = 0; owner = 0; full = 0; word = at 2 }))

-- what a step does with an event of kind k, refused with x or, with 0, not refused
abbrev does : State → Event → ℕ → ℕ → Stepped
does s e k x = pick (eqb x 0) (effect s e k) (answered s x 0 64)

-- the same with the number of the table
abbrev does_at : State → Event → ℕ → Stepped
does_at s e k = does s e k (given (table_of s e k))

-- the first two rows decide, if the second applies
second : (a b : Bool) (rs : List Row) → b ≡ true → given (row 1 a ∷ row 2 b ∷ rs) ≡ pick a 1 2
unfolding given
second a b rs h = rw h

module _ (s : State) (e : Event) where
  -- at each kind the words that it does not use are not in what the table and the effect compute to
  small : (k : ℕ) → k ≤ 9 → does_at s e k ≡ does_at s (blank k (used_by k e)) k
  unfolding blank used_by table effect read_of write_of sent_cell send_of deliver_of want_of recreate_of
  small k h = by_kind (λ k. does_at s e k ≡ does_at s (blank k (used_by k e)) k) refl refl refl refl refl refl refl refl refl refl k h

  -- a kind above 9 is refused with 1 or 2, whatever the words are
  above : (k : ℕ) → ltb 9 k ≡ true → given (table_of s e k) ≡ pick (not (well_formed s)) 1 2
  unfolding table
  above k h = second (not (well_formed s)) _ _ (rw h)

  large : (k : ℕ) → ltb 9 k ≡ true → does_at s e k ≡ answered s (pick (not (well_formed s)) 1 2) 0 64
  large k h = ap (does s e k) (above k h) ∙ split (well_formed s) (λ t. rw t) (λ f. rw f)

-- so a step does what it would do with 0 for the other words
used : (s : State) (e : Event) → step_of s e ≡ does_at s (blank e.kind (used_by e.kind e)) e.kind
unfolding step_of refusal
used s e =
    let k = e.kind in
    split (ltb 9 k) (λ t. large s e k t ∙ sym (large s (blank k (used_by k e)) k t)) (λ f. small s e k (ltb-false 9 k f))

pub same_used : UnusedWordsUnseen
same_used s e other p q =
    used s e ∙ ap₂ (λ k ws. does_at s (blank k ws) k) p q ∙ sym (used s other)
