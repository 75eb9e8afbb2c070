-- The number of an event over a well formed state, from the parts that it names. Assumes nothing.
use Prim.Native.Nat.{ℕ, ◌≤◌, ◌<◌}
use mathlib.Core.Bool.{Bool, true, false, ◌||◌, cond as pick}
use mathlib.Core.Path.{◌≡◌, refl, ap, ◌∙◌}
use mathlib.Core.Logic.{◌≢◌}
use mathlib.Core.List.{List, [], ◌∷◌}
use native.Mathlib.Omega.{arith}
use lib.Dec.{eqb, leb, ltb}
use borrow.Author.Tests.{ltb-true, ltb-false, leb-false, eqb-true, eqb-false, eq-eqb, ne_eqb}
use Rattle.running.specs.Types.{Cell, Sizes, State, Event}
use Rattle.rules.specs.WellFormed.{well_formed}
use Rattle.rules.specs.Refusals.{Row, seen, given, table, table_of, refusal, timeout, slotted, sending, delivering, cell_of, free_at, lowest_free}
use Rattle.numbers.specs.Rows.{before, from, slot_sight, send_refusal, cell_refusal}
use Rattle.rules.proofs.Laws.Bools.{split, and_left, and_right, or_left, or_right}
use Rattle.rules.proofs.Laws.Rows.{ascends, table_ascends}

-- a list of rows, cut at a number
cut_from : (n a : ℕ) (rs : List Row) → ascends a rs ≡ true
    → given rs ≡ pick (eqb (given (before n rs)) 0) (given (from n rs)) (given (before n rs))
unfolding ascends given before from
cut_from n a [] h = refl
cut_from n a (r ∷ rs) h =
    let up = ltb-true a r.number (and_left _ _ h) in
    split (ltb r.number n)
    (λ t.
    split r.applies (λ y. rw (t, y, ne_eqb r.number 0 (λ z. omega arith)))
    (λ f. rw (t, f) (cut_from n r.number rs (and_right (ltb a r.number) (ascends r.number rs) h))))
    (λ f. rw f)

-- what is given from the front alone
front : (c : ℕ) → pick (eqb c 0) 0 c ≡ c
front c = split (eqb c 0) (λ t. rw (t, eqb-true c 0 t)) (λ f. rw f)

module _ (s : State) (e : Event) (w : well_formed s ≡ true) where
  -- a delivery or a drop: by its slot
  pub slot_number : slotted e.kind ≡ true → refusal s e ≡ given (table (slot_sight (free_at s e.amount)) e 3)
  unfolding refusal table given
  slot_number h =
      split (delivering e.kind) (λ t. ap (λ k. given (table_of s e k)) (eqb-true e.kind 3 t) ∙ rw w)
      (λ f. ap (λ k. given (table_of s e k)) (eqb-true e.kind 4 (rw f at h)) ∙ rw w)

  -- a send: by its sender's cell, and whether no slot is free
  pub send_number : {full : Bool} → full ≡ eqb (lowest_free s) 64 → sending e.kind ≡ true → refusal s e ≡ send_refusal s.sizes e (cell_of s e) full
  unfolding refusal send_refusal table given
  send_number {full} g h =
      ap (λ k. given (table_of s e k)) (eqb-true e.kind 2 h)
      ∙ split full (λ y. rw (w, ← g, y)) (λ n. rw (w, ← g, n))

  module _ (plain : slotted e.kind || sending e.kind ≡ false) where
    -- the numbers before 17: by the cell
    cause_is : given (before 17 (table_of s e e.kind)) ≡ cell_refusal s.sizes e e.kind (cell_of s e)
    unfolding cell_refusal table given before
    cause_is = rw (w, or_left (slotted e.kind) (sending e.kind) plain, or_right (slotted e.kind) (sending e.kind) plain)

    cut : refusal s e
        ≡ pick (eqb (cell_refusal s.sizes e e.kind (cell_of s e)) 0) (given (from 17 (table_of s e e.kind)))
        (cell_refusal s.sizes e e.kind (cell_of s e))
    unfolding refusal
    cut = rw (← cause_is) (cut_from 17 0 (table_of s e e.kind) (table_ascends (seen s e) e e.kind))

    -- where one of these applies it is the number
    pub cell_stops : cell_refusal s.sizes e e.kind (cell_of s e) ≢ 0 → refusal s e ≡ cell_refusal s.sizes e e.kind (cell_of s e)
    cell_stops d = cut ∙ rw (ne_eqb (cell_refusal s.sizes e e.kind (cell_of s e)) 0 d)

    -- a read, a write, a want: there are no others
    none : timeout e.kind ≡ false → given (from 17 (table_of s e e.kind)) ≡ 0
    unfolding from table given
    none f = rw f

    pub cell_number : timeout e.kind ≡ false → refusal s e ≡ cell_refusal s.sizes e e.kind (cell_of s e)
    cell_number f = cut ∙ rw (none f) (front (cell_refusal s.sizes e e.kind (cell_of s e)))

    -- a timeout that has a cause: by the line
    pub timeout_number : timeout e.kind ≡ true → cell_refusal s.sizes e e.kind (cell_of s e) ≡ 0
        → refusal s e ≡ given (from 17 (table_of s e 7))
    unfolding from table given
    timeout_number t h = cut ∙ rw (h, t)

-- kinds 7 to 9 are the timeouts
pub is_timeout : (k : ℕ) → 7 ≤ k → k ≤ 9 → timeout k ≡ true
is_timeout k a b =
    split (eqb k 7) (λ t. rw t)
    (λ f. split (eqb k 8) (λ t. rw (f, t)) (λ g. rw (f, g) (eq-eqb k 9 (omega (arith, eqb-false k 7 f, eqb-false k 8 g)))))

-- kinds below 7 are none
pub no_timeout : (k : ℕ) → k < 7 → timeout k ≡ false
no_timeout k h = rw (ne_eqb k 7 (λ z. omega arith), ne_eqb k 8 (λ z. omega arith), ne_eqb k 9 (λ z. omega arith))

-- the rows that look at a cell are asked only of a line and a node within the sizes
module _ (z : Sizes) (e : Event) where
  pub cell_same : (k : ℕ) (x y : Cell) → (e.line < z.lines → e.node ≤ z.caches → x ≡ y) → cell_refusal z e k x ≡ cell_refusal z e k y
  unfolding cell_refusal given before table
  cell_same k x y h =
      split (slotted k || sending k) (λ t. rw t)
      (λ f.
      let p = or_left (slotted k) (sending k) f in
      split (leb z.lines e.line) (λ t. rw (p, t))
      (λ g. split (ltb z.caches e.node) (λ t. rw (p, g, t)) (λ l. rw (h (leb-false z.lines e.line g) (ltb-false z.caches e.node l)))))

  -- what an event has that none of them refuses
  pub cell_within : (k : ℕ) (x : Cell) → slotted k || sending k ≡ false → cell_refusal z e k x ≡ 0 → (k ≤ 9) × (e.line < z.lines) × (e.node ≤ z.caches)
  unfolding cell_refusal given before table
  cell_within k x f h =
      let p = or_left (slotted k) (sending k) f in
      split (ltb 9 k) (λ t. absurd (omega (arith, rw (f, t) at h)))
      (λ n.
      split (leb z.lines e.line) (λ t. absurd (omega (arith, rw (f, p, n, or_right (slotted k) (sending k) f, t) at h)))
      (λ g.
      split (ltb z.caches e.node) (λ t. absurd (omega (arith, rw (f, p, n, or_right (slotted k) (sending k) f, g, t) at h)))
      (λ l. (ltb-false 9 k n, leb-false z.lines e.line g, ltb-false z.caches e.node l))))
