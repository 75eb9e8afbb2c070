-- The turns of a read, a write and a want, and the cause of a timeout. Assumes nothing.
use Prim.Native.Nat.{ℕ, ◌+◌, ◌*◌, ◌≤◌, ◌<◌}
use mathlib.Core.Bool.{true, false, ◌||◌, cond as pick}
use mathlib.Core.Path.{◌≡◌, refl, sym, ap, ◌∙◌}
use mathlib.Core.Logic.{◌≢◌}
use mathlib.Core.List.{List}
use native.Mathlib.Omega.{arith}
use lib.ListN.{get_or, set}
use borrow.Author.Tests.{eqb-true}
use Rattle.rules.specs.declared.refusals.Refusal.{Refusal}
use Rattle.running.specs.Types.{Cell, State, Event}
use Rattle.rules.specs.Cells.{zero_cell}
use Rattle.rules.specs.Kinds.{number_of}
use Rattle.rules.specs.States.{cell_at, with_cell}
use Rattle.rules.specs.WellFormed.{well_formed}
use Rattle.rules.specs.Refusals.{reading, writing, wanting_read, slotted, sending, cell_of}
use Rattle.rules.specs.Effects.{answer, answered, read_of, write_of, want_of, effect, step_of}
use Rattle.parts.specs.Changes.{wanted_by, touched_cell}
use Rattle.numbers.specs.Places.{place_of}
use Rattle.numbers.specs.Rows.{cell_refusal}
use Rattle.running.specs.Steps.{touching, stepped}
use Rattle.rules.proofs.Laws.Bools.{clash, split}
use Rattle.rules.proofs.Laws.Views.{same_cell}
use Rattle.rules.proofs.Keeps.Accepted.{by_kind}
use Rattle.rules.proofs.Keeps.Numbers.{step_effect}
use Rattle.rules.proofs.Keeps.Well.{well_sizes}
use Rattle.running.proofs.Facts.Numbers.{cell_number, cell_stops, cell_same, cell_within, no_timeout}
use Rattle.running.proofs.Facts.Places.{place_is}
use Rattle.running.proofs.Facts.Turns.{Held, Taken, taken, number_some, refused_turn}

-- the cell that is loaded is the one that the event names, where there is one
module _ (t : State) (w : well_formed t ≡ true) (e : Event) {k : ℕ} (pk : k ≡ place_of e.line e.node) where
  pub loaded : e.line < t.sizes.lines → e.node ≤ t.sizes.caches → k ≡ e.line * 9 + e.node
  loaded l c = let zs = well_sizes t w in place_is pk (omega arith) (omega arith)

  pub named : e.line < t.sizes.lines → e.node ≤ t.sizes.caches → get_or t.cells k zero_cell ≡ cell_of t e
  unfolding cell_at
  named l c = ap (λ k. get_or t.cells k zero_cell) (loaded l c)

-- a read, a write and a want are of kind 0, 1, 5 or 6
touch_kind : (k : ℕ) → touching k ≡ true → k < 7
touch_kind k h =
    split (reading k) (λ t. omega (arith, eqb-true k 0 t))
    (λ r.
    split (writing k) (λ t. omega (arith, eqb-true k 1 t))
    (λ w.
    split (wanting_read k) (λ t. omega (arith, eqb-true k 5 t)) (λ a. omega (arith, eqb-true k 6 (rw (r, w, a) at h)))))

touch_plain : (k : ℕ) → touching k ≡ true → slotted k || sending k ≡ false
touch_plain k h =
    let l = touch_kind k h in
    by_kind (λ k. touching k ≡ true → slotted k || sending k ≡ false) (λ _. refl) (λ _. refl) (λ g. clash g refl) (λ g. clash g refl) (λ g. clash g refl) (λ _. refl) (λ _. refl)
    (λ _. refl) (λ _. refl) (λ _. refl) k (omega arith) h

touch_effect : (t : State) (e : Event) → touching e.kind ≡ true
    → effect t e e.kind ≡ answered (with_cell t e.line e.node (touched_cell e e.kind (cell_of t e))) 0 (pick (reading e.kind) (cell_of t e).word 0) 64
unfolding effect read_of write_of want_of touched_cell wanted_by
touch_effect t e f =
    let l = touch_kind e.kind f in
    by_kind
    (λ k. touching k ≡ true → effect t e k ≡ answered (with_cell t e.line e.node (touched_cell e k (cell_of t e))) 0 (pick (reading k) (cell_of t e).word 0) 64)
    (λ _. ap (λ s. answered s 0 (cell_of t e).word 64) (sym (same_cell t e.line e.node)))
    (λ _. refl)
    (λ g. clash g refl)
    (λ g. clash g refl)
    (λ g. clash g refl)
    (λ _. refl)
    (λ _. refl)
    (λ g. clash g refl)
    (λ g. clash g refl)
    (λ g. clash g refl)
    e.kind
    (omega arith)
    f

module _ (t : State) (w : well_formed t ≡ true) (e : Event) (plain : slotted e.kind || sending e.kind ≡ false) {k : ℕ} (pk : k ≡ place_of e.line e.node) where
  -- the number is that of the cell which the event names
  pub cause_is : cell_refusal t.sizes e e.kind (get_or t.cells k zero_cell) ≡ cell_refusal t.sizes e e.kind (cell_of t e)
  cause_is = cell_same t.sizes e e.kind (get_or t.cells k zero_cell) (cell_of t e) (named t w e pk)

  pub cell_refused : {number : ℕ} → number ≡ cell_refusal t.sizes e e.kind (get_or t.cells k zero_cell) → number ≢ 0 → step_of t e ≡ stepped t (answer number 0 64)
  cell_refused g d =
      let n = g ∙ cause_is in
      refused_turn t e (cell_stops t e w plain (λ q. d (n ∙ q)) ∙ sym n) d

  pub within : 0 ≡ cell_refusal t.sizes e e.kind (get_or t.cells k zero_cell) → (e.kind ≤ 9) × (e.line < t.sizes.lines) × (e.node ≤ t.sizes.caches)
  within g = cell_within t.sizes e e.kind (cell_of t e) plain (sym (g ∙ cause_is))

module _ (t : State) (w : well_formed t ≡ true) (e : Event) (is : touching e.kind ≡ true) {k : ℕ} (pk : k ≡ place_of e.line e.node) where
  pub touch_refused : (why : Refusal) → number_of why ≡ cell_refusal t.sizes e e.kind (get_or t.cells k zero_cell) → step_of t e ≡ stepped t (answer (number_of why) 0 64)
  touch_refused why g = cell_refused t w e (touch_plain e.kind is) pk g (number_some why)

  pub touch_turn : 0 ≡ cell_refusal t.sizes e e.kind (get_or t.cells k zero_cell) → {y : Cell} → y ≡ touched_cell e e.kind (get_or t.cells k zero_cell)
      → step_of t e ≡ stepped (record { sizes = t.sizes; serials = t.serials; cells = set t.cells k y; pool = t.pool }) (answer 0 (pick (reading e.kind) (get_or t.cells k zero_cell).word 0) 64)
  unfolding with_cell
  touch_turn g {y} hy =
      let plain = touch_plain e.kind is in
      let i = within t w e plain pk g in
      let x = named t w e pk i.1 i.2 in
      step_effect t e (cell_number t e w plain (no_timeout e.kind (touch_kind e.kind is)) ∙ sym (g ∙ cause_is t w e plain pk)) ∙ touch_effect t e is
      ∙ rw (x, hy, x, loaded t w e pk i.1 i.2)

  pub touch_taken : {tags : List ℕ} → Held t tags → 0 ≡ cell_refusal t.sizes e e.kind (get_or t.cells k zero_cell) → {y : Cell} → y ≡ touched_cell e e.kind (get_or t.cells k zero_cell)
      → Taken t e (record { sizes = t.sizes; serials = t.serials; cells = set t.cells k y; pool = t.pool }) (answer 0 (pick (reading e.kind) (get_or t.cells k zero_cell).word 0) 64) tags
  touch_taken h g hy = taken h e (touch_turn g hy) h.tagged
