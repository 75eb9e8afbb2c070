-- A recreation keeps a state well formed. Assumes nothing.
use Prim.Native.Nat.{ℕ, ◌+◌, ◌≤◌, ◌<◌}
use mathlib.Core.Path.{◌≡◌, refl, sym, subst, ◌∙◌}
use mathlib.Core.Logic.{◌≢◌}
use mathlib.Core.Bool.{true, false}
use native.Mathlib.Omega.{arith}
use native.Mathlib.Decide.{ℕ_discrete}
use borrow.Author.Tests.{leb-true, ltb-true, lt-ltb, le-leb, eq-eqb, ne_eqb}
use lib.Dec.{leb, ltb}
use Rattle.rules.specs.Types.{Cell, State, Event}
use Rattle.rules.specs.States.{cell_at, slot_at, serial_at, bears}
use Rattle.rules.specs.WellFormed.{held, borne, cell_fine, serial_fine, in_cells, in_messages, tokens_of}
use Rattle.rules.specs.Refusals.{next, unborne}
use Rattle.rules.specs.Effects.{word_for, after_recreation, recreated_line, recreate_of}
use Rattle.rules.specs.Cells.{recreated, settled}
use Rattle.rules.proofs.Laws.Bools.{clash, split, by_pick}
use Rattle.rules.proofs.Laws.Sums.{all_at}
use Rattle.rules.proofs.Laws.Views.{Sized}
use Rattle.rules.proofs.Laws.Sole.{Cleared, Sole, sole_cells, sole_messages}
use Rattle.rules.proofs.Laws.Renewals.{Renewed, renewed, other_cells, other_messages}
use Rattle.rules.proofs.Keeps.Cells.{ok_cell, settled_ok, cleared_ok, cleared_zero, cleared_bare, recreated_ok}
use Rattle.rules.proofs.Keeps.Well.{Well, WellIn, sizes_ok, cell_in}
use Rattle.rules.proofs.Keeps.Accepted.{Timeout}

-- the next serial is in range
next_small : (q : ℕ) → next q < 4
unfolding next
next_small q = by_pick (λ x. x < 4) (ltb q 3) (λ t. omega (arith, ltb-true q 3 t)) (λ _. omega arith)

-- the word of a recreation, and the line's cells after it, node by node
abbrev pub word_of : State → Event → ℕ
word_of s e = word_for (cell_at s e.line e.node) (cell_at s e.line)

abbrev pub renewing : State → Event → ℕ → Cell
renewing s e = recreated_line s.sizes.total.0 e.node (cell_at s e.line)

abbrev pub renewed_cell : State → Event → Cell
renewed_cell s e = settled s.sizes.total.0 (recreated s.sizes.total.0 (word_of s e) (cell_at s e.line e.node))

module _ {s : State} (z : Sized s) (w : Well s) (e : Event) (t : Timeout s e) where
  -- the change
  pub change : Renewed s (recreate_of s e).state e.line (renewing s e) (next (serial_at s e.line))
  unfolding recreate_of
  change =
      let q = sizes_ok w.sizes in
      renewed z e.line (renewing s e) (next (serial_at s e.line)) (omega (arith, t.named.line))

  -- the node's cell, and the others'
  after_node : renewing s e e.node ≡ renewed_cell s e
  unfolding after_recreation
  after_node = rw (eq-eqb e.node e.node refl)

  after_other : (j : ℕ) → j ≢ e.node → Cleared (renewing s e j)
  unfolding after_recreation
  after_other j d = rw (ne_eqb j e.node d) (cleared_bare (cell_at s e.line j))

  -- no message of the line bears the next serial
  next_unborne : (i : ℕ) → i < 64 → bears e.line (next (serial_at s e.line)) (slot_at s i) ≡ false
  unfolding unborne
  next_unborne i hi = let h = all_at 64 _ t.unborne i hi in split (bears e.line (next (serial_at s e.line)) (slot_at s i)) (λ b. clash h (rw b)) (λ f. f)

  -- all tokens stand in the node's cell: no message bears the new serial
  pub sole : Sole (recreate_of s e).state e.line e.node (renewed_cell s e)
  sole =
      let q = sizes_ok w.sizes in
      let n : e.node < 9 = omega (arith, t.named.node) in
      record {
        node9 = n;
        cell = change.cell e.node n ∙ after_node;
        other = λ j hj d. subst Cleared (sym (change.cell j hj)) (after_other j d);
        unborne = λ i hi. rw (change.serial, change.slot i) (next_unborne i hi);
      }

  serials : (k : ℕ) → k < 16 → serial_fine s.sizes k (serial_at (recreate_of s e).state k) ≡ true
  unfolding serial_fine
  serials k hk =
      elim (ℕ_discrete k e.line) [
        | yes x ↦ rw (x, change.serial, lt-ltb e.line s.sizes.lines t.named.line) (lt-ltb (next (serial_at s e.line)) 4 (next_small _))
        | no d ↦ rw (change.other_serial k d) (w.serials k hk)
      ]

  cell : (j : ℕ) → j < 9 → cell_fine s.sizes e.line j (renewing s e j) ≡ true
  unfolding cell_fine after_recreation
  cell j hj =
      let q = sizes_ok w.sizes in
      elim (ℕ_discrete j e.node) [
        | yes x ↦ rw (x, after_node, lt-ltb e.line s.sizes.lines t.named.line, le-leb e.node s.sizes.caches t.named.node)
            (ok_cell (settled_ok (recreated_ok (cell_in w t.named.line t.named.node) _ q.a_token)))
        | no d ↦ rw (ne_eqb j e.node d, lt-ltb e.line s.sizes.lines t.named.line)
            (by_pick (λ b. b ≡ true) (leb j s.sizes.caches)
            (λ h. ok_cell (cleared_ok (cell_in w t.named.line (leb-true j s.sizes.caches h))))
            (λ h. cleared_zero (cell_at s e.line j) (rw (lt-ltb e.line s.sizes.lines t.named.line, h) at (w.cells e.line (omega (arith, t.named.line)) j hj))))
      ]

  cells : (k : ℕ) → k < 16 → (j : ℕ) → j < 9 → cell_fine s.sizes k j (cell_at (recreate_of s e).state k j) ≡ true
  cells k hk j hj =
      elim (ℕ_discrete k e.line) [
        | yes x ↦ rw (x, change.cell j hj) (cell j hj)
        | no d ↦ rw (change.other_line k d j hj) (w.cells k hk j hj)
      ]

  sums : (k : ℕ) → k < 16 → tokens_of (recreate_of s e).state k ≤ s.sizes.total.0
  unfolding tokens_of
  sums k hk =
      elim (ℕ_discrete k e.line) [
        | yes x ↦ rw x (omega (arith, sole_cells sole held (λ _ b. b.none), sole_messages sole borne))
        | no d ↦ (let b : in_cells s k held + in_messages s k borne ≤ s.sizes.total.0 = w.sums k hk in
            omega (arith, other_cells change k d held, other_messages change k d borne))
      ]

  pub recreate_well : Well (recreate_of s e).state
  recreate_well =
      subst (λ q. WellIn q (recreate_of s e).state) (sym change.sizes)
      (record {
        sizes = w.sizes;
        serials = serials;
        cells = cells;
        slots = λ i hi. rw (change.slot i) (w.slots i hi);
        sums = sums;
      })
