-- The turns of a send. Assumes nothing.
use Prim.Native.Nat.{ℕ, ◌≤◌, ◌<◌, ◌%◌}
use mathlib.Core.Bool.{Bool, true, ◌||◌}
use mathlib.Core.Path.{◌≡◌, refl, sym, ap, subst, ◌∙◌}
use mathlib.Core.Logic.{◌≢◌}
use mathlib.Core.List.{List}
use native.Mathlib.Omega.{arith}
use lib.Dec.{eqb, leb, ltb}
use lib.ListN.{get_or, set}
use borrow.Author.Tests.{ltb-false, leb-false, eqb-true, ne_eqb}
use Rattle.std.specs.Prelude.{Option, None, Some, is_none, IfSome}
use Rattle.running.specs.Types.{Cell, Tokens, Message, Sizes, State, Event}
use Rattle.rules.specs.Cells.{zero_cell}
use Rattle.rules.specs.States.{serial_at, with_cell, with_slot}
use Rattle.rules.specs.Refusals.{refusal, table, table_of, given, sending, cell_of, lowest_free}
use Rattle.rules.specs.Effects.{answer, sent_cell, sent_message, send_of, effect, step_of}
use Rattle.parts.specs.Changes.{cut}
use Rattle.numbers.specs.Places.{row_of, place_of}
use Rattle.numbers.specs.Rows.{send_refusal}
use Rattle.numbers.specs.Tags.{tag_of, slot_in, first_untagged}
use Rattle.running.specs.Steps.{stepped}
use Rattle.rules.proofs.Laws.Bools.{split, or_left}
use Rattle.rules.proofs.Laws.Rows.{Clear}
use Rattle.rules.proofs.Keeps.Accepted.{accepted, Sends, sends}
use Rattle.rules.proofs.Keeps.Numbers.{step_effect}
use Rattle.rules.proofs.Keeps.Well.{well_sizes, well_count}
use Rattle.running.proofs.Facts.Numbers.{send_number}
use Rattle.running.proofs.Facts.Places.{row_is}
use Rattle.running.proofs.Facts.Searches.{free_found}
use Rattle.running.proofs.Facts.Turns.{Held, Taken, taken, tag_set, refused_turn}
use Rattle.running.proofs.Facts.Cells.{loaded, named}

-- the rows that look at the sender's cell are asked only of a line and a node within the sizes
send_same : (z : Sizes) (e : Event) (x y : Cell) (full : Bool) → (e.line < z.lines → e.node ≤ z.caches → x ≡ y) → send_refusal z e x full ≡ send_refusal z e y full
unfolding send_refusal given table
send_same z e x y full h =
    split (leb z.lines e.line) (λ t. rw t)
    (λ f.
    split (ltb z.caches e.node || ltb z.caches e.other) (λ t. rw (f, t))
    (λ g. rw (h (leb-false z.lines e.line f) (ltb-false z.caches e.node (or_left _ _ g)))))

-- a number that fits a byte is its low byte
low_is : (x : ℕ) → x < 256 → x % 256 ≡ x
low_is x h = omega arith

-- no slot is free where the search finds none
full_is : (free : Option ℕ) → IfSome free (λ i. i < 64) → is_none free ≡ eqb (slot_in free) 64
full_is None h = refl
full_is (Some i) h = sym (ne_eqb i 64 (λ z. omega arith))

module _ (t : State) {tags : List ℕ} (h : Held t tags) (e : Event) (is : sending e.kind ≡ true) {k : ℕ} (pk : k ≡ place_of e.line e.node)
    (free : Option ℕ) (found : slot_in free ≡ first_untagged tags) (near : IfSome free (λ i. i < 64)) where
  slot_is : slot_in free ≡ lowest_free t
  slot_is = found ∙ free_found t h.tagged

  number_is : refusal t e ≡ send_refusal t.sizes e (get_or t.cells k zero_cell) (is_none free)
  number_is =
      send_number t e h.well (full_is free near ∙ ap (λ i. eqb i 64) slot_is) is
      ∙ sym (send_same t.sizes e (get_or t.cells k zero_cell) (cell_of t e) (is_none free) (named t h.well e pk))

  pub send_refused : {number : ℕ} → number ≡ send_refusal t.sizes e (get_or t.cells k zero_cell) (is_none free) → number ≢ 0 → step_of t e ≡ stepped t (answer number 0 64)
  send_refused g d = refused_turn t e (number_is ∙ sym g) d

  module _ (done : 0 ≡ send_refusal t.sizes e (get_or t.cells k zero_cell) (is_none free)) {i : ℕ} (there : free ≡ Some i) where
    -- what a send that is not refused has
    sent : Sends t e
    sent = sends t e (subst (λ k. Clear (table_of t e k)) (eqb-true e.kind 2 is) (accepted t e (number_is ∙ sym done)))

    at_is : i ≡ lowest_free t
    at_is = rw there at slot_is

    whole : cut e ≡ e
    whole =
        let zs = well_sizes t h.well in
        let n = sent.named in
        rw (
          low_is e.line (omega arith),
          low_is e.node (omega arith),
          low_is e.other (omega (arith, sent.other)),
          low_is e.amount (omega (arith, sent.within, well_count t h.well e.line e.node n.line n.node)),
        )

    pub send_taken : {r : ℕ} → r ≡ row_of e.line → {y : Cell} {m : Message} {tag : ℕ} → y ≡ sent_cell (cut e) (get_or t.cells k zero_cell)
        → m ≡ sent_message (cut e) (get_or t.serials r (record { 0 = 0 })).0 (get_or t.cells k zero_cell) → tag ≡ tag_of Tokens r (get_or t.serials r (record { 0 = 0 })).0
        → Taken t e (record { sizes = t.sizes; serials = t.serials; cells = set t.cells k y; pool = set t.pool i m }) (answer 0 0 i) (set tags i tag)
    unfolding send_of effect with_cell with_slot serial_at
    send_taken {r} pr {y} {m} hy hs hg =
        let n = sent.named in
        let zs = well_sizes t h.well in
        let x = named t h.well e pk n.line n.node in
        let at = loaded t h.well e pk n.line n.node in
        let row : r ≡ e.line = row_is pr (omega arith) in
        let cell : y ≡ sent_cell e (cell_of t e) = rw x at (hy ∙ ap (λ (v : Event). sent_cell v (get_or t.cells k zero_cell)) whole) in
        let message : m ≡ sent_message e (serial_at t e.line) (cell_of t e) = rw (x, row) at (hs ∙ ap (λ (v : Event). sent_message v (get_or t.serials r (record { 0 = 0 })).0 (get_or t.cells k zero_cell)) whole) in
        taken h e (step_effect t e (number_is ∙ sym done) ∙ ap (effect t e) (eqb-true e.kind 2 is) ∙ rw (cell, message, at, at_is))
        (tag_set i m h.tagged h.slots h.sized.pool (rw at_is sent.room) (rw (message, ← row) hg))
