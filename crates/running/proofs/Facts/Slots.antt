-- The turns of a delivery and a drop. Assumes nothing.
use Prim.Native.Nat.{ℕ, ◌<◌}
use mathlib.Core.Bool.{Bool, true, false, cond as pick}
use mathlib.Core.Path.{◌≡◌, refl, sym, ap, ◌∙◌}
use mathlib.Core.Logic.{◌≢◌}
use mathlib.Core.List.{List}
use native.Mathlib.Omega.{arith}
use lib.Dec.{eqb}
use lib.ListN.{get_or, set}
use borrow.Author.Tests.{eqb-true, lt-ltb}
use Rattle.running.specs.Types.{Cell, MessageKind, Free, Tokens, OwnershipAck, DeletionAck, Message, State, Event, Arrival, Stepped}
use Rattle.rules.specs.Cells.{zero_cell}
use Rattle.rules.specs.States.{free_message, cell_at, slot_at, serial_at, with_cell, with_slot}
use Rattle.rules.specs.WellFormed.{well_formed}
use Rattle.rules.specs.Refusals.{refusal, delivering, slotted, free_at}
use Rattle.rules.specs.Effects.{answer, target, emptied, discarded, arrive, reply_of, leaves, deliver_of, effect, step_of}
use Rattle.parts.specs.Changes.{fits, lost, arrive_of}
use Rattle.numbers.specs.Places.{row_of, place_of}
use Rattle.numbers.specs.Rows.{slot_refusal}
use Rattle.numbers.specs.Tags.{tag_of, slot_tag, Tagged}
use Rattle.running.specs.Steps.{stepped}
use Rattle.rules.proofs.Laws.Bools.{split}
use Rattle.rules.proofs.Laws.Views.{same_cell}
use Rattle.rules.proofs.Keeps.Numbers.{step_effect}
use Rattle.rules.proofs.Keeps.Well.{well_sizes, well_address, well_fits}
use Rattle.running.proofs.Facts.Numbers.{slot_number}
use Rattle.running.proofs.Facts.Places.{row_is, place_is}
use Rattle.running.proofs.Facts.Searches.{slot_refusal_lem, slot_near, slot_busy}
use Rattle.running.proofs.Facts.Turns.{Held, Taken, taken, tag_set, refused_turn}

-- a reply has the tag of its kind
reply_tag : (k : MessageKind) (q : ℕ) (m : Message) → tag_of k m.line q ≡ slot_tag (reply_of k q m)
unfolding reply_of
reply_tag Free q m = refl
reply_tag Tokens q m = refl
reply_tag OwnershipAck q m = refl
reply_tag DeletionAck q m = refl

-- a message that fits arrives as the rule says; one of another serial, and one that is dropped, is discarded
arrive_is : (n q : ℕ) (e : Event) (x : Cell) (m : Message) → fits x m ≡ true → arrive_of n q e 3 x m ≡ pick (eqb m.serial.0 q) (arrive n e.amount x m m.kind) (discarded x)
unfolding arrive_of lost
arrive_is n q e x m f = split (eqb m.serial.0 q) (λ t. rw (f, t)) (λ g. rw (f, g))

-- what is left of a test between two changes
left_along : (f : Arrival → Stepped) (b : Bool) {x y : Arrival} {u v : Stepped} → u ≡ f x → v ≡ f y → pick b u v ≡ f (pick b x y)
left_along f true p q = p
left_along f false p q = q

drop_is : (n q : ℕ) (e : Event) (x : Cell) (m : Message) → arrive_of n q e 4 x m ≡ discarded x
unfolding arrive_of lost
drop_is n q e x m = refl

emptied_is : (s : State) (i q : ℕ) (m : Message) → emptied s i ≡ leaves s i q m (discarded (target s m))
unfolding reply_of
emptied_is s i q m = ap (λ s. emptied s i) (sym (same_cell s m.line m.destination))

module _ (t : State) (e : Event) (slot : slotted e.kind ≡ true) {tags : List ℕ} (w : well_formed t ≡ true) (tagged : Tagged tags t.pool) where
  number_is : refusal t e ≡ slot_refusal tags e
  number_is = slot_number t e w slot ∙ sym (slot_refusal_lem t tagged e)

  pub slot_refused : {number : ℕ} → number ≡ slot_refusal tags e → number ≢ 0 → step_of t e ≡ stepped t (answer number 0 64)
  slot_refused g d = refused_turn t e (number_is ∙ sym g) d

module _ (t : State) (e : Event) (slot : slotted e.kind ≡ true) {tags : List ℕ} (h : Held t tags) (accepted : 0 ≡ slot_refusal tags e) where
  near : e.amount < 64
  near = slot_near tags e accepted

  busy : free_at t e.amount ≡ false
  busy = slot_busy t h.tagged e (sym accepted)

  -- the message, the serial of its line, and what is left of it
  abbrev it : Message
  it = slot_at t e.amount

  abbrev current : ℕ
  current = serial_at t it.line

  fit : fits (target t it) it ≡ true
  unfolding fits
  fit = lt-ltb _ 256 (well_fits t h.well e.amount near busy)

  -- the step is what the change leaves
  slot_step : step_of t e ≡ leaves t e.amount current it (arrive_of t.sizes.total.0 current e e.kind (target t it) it)
  unfolding effect deliver_of arrive_of
  slot_step =
      let to : Arrival → Stepped = λ a. leaves t e.amount current it a in
      step_effect t e (number_is t e slot h.well h.tagged ∙ sym accepted)
      ∙ split (delivering e.kind)
      (λ y.
      let k = eqb-true e.kind 3 y in
      rw k
      (left_along to (eqb it.serial.0 current) refl (emptied_is t e.amount current it)
      ∙ ap to (sym (arrive_is t.sizes.total.0 current e (target t it) it fit))))
      (λ n.
      let k = eqb-true e.kind 4 (rw n at slot) in
      rw k (emptied_is t e.amount current it ∙ ap to (sym (drop_is t.sizes.total.0 current e (target t it) it))))

  pub slot_taken : {k r : ℕ} → k ≡ place_of (get_or t.pool e.amount free_message).line (get_or t.pool e.amount free_message).destination
      → r ≡ row_of (get_or t.pool e.amount free_message).line → {c : Arrival} {p : Message} {tag : ℕ}
      → c ≡ arrive_of t.sizes.total.0 (get_or t.serials r (record { 0 = 0 })).0 e e.kind (get_or t.cells k zero_cell) (get_or t.pool e.amount free_message)
      → p ≡ reply_of c.reply (get_or t.serials r (record { 0 = 0 })).0 (get_or t.pool e.amount free_message)
      → tag ≡ tag_of c.reply (get_or t.pool e.amount free_message).line (get_or t.serials r (record { 0 = 0 })).0
      → Taken t e (record { sizes = t.sizes; serials = t.serials; cells = set t.cells k c.cell; pool = set t.pool e.amount p }) c.answer (set tags e.amount tag)
  unfolding slot_at serial_at with_slot with_cell cell_at
  slot_taken {k} {r} pk pr {c} {p} {tag} hc hp hg =
      let ad = well_address t h.well e.amount near busy in
      let zs = well_sizes t h.well in
      let hk = place_is pk (omega arith) (omega arith) in
      let hr = row_is pr (omega arith) in
      let a = rw (hk, hr) at hc in
      taken h e (slot_step ∙ rw (hk, hp, hr, a))
      (tag_set e.amount p h.tagged h.slots h.sized.pool near
      (hg ∙ reply_tag c.reply (get_or t.serials r (record { 0 = 0 })).0 (slot_at t e.amount) ∙ ap slot_tag (sym hp)))
