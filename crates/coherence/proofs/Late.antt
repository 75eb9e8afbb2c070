-- A message whose serial is not its line's stays so until it leaves its slot. Assumes nothing.
use Prim.Native.Nat.{ℕ, ◌<◌}
use mathlib.Core.Path.{◌≡◌, refl, sym, ap, subst, subst₂, ◌∙◌}
use mathlib.Core.Bool.{true, false, not, ◌&&◌}
use mathlib.Core.List.{List, [], ◌∷◌}
use native.Mathlib.Omega.{arith}
use native.Mathlib.Decide.{ℕ_discrete}
use borrow.Author.Tests.{eqb-true, eqb-false, le-ltb, not-true}
use lib.Dec.{eqb}
use Rattle.coherence.specs.Types.{Cell, Message, State, Event, Stepped}
use Rattle.coherence.specs.Histories.{Overtaken, emptied_by, stays}
use Rattle.rules.specs.States.{slot_at, serial_at, is_free, bears, with_cell}
use Rattle.rules.specs.Cells.{with_want, written}
use Rattle.rules.specs.Refusals.{slotted, delivering, free_at, cell_of, table, table_of, given, refusal}
use Rattle.rules.specs.Effects.{emptied, write_of, send_of, want_of, deliver_of, recreate_of, effect, step_of}
use Rattle.rules.specs.Runs.{run_of, answers_of}
use Rattle.rules.proofs.Laws.Bools.{clash, split, and_both}
use Rattle.rules.proofs.Laws.Views.{Sized, kept_slot}
use Rattle.rules.proofs.Laws.Bears.{bears_not}
use Rattle.rules.proofs.Keeps.Well.{Well, well_formed_lem}
use Rattle.rules.proofs.Keeps.Accepted.{Named, Sends, Timeout}
use Rattle.rules.proofs.Keeps.Deeds.{Deed, quiet, write, want, send, land, renew, step_deed}
use Rattle.rules.proofs.Keeps.Numbers.{step_number, step_effect, step_refused, recreates}
use Rattle.rules.proofs.Keeps.Changes.{cell_change}
use Rattle.rules.proofs.Keeps.Sends.{send_change}
use Rattle.rules.proofs.Keeps.Arrivals.{Landed, landed_change}
use Rattle.rules.proofs.Keeps.Renewals.{change, sole}
use Rattle.rules.proofs.Keeps.Shapes.{step_keeps_sized}
use Rattle.rules.proofs.Keeps.Steps.{step_keeps_well}

-- slot i holds the message m, whose serial is not its line's
pub record Late (s : State) (i : ℕ) (m : Message) : Type 0 where
  pub slot : i < 64
  pub is : slot_at s i ≡ m
  pub there : is_free m.kind ≡ false
  pub stale : eqb m.serial.0 (serial_at s m.line) ≡ false

-- a recreation makes no message in the pool one of its line's serial
renewed_late : {s : State} (z : Sized s) (w : Well s) (e : Event) → Timeout s e → (i : ℕ) (m : Message) → i < 64
    → slot_at s i ≡ m → is_free m.kind ≡ false
    → m.line ≡ e.line → Late (recreate_of s e).state i m
renewed_late {s} z w e t i m hi p f l =
    let q = (change z w e t).slot i ∙ p in
    record {
      slot = hi;
      is = q;
      there = f;
      stale =
          bears_not m (serial_at (recreate_of s e).state m.line) f
          (subst₂ (λ k x. bears k (serial_at (recreate_of s e).state k) x ≡ false) (sym l) q ((sole z w e t).unborne i hi));
    }

pub overtaken_late : {s : State} (z : Sized s) (w : Well s) (r : Event) (i : ℕ) → Overtaken s r i
    → Late (step_of s r).state i (slot_at s i)
overtaken_late {s} z w r i o =
    let h = recreates s r o.recreates (sym (step_number s r) ∙ o.accepted) in
    subst (λ (x : Stepped). Late x.state i (slot_at s i)) (sym h.1) (renewed_late z w r h.0 i (slot_at s i) o.slot refl o.message o.line)

module _ {s : State} (z : Sized s) (w : Well s) (i : ℕ) (m : Message) (h : Late s i m) (e : Event) where
  -- the slot and the serials are as they were
  same_late : {s' : State} → slot_at s' i ≡ slot_at s i → serial_at s' m.line ≡ serial_at s m.line → Late s' i m
  same_late p q = record { slot = h.slot; is = p ∙ h.is; there = h.there; stale = rw q h.stale }

  used : free_at s i ≡ false
  used = ap (λ (x : Message). is_free x.kind) h.is ∙ h.there

  cell_late : (c : Cell) → Named s e → Late (with_cell s e.line e.node c) i m
  cell_late c n = same_late (sym (kept_slot s e.line e.node c i)) ((cell_change z w n.line n.node c).serial m.line)

  send_late : Sends s e → Late (send_of s e).state i m
  send_late n =
      let ch = send_change z w e n in
      same_late (ch.other_slot i (λ q. clash n.free (subst (λ j. free_at s j ≡ false) q used))) (ch.serial m.line)

  -- another slot is emptied
  slot_late : e.amount < 64 → free_at s e.amount ≡ false → eqb e.amount i ≡ false → {r : Stepped} → Landed s e.amount r → Late r.state i m
  slot_late hi f d l =
      let ch = landed_change z w e.amount hi f l.cell l.reply in
      subst (λ t. Late t i m) l.state
      (same_late (ch.other_slot i (λ y. eqb-false e.amount i d (sym y))) (ch.serial m.line))

  recreate_late : Timeout s e → Late (recreate_of s e).state i m
  recreate_late t =
      let ch = change z w e t in
      elim (ℕ_discrete m.line e.line) [
        | yes y ↦ renewed_late z w e t i m h.slot h.is h.there y
        | no d ↦ same_late (ch.slot i) (ch.other_serial m.line d)
      ]

  deed_late : {k : ℕ} {t : State} → Deed s e k t → slotted k && eqb e.amount i ≡ false → Late t i m
  unfolding write_of want_of
  deed_late (quiet _) d = h
  deed_late (write _ c _) d = cell_late (written e.word (cell_of s e)) c.named
  deed_late (want _ x c) d = cell_late (with_want x (cell_of s e)) c.named
  deed_late (send _ a) d = send_late a
  deed_late (land _ q hi f l) d = slot_late hi f (rw q at d) l
  deed_late (renew _ t) d = recreate_late t

  step_late : emptied_by i e (step_of s e).answer ≡ false → Late (step_of s e).state i m
  step_late d =
      let r : eqb (refusal s e) 0 && (slotted e.kind && eqb e.amount i) ≡ false =
      subst (λ a. eqb a 0 && (slotted e.kind && eqb e.amount i) ≡ false) (step_number s e) d in
      split (eqb (refusal s e) 0) (λ t. deed_late (step_deed s e (eqb-true (refusal s e) 0 t)) (rw t at r))
      (λ f. subst (λ x. Late x.state i m) (sym (step_refused s e f)) h)

-- it stays late as long as it is in its slot
pub run_late : {s : State} (z : Sized s) (w : Well s) (i : ℕ) (m : Message) → Late s i m → (es : List Event)
    → stays i es (answers_of s es) ≡ true → Late (run_of s es) i m
unfolding run_of answers_of stays
run_late {s = s} z w i m h [] g = h
run_late {s = s} z w i m h (e ∷ es) g =
    let b = and_both (not (emptied_by i e (step_of s e).answer)) (stays i es (answers_of (step_of s e).state es)) g in
    run_late {s = (step_of s e).state} (step_keeps_sized s z e) (step_keeps_well z w e) i m (step_late z w i m h e (not-true _ b.0)) es b.1

-- the delivery of a late message empties its slot and does nothing else
late_accepted : (s : State) (e : Event) → Well s → e.amount < 64 → free_at s e.amount ≡ false → given (table_of s e 3) ≡ 0
unfolding given table
late_accepted s e w h f = rw (well_formed_lem w, le-ltb 63 e.amount (omega arith), f)

pub late_delivery : {s : State} → Well s → (e : Event) (m : Message) → Late s e.amount m
    → delivering e.kind ≡ true → step_of s e ≡ emptied s e.amount
unfolding refusal effect deliver_of
late_delivery {s} w e m h k =
    let k3 = eqb-true e.kind 3 k in
    let it = slot_at s e.amount in
    let f : free_at s e.amount ≡ false = ap (λ (x : Message). is_free x.kind) h.is ∙ h.there in
    let q : eqb it.serial.0 (serial_at s it.line) ≡ false =
    subst (λ (x : Message). eqb x.serial.0 (serial_at s x.line) ≡ false) (sym h.is) h.stale in
    step_effect s e (ap (λ j. given (table_of s e j)) k3 ∙ late_accepted s e w h.slot f)
    ∙ ap (effect s e) k3
    ∙ rw q
