-- A delivery and a drop keep a state well formed. Assumes nothing.
use Prim.Native.Nat.{ℕ, ◌+◌, ◌≤◌, ◌<◌}
use mathlib.Core.Path.{◌≡◌, refl, sym, ap, subst}
use mathlib.Core.Bool.{Bool, true, false, cond as pick}
use native.Mathlib.Omega.{arith}
use lib.Dec.{eqb}
use Rattle.rules.specs.Types.{Cell, MessageKind, Free, Tokens, OwnershipAck, DeletionAck, Message, State, Event, Arrival, Stepped}
use Rattle.rules.specs.States.{slot_at, serial_at, free_message, bears, with_slot}
use Rattle.rules.specs.WellFormed.{message_fine, counted, in_cells, in_messages, held, borne, tokens_of}
use Rattle.rules.specs.Cells.{received, settled, unblocked}
use Rattle.rules.specs.Refusals.{free_at}
use Rattle.rules.specs.Effects.{answer, ack, target, landed, emptied, arrival, discarded, arrive, reply_of, leaves, deliver_of}
use Rattle.rules.proofs.Laws.Bools.{split, by_pick}
use Rattle.rules.proofs.Laws.Cells.{by_marks}
use Rattle.rules.proofs.Laws.Views.{Sized, same_cell}
use Rattle.rules.proofs.Laws.Bears.{Off, Like, apart, off_free, off_line, counts, counts_none, cell_share, message_share, bears_its}
use Rattle.rules.proofs.Laws.Changes.{Changed, landed_changes}
use Rattle.rules.proofs.Keeps.Cells.{CellOk, settled_ok, received_ok, unbacked_ok, unblocked_ok}
use Rattle.rules.proofs.Keeps.Messages.{fine_ownership, fine_deletion, fine_free}
use Rattle.rules.proofs.Keeps.Well.{Well, place, serial_small, cell_in, slot_address, slot_tokens}
use Rattle.rules.proofs.Keeps.Changes.{still_well}

-- the serial of the line of the message in slot i, and its target's cell with the tokens
abbrev pub current : State → ℕ → ℕ
current s i = serial_at s (slot_at s i).line

abbrev pub joining : State → ℕ → Cell
joining s i = settled s.sizes.total.0 (received (slot_at s i) (target s (slot_at s i)))

-- the message in slot i is of its line's serial
abbrev pub Live : State → ℕ → Type 0
Live s i = eqb (slot_at s i).serial.0 (current s i) ≡ true

-- the second cell is the first without its backup
pub record Unbacked (x c : Cell) : Type 0 where
  pub count : held c ≡ held x
  pub owner : c.owner ≡ x.owner
  pub blocked : c.blocked ≡ x.blocked
  pub backup : c.backup ≡ false
  pub valid : c.valid ≡ x.valid
  pub word : c.word ≡ x.word
  pub ok : {n : ℕ} {memory : Bool} → CellOk n memory x → CellOk n memory c

-- what a delivery or a drop makes of the target's cell and of the slot
pub data Arrives (s : State) (i : ℕ) : Cell → Message → Type 0 where
  gone : Arrives s i (target s (slot_at s i)) free_message
  tokens : Live s i → (slot_at s i).kind ≡ Tokens → (slot_at s i).owner ≡ false → Arrives s i (joining s i) free_message
  ownership : Live s i → (slot_at s i).kind ≡ Tokens → (slot_at s i).owner ≡ true
      → Arrives s i (joining s i) (ack OwnershipAck (current s i) (slot_at s i))
  acknowledged : Live s i → (slot_at s i).kind ≡ OwnershipAck → (target s (slot_at s i)).backup ≡ true
      → {c : Cell} → Unbacked (target s (slot_at s i)) c
      → Arrives s i c (ack DeletionAck (current s i) (slot_at s i))
  deleted : Live s i → (slot_at s i).kind ≡ DeletionAck → (target s (slot_at s i)).blocked ≡ true
      → Arrives s i (unblocked (target s (slot_at s i))) free_message

-- the step that made it
pub record Landed (s : State) (i : ℕ) (r : Stepped) : Type 0 where
  pub cell : Cell
  pub reply : Message
  pub how : Arrives s i cell reply
  pub state : landed s i (slot_at s i) cell reply ≡ r.state
  pub number : r.answer.number ≡ 0

module _ (s : State) (i : ℕ) where
  pub empties : Landed s i (emptied s i)
  empties =
      record {
        cell = target s (slot_at s i);
        reply = free_message;
        how = gone;
        state = ap (λ t. with_slot t i free_message) (same_cell s (slot_at s i).line (slot_at s i).destination);
        number = refl;
      }

  lands : (a : Arrival) → a.answer.number ≡ 0 → Arrives s i a.cell (reply_of a.reply (current s i) (slot_at s i))
      → Landed s i (leaves s i (current s i) (slot_at s i) a)
  lands a n h = record { cell = a.cell; reply = reply_of a.reply (current s i) (slot_at s i); how = h; state = refl; number = n }

  -- a message that is discarded
  discards : Landed s i (leaves s i (current s i) (slot_at s i) (discarded (target s (slot_at s i))))
  unfolding reply_of
  discards = lands (discarded (target s (slot_at s i))) refl gone

  -- an ownership acknowledgment takes away the backup that it finds, and is answered; without one it is discarded
  abbrev acked : Arrival
  acked = arrive s.sizes.total.0 i (target s (slot_at s i)) (slot_at s i) OwnershipAck

  unbacks : (target s (slot_at s i)).backup ≡ true → Unbacked (target s (slot_at s i)) acked.cell
  unfolding arrive
  unbacks t = rw t (record { count = refl; owner = refl; blocked = refl; backup = refl; valid = refl; word = refl; ok = unbacked_ok })

  confirms : (target s (slot_at s i)).backup ≡ true → acked.reply ≡ DeletionAck
  unfolding arrive
  confirms t = rw t

  unheld : (target s (slot_at s i)).backup ≡ false → acked ≡ discarded (target s (slot_at s i))
  unfolding arrive
  unheld f = rw f

  arrivals : Live s i → (k : MessageKind) → (slot_at s i).kind ≡ k
      → Landed s i (leaves s i (current s i) (slot_at s i) (arrive s.sizes.total.0 i (target s (slot_at s i)) (slot_at s i) k))
  unfolding arrive reply_of
  arrivals g Free e = discards
  arrivals g Tokens e =
      by_pick
      (λ k. Landed s i (leaves s i (current s i) (slot_at s i) (arrival (joining s i) k (answer 0 1 (pick (slot_at s i).owner i 64)))))
      (slot_at s i).owner
      (λ t. lands (arrival (joining s i) OwnershipAck _) refl (ownership g e t))
      (λ f. lands (arrival (joining s i) Free _) refl (tokens g e f))
  arrivals g OwnershipAck e =
      split (target s (slot_at s i)).backup
      (λ t.
      lands acked (rw t) (subst (λ k. Arrives s i acked.cell (reply_of k (current s i) (slot_at s i))) (sym (confirms t)) (acknowledged g e t (unbacks t))))
      (λ f. subst (λ a. Landed s i (leaves s i (current s i) (slot_at s i) a)) (sym (unheld f)) discards)
  arrivals g DeletionAck e =
      by_pick (λ a. Landed s i (leaves s i (current s i) (slot_at s i) a)) (target s (slot_at s i)).blocked
      (λ t. lands (arrival (unblocked (target s (slot_at s i))) Free (answer 0 1 64)) refl (deleted g e t))
      (λ _. discards)

pub delivers : (s : State) (e : Event) → Landed s e.amount (deliver_of s e)
unfolding deliver_of
delivers s e =
    let i = e.amount in
    split (eqb (slot_at s i).serial.0 (current s i)) (λ g. rw g (arrivals s i g (slot_at s i).kind refl)) (λ f. rw f (empties s i))

module _ {s : State} (z : Sized s) (w : Well s) (i : ℕ) (hi : i < 64) (f : free_at s i ≡ false) where
  pub landed_change : (c : Cell) (r : Message)
      → Changed s (landed s i (slot_at s i) c r) (slot_at s i).line (slot_at s i).destination c i r
  landed_change c r = let a = slot_address w i hi f in landed_changes z (place w a.line a.destination hi) c r

  -- a message of the line's serial bears it, and its tokens fit
  pub live_bears : Live s i → bears (slot_at s i).line (current s i) (slot_at s i) ≡ true
  live_bears g = bears_its (slot_at s i) (current s i) f g

  fits : Live s i → held (target s (slot_at s i)) + borne (slot_at s i) ≤ s.sizes.total.0
  unfolding tokens_of
  fits g =
      let m = slot_at s i in
      let p = (landed_change (target s m) free_message).place in
      let most : in_cells s m.line held + in_messages s m.line borne ≤ s.sizes.total.0 = w.sums m.line p.line16 in
      omega (
        arith,
        cell_share s m.line m.destination held p.node9,
        message_share s m.line i borne hi,
        counts m.line (current s i) borne m (live_bears g),
      )

  -- a cell and a reply that keep the rules, and add no token to the line
  record Sound (c : Cell) (r : Message) : Type 0 where
    cell : CellOk s.sizes.total.0 (eqb (slot_at s i).destination s.sizes.caches) c
    reply : message_fine s.sizes r r.kind ≡ true
    off : Off (slot_at s i).line r
    none : borne r ≡ 0
    count : held c ≤ held (target s (slot_at s i)) + counted (slot_at s i).line (current s i) borne (slot_at s i)

  joined_ok : Live s i → (slot_at s i).kind ≡ Tokens
      → CellOk s.sizes.total.0 (eqb (slot_at s i).destination s.sizes.caches) (joining s i)
  joined_ok g e =
      let a = slot_address w i hi f in
      let t = slot_tokens w i hi e in
      settled_ok (received_ok (cell_in w a.line a.destination) (slot_at s i) (fits g) t.some t.owner_full)

  joined_count : Live s i
      → held (joining s i) ≤ held (target s (slot_at s i)) + counted (slot_at s i).line (current s i) borne (slot_at s i)
  joined_count g =
      let m = slot_at s i in
      let y = counts m.line (current s i) borne m (live_bears g) in
      by_marks (λ c. held c ≤ held (target s m) + counted m.line (current s i) borne m) m (target s m) (λ _ _. omega arith) (λ _ _. omega arith)
      (λ _ _. omega arith)
      (λ _ _. omega arith)

  sound : {c : Cell} {r : Message} → Arrives s i c r → Sound c r
  sound gone =
      let a = slot_address w i hi f in
      record {
        cell = cell_in w a.line a.destination;
        reply = fine_free s.sizes;
        off = off_free (slot_at s i).line;
        none = refl;
        count = omega arith;
      }
  sound (tokens g e _) =
      record {
        cell = joined_ok g e;
        reply = fine_free s.sizes;
        off = off_free (slot_at s i).line;
        none = refl;
        count = joined_count g;
      }
  sound (ownership g e _) =
      let a = slot_address w i hi f in
      record {
        cell = joined_ok g e;
        reply = fine_ownership s.sizes a (serial_small w a.line);
        off = off_line (ack OwnershipAck (current s i) (slot_at s i));
        none = refl;
        count = joined_count g;
      }
  sound (acknowledged g e _ u) =
      let a = slot_address w i hi f in
      record {
        cell = u.ok (cell_in w a.line a.destination);
        reply = fine_deletion s.sizes a (serial_small w a.line);
        off = off_line (ack DeletionAck (current s i) (slot_at s i));
        none = refl;
        count = omega arith;
      }
  sound (deleted g e _) =
      let a = slot_address w i hi f in
      record {
        cell = unblocked_ok (cell_in w a.line a.destination);
        reply = fine_free s.sizes;
        off = off_free (slot_at s i).line;
        none = refl;
        count = omega arith;
      }

  pub landed_like : {c : Cell} {r : Message} → Arrives s i c r → Like (slot_at s i).line (slot_at s i) r
  landed_like h = apart (off_line (slot_at s i)) (sound h).off

  pub landed_well : {r : Stepped} → Landed s i r → Well r.state
  landed_well h =
      let k = sound h.how in
      subst Well h.state
      (still_well (landed_change h.cell h.reply) w k.cell k.reply (landed_like h.how)
      (omega (arith, counts_none (slot_at s i).line (current s i) borne h.reply k.none)))
