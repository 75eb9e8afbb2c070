-- A send keeps a state well formed. Assumes nothing.
use Prim.Native.Nat.{◌-◌, ◌≤◌}
use mathlib.Core.Path.{◌≡◌, refl}
use mathlib.Core.Bool.{true, false, cond as pick}
use native.Mathlib.Omega.{arith}
use lib.Dec.{eqb}
use Rattle.rules.specs.Types.{Cell, Message, State, Event}
use Rattle.rules.specs.States.{slot_at, serial_at}
use Rattle.rules.specs.WellFormed.{borne}
use Rattle.rules.specs.Cells.{back_up, give}
use Rattle.rules.specs.Refusals.{cell_of, lowest_free}
use Rattle.rules.specs.Effects.{sent_message, sent_cell, send_of}
use Rattle.rules.proofs.Laws.Bools.{bit, bit_le, clash, by_pick}
use Rattle.rules.proofs.Laws.Views.{Sized}
use Rattle.rules.proofs.Laws.Bears.{Like, apart, off_line, off_slot, counted_le}
use Rattle.rules.proofs.Laws.Changes.{Changed, landed_changes}
use Rattle.rules.proofs.Keeps.Cells.{CellOk, back_up_ok, give_ok}
use Rattle.rules.proofs.Keeps.Messages.{TokensOk, fine_tokens}
use Rattle.rules.proofs.Keeps.Well.{Well, place, cell_in, serial_small}
use Rattle.rules.proofs.Keeps.Accepted.{Sends}
use Rattle.rules.proofs.Keeps.Changes.{still_well}

-- the message that goes into the pool, and the sender's cell
abbrev pub outgoing : State → Event → Message
outgoing s e = sent_message e (serial_at s e.line) (cell_of s e)

abbrev pub remaining : State → Event → Cell
remaining s e = sent_cell e (cell_of s e)

-- the cell gives tokens, and before that takes a backup if the owner token is among them
pub by_mark : (P : Cell → Type 0) (e : Event) (c : Cell) → (eqb e.owner 1 ≡ true → P (give e.amount (back_up c)))
    → (eqb e.owner 1 ≡ false → P (give e.amount c)) → P (sent_cell e c)
unfolding sent_cell
by_mark P e c t f = by_pick (λ x. P (give e.amount x)) (eqb e.owner 1) t f

module _ {s : State} (z : Sized s) (w : Well s) (e : Event) (h : Sends s e) where
  pub send_like : Like e.line (slot_at s (lowest_free s)) (outgoing s e)
  send_like = apart (off_slot e.line (slot_at s (lowest_free s)) h.free) (off_line (outgoing s e))

  pub send_change : Changed s (send_of s e).state e.line e.node (remaining s e) (lowest_free s) (outgoing s e)
  unfolding send_of
  send_change = landed_changes z (place w h.named.line h.named.node h.room) (remaining s e) (outgoing s e)

  remaining_ok : CellOk s.sizes.total.0 (eqb e.node s.sizes.caches) (remaining s e)
  remaining_ok =
      let k = cell_in w h.named.line h.named.node in
      by_mark (CellOk s.sizes.total.0 (eqb e.node s.sizes.caches)) e (cell_of s e)
      (λ t. give_ok (back_up_ok k (h.unblocked t)) e.amount h.within (λ x. clash x refl))
      (λ f. give_ok k e.amount h.within (h.keeps f))

  pub remaining_count : (remaining s e).tokens.0 ≡ (cell_of s e).tokens.0 - e.amount
  remaining_count = by_mark (λ c. c.tokens.0 ≡ (cell_of s e).tokens.0 - e.amount) e (cell_of s e) (λ _. refl) (λ _. refl)

  outgoing_ok : TokensOk s.sizes (outgoing s e)
  outgoing_ok =
      let k = cell_in w h.named.line h.named.node in
      let m : e.amount ≤ s.sizes.total.0 = omega (arith, h.within, k.most) in
      let o : bit (eqb e.owner 1) ≤ bit (eqb e.full 1) = bit_le (eqb e.owner 1) (eqb e.full 1) h.full in
      let f : eqb e.full 1 ≡ false → pick (eqb e.full 1) (cell_of s e).word 0 ≡ 0 = λ f. rw f in
      search h.some

  pub send_well : Well (send_of s e).state
  send_well =
      let a = h.named in
      still_well send_change w remaining_ok
      (fine_tokens s.sizes
      (record { line = a.line; source = a.node; destination = h.other; apart = h.apart; serial = serial_small w a.line })
      outgoing_ok)
      send_like
      (omega (arith, counted_le e.line (serial_at s e.line) borne (outgoing s e), remaining_count, h.within))
