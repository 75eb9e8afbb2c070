-- A delivery and a drop keep the invariant. Assumes nothing.
use Prim.Native.Nat.{ℕ, ◌+◌, ◌≤◌, ◌<◌}
use mathlib.Core.Path.{◌≡◌, refl, ap, subst, sym, ◌∙◌}
use mathlib.Core.Bool.{Bool, true, false, ◌||◌}
use native.Mathlib.Omega.{arith}
use borrow.Author.Tests.{eq-eqb}
use lib.Dec.{eqb}
use Rattle.coherence.specs.Types.{Cell, MessageKind, Tokens, OwnershipAck, DeletionAck, Message, State, Stepped}
use Rattle.rules.specs.States.{slot_at, free_message, bears}
use Rattle.rules.specs.WellFormed.{in_cells, held, borne}
use Rattle.rules.specs.Cells.{received, unblocked}
use Rattle.rules.specs.Refusals.{free_at}
use Rattle.rules.specs.Effects.{ack, target, landed}
use Rattle.rules.proofs.Laws.Bools.{bit, bit_of, bit_not, bit_small, clash, split}
use Rattle.rules.proofs.Laws.Cells.{by_marks}
use Rattle.rules.proofs.Laws.Views.{Sized}
use Rattle.rules.proofs.Laws.Bears.{bears_free, bears_its, cell_share}
use Rattle.rules.proofs.Keeps.Messages.{tokened}
use Rattle.rules.proofs.Keeps.Well.{Well, slot_sort}
use Rattle.rules.proofs.Keeps.Arrivals.{current, joining, Live, Arrives, gone, tokens, ownership, acknowledged, deleted, Landed, landed_change, live_bears, landed_like}
use Rattle.coherence.proofs.Invariant.{owners, backups, blocks, passed, ack_of, ownership_acks, deletion_acks, CountsOf, Has, Saves, Carries, Kept, Held}
use Rattle.coherence.proofs.Changes.{Shares, live, dead, blocked_owners, held_change, kept_here, saved_here, Moved, moved}

-- marks that are joined
or_not : (a b : Bool) → a ≡ false → bit (a || b) ≡ bit b
or_not true b h = clash refl h
or_not false b h = refl

or_set : (a b : Bool) → a ≡ true → bit (a || b) ≡ 1
or_set true b h = refl
or_set false b h = clash h refl

module _ {s : State} (z : Sized s) (w : Well s) (i : ℕ) (hi : i < 64) (f : free_at s i ≡ false) (x : ℕ) (k : Kept s (slot_at s i).line x) where
  -- how the counts move when the target's cell becomes c and the slot r
  record Before (c : Cell) (r : Message) : Type 0 where
    moves : Moved (landed_change z w i hi f c r)
    counts : CountsOf s (slot_at s i).line
    guards : in_cells s (slot_at s i).line blocks ≤ in_cells s (slot_at s i).line owners
    own : owners (target s (slot_at s i)) ≤ in_cells s (slot_at s i).line owners
    bak : backups (target s (slot_at s i)) ≤ in_cells s (slot_at s i).line backups
    blk : blocks (target s (slot_at s i)) ≤ in_cells s (slot_at s i).line blocks

  before : (c : Cell) (r : Message) → Before c r
  before c r =
      let ch = landed_change z w i hi f c r in
      let m = slot_at s i in
      let p = ch.place in
      record {
        moves = moved ch;
        counts = k.tally;
        guards = blocked_owners w m.line p.line16;
        own = cell_share s m.line m.destination owners p.node9;
        bak = cell_share s m.line m.destination backups p.node9;
        blk = cell_share s m.line m.destination blocks p.node9;
      }

  -- the message that is delivered, and what stands in the slot after it: nothing, or an acknowledgment
  it : Live s i
      → Shares (slot_at s i).line (current s i) (slot_at s i) (borne (slot_at s i)) (passed (slot_at s i)) (ownership_acks (slot_at s i)) (deletion_acks (slot_at s i))
  it g = live (slot_at s i).line (current s i) (slot_at s i) (live_bears z w i hi f g)

  nothing : Shares (slot_at s i).line (current s i) free_message 0 0 0 0
  nothing = dead (slot_at s i).line (current s i) free_message (bears_free (slot_at s i).line (current s i) free_message refl)

  nothing_carries : Carries (slot_at s i).line (current s i) x free_message
  nothing_carries h _ = clash h (bears_free (slot_at s i).line (current s i) free_message refl)

  own_reply : Shares (slot_at s i).line (current s i) (ack OwnershipAck (current s i) (slot_at s i)) 0 0 1 0
  own_reply =
      live (slot_at s i).line (current s i) (ack OwnershipAck (current s i) (slot_at s i))
      (bears_its (ack OwnershipAck (current s i) (slot_at s i)) (current s i) refl (eq-eqb (current s i) (current s i) refl))

  deletion_reply : Shares (slot_at s i).line (current s i) (ack DeletionAck (current s i) (slot_at s i)) 0 0 0 1
  deletion_reply =
      live (slot_at s i).line (current s i) (ack DeletionAck (current s i) (slot_at s i))
      (bears_its (ack DeletionAck (current s i) (slot_at s i)) (current s i) refl (eq-eqb (current s i) (current s i) refl))

  -- the target's word, before and after tokens came
  target_has : Has x (target s (slot_at s i))
  target_has = k.words (slot_at s i).destination (landed_change z w i hi f (target s (slot_at s i)) free_message).place.node9

  joining_has : Live s i → Has x (joining s i)
  joining_has g =
      let m = slot_at s i in
      let sent = k.carried i hi (live_bears z w i hi f g) in
      by_marks (Has x) m (target s m) (λ _ d _. sent d) (λ _ _. target_has) (λ _ d _. sent d) (λ _ _. target_has)

  -- the cell that tokens came to
  record Joined (c : Cell) : Type 0 where
    count : held c ≡ held (target s (slot_at s i)) + borne (slot_at s i)
    owner : owners c ≡ bit ((slot_at s i).owner || (target s (slot_at s i)).owner)
    blocked : blocks c ≡ bit ((slot_at s i).owner || (target s (slot_at s i)).blocked)
    backup : backups c ≡ backups (target s (slot_at s i))
    saved : Saves x (target s (slot_at s i)) → Saves x c

  joins : Joined (received (slot_at s i) (target s (slot_at s i)))
  joins =
      by_marks Joined (slot_at s i) (target s (slot_at s i))
      (λ o _. record { count = refl; owner = rw o; blocked = rw o; backup = refl; saved = λ v. v })
      (λ o _. record { count = refl; owner = rw o; blocked = rw o; backup = refl; saved = λ v. v })
      (λ o _. record { count = refl; owner = rw o; blocked = rw o; backup = refl; saved = λ v. v })
      (λ o _. record { count = refl; owner = rw o; blocked = rw o; backup = refl; saved = λ v. v })

  -- the message is of one kind: what it adds to the acknowledgments
  of_kind : (q : MessageKind) → (slot_at s i).kind ≡ q
      → (ownership_acks (slot_at s i) ≡ bit (eqb (ack_of q) 1)) × (deletion_acks (slot_at s i) ≡ bit (eqb (ack_of q) 2))
  of_kind q e = (ap (λ v. bit (eqb (ack_of v) 1)) e, ap (λ v. bit (eqb (ack_of v) 2)) e)

  arrives_kept : {c : Cell} {r : Message} → Arrives s i c r → Kept (landed s i (slot_at s i) c r) (slot_at s i).line x
  arrives_kept gone =
      let m = slot_at s i in
      let l = m.line in
      let q = current s i in
      let ch = landed_change z w i hi f (target s m) free_message in
      let b = before (target s m) free_message in
      let n = nothing in
      let u = tokened (slot_sort w i hi) in
      let t : CountsOf (landed s i m (target s m) free_message) l =
      split (bears l q m) (λ h. let y = live l q m h in omega arith) (λ h. let y = dead l q m h in omega arith) in
      kept_here ch x k t target_has nothing_carries (saved_here ch x k (omega arith) (λ v. v))
  arrives_kept (tokens g e p) =
      let m = slot_at s i in
      let ch = landed_change z w i hi f (joining s i) free_message in
      let b = before (joining s i) free_message in
      let old = it g in
      let new = nothing in
      let j = joins in
      let o = or_not m.owner (target s m).owner p in
      let v = or_not m.owner (target s m).blocked p in
      let a = bit_not m.owner p in
      let y = of_kind Tokens e in
      kept_here ch x k (omega arith) (joining_has g) nothing_carries (saved_here ch x k (omega arith) j.saved)
  arrives_kept (ownership g e p) =
      let m = slot_at s i in
      let r = ack OwnershipAck (current s i) m in
      let ch = landed_change z w i hi f (joining s i) r in
      let b = before (joining s i) r in
      let old = it g in
      let new = own_reply in
      let j = joins in
      let o = or_set m.owner (target s m).owner p in
      let v = or_set m.owner (target s m).blocked p in
      let a = bit_of m.owner p in
      let y = of_kind Tokens e in
      kept_here ch x k (omega arith) (joining_has g) (λ _ h. clash h refl) (λ none. absurd (omega arith))
  arrives_kept (acknowledged g e p {c} h) =
      let m = slot_at s i in
      let r = ack DeletionAck (current s i) m in
      let ch = landed_change z w i hi f c r in
      let b = before c r in
      let old = it g in
      let new = deletion_reply in
      let v = bit_of (target s m).backup p in
      let a = bit_small m.owner in
      let u = tokened (slot_sort w i hi) in
      let y = of_kind OwnershipAck e in
      let own = ap bit h.owner in
      let blk = ap bit h.blocked in
      let bak = bit_not c.backup h.backup in
      let count = h.count in
      kept_here ch x k (omega arith) (λ d. h.word ∙ target_has (sym h.valid ∙ d)) (λ _ d. clash d refl) (λ none. absurd (omega arith))
  arrives_kept (deleted g e p) =
      let m = slot_at s i in
      let c = unblocked (target s m) in
      let ch = landed_change z w i hi f c free_message in
      let b = before c free_message in
      let old = it g in
      let new = nothing in
      let v = bit_of (target s m).blocked p in
      let u = tokened (slot_sort w i hi) in
      let y = of_kind DeletionAck e in
      kept_here ch x k (omega arith) target_has nothing_carries (λ none. absurd (omega arith))

-- every line is kept
pub landed_held : {s : State} (z : Sized s) (w : Well s) (i : ℕ) (hi : i < 64) (f : free_at s i ≡ false) (W : ℕ → ℕ) → Held s W
    → {r : Stepped} → Landed s i r → Held r.state W
unfolding Held
landed_held {s} z w i hi f W k h =
    let l = (slot_at s i).line in
    let ch = landed_change z w i hi f h.cell h.reply in
    subst (λ t. Held t W) h.state
    (held_change ch W (landed_like z w i hi f h.how) k (arrives_kept z w i hi f (W l) (k l ch.place.line) h.how))
