-- A send keeps the invariant, without the owner token and with it. Assumes nothing.
use Prim.Native.Nat.{ℕ, ◌-◌, ◌≤◌}
use mathlib.Core.Path.{◌≡◌, refl, ◌∙◌}
use mathlib.Core.Bool.{Bool, true, false, ◌&&◌, cond as pick}
use native.Mathlib.Omega.{arith}
use borrow.Author.Tests.{eq-eqb}
use lib.Dec.{eqb, ltb}
use Rattle.coherence.specs.Types.{Cell, State, Event}
use Rattle.rules.specs.States.{cell_at, slot_at, serial_at}
use Rattle.rules.specs.WellFormed.{held}
use Rattle.rules.specs.Refusals.{cell_of, lowest_free}
use Rattle.rules.specs.Effects.{send_of}
use Rattle.rules.proofs.Laws.Bools.{bit, bit_of, bit_not, of_bit, clash, split}
use Rattle.rules.proofs.Laws.Views.{Sized}
use Rattle.rules.proofs.Laws.Bears.{bears_free, bears_its, cell_share}
use Rattle.rules.proofs.Keeps.Well.{Well, cell_in}
use Rattle.rules.proofs.Keeps.Accepted.{Sends}
use Rattle.rules.proofs.Keeps.Sends.{outgoing, remaining, by_mark, remaining_count, send_like, send_change, send_well}
use Rattle.coherence.proofs.Invariant.{owners, backups, blocks, CountsOf, Has, Saves, Carries, Kept, Held}
use Rattle.coherence.proofs.Changes.{Shares, live, dead, blocked_owners, held_change, kept_here, saved_here, Moved, moved}

-- the word of a cell that gives
given_word : (b valid : Bool) (a x : ℕ) → (valid ≡ true → a ≡ x) → b && valid ≡ true → pick b a 0 ≡ x
given_word true valid a x p h = p h
given_word false valid a x p h = clash h refl

-- what the sender's cell is after a send without the owner token, and with it
record Plain (x c : Cell) : Type 0 where
  owner : owners c ≡ owners x
  blocked : blocks c ≡ blocks x
  backup : backups c ≡ backups x
  saved : (y : ℕ) → Saves y x → Saves y c

record Passed (x c : Cell) : Type 0 where
  owner : owners c ≡ 0
  blocked : blocks c ≡ blocks x
  backup : backups c ≡ 1
  saved : c.saved ≡ x.word

module _ {s : State} (z : Sized s) (w : Well s) (e : Event) (h : Sends s e) (x : ℕ) (k : Kept s e.line x) where
  old : Shares e.line (serial_at s e.line) (slot_at s (lowest_free s)) 0 0 0 0
  old = dead e.line (serial_at s e.line) (slot_at s (lowest_free s)) (bears_free e.line (serial_at s e.line) (slot_at s (lowest_free s)) h.free)

  new : Shares e.line (serial_at s e.line) (outgoing s e) e.amount (bit (eqb e.owner 1)) 0 0
  new = live e.line (serial_at s e.line) (outgoing s e) (bears_its (outgoing s e) (serial_at s e.line) refl (eq-eqb (serial_at s e.line) (serial_at s e.line) refl))

  cell_has : Has x (cell_of s e)
  cell_has = k.words e.node (send_change z w e h).place.node9

  sent_carries : Carries e.line (serial_at s e.line) x (outgoing s e)
  sent_carries _ f = rw f (cell_has (h.valid f))

  remaining_has : Has x (remaining s e)
  remaining_has =
      let c = cell_of s e in
      let g = given_word (ltb e.amount (held c)) c.valid c.word x cell_has in
      by_mark (Has x) e c (λ _. g) (λ _. g)

  plain : eqb e.owner 1 ≡ false → Plain (cell_of s e) (remaining s e)
  plain =
      by_mark (λ c. eqb e.owner 1 ≡ false → Plain (cell_of s e) c) e (cell_of s e) (λ t f. clash t f)
      (λ _ _. record { owner = refl; blocked = refl; backup = refl; saved = λ y v. v })

  passes : eqb e.owner 1 ≡ true → Passed (cell_of s e) (remaining s e)
  passes =
      by_mark (λ c. eqb e.owner 1 ≡ true → Passed (cell_of s e) c) e (cell_of s e)
      (λ _ _. record { owner = refl; blocked = refl; backup = refl; saved = refl })
      (λ f t. clash t f)

  -- how the counts move
  record Went : Type 0 where
    moves : Moved (send_change z w e h)
    before : CountsOf s e.line
    gone : Shares e.line (serial_at s e.line) (slot_at s (lowest_free s)) 0 0 0 0
    came : Shares e.line (serial_at s e.line) (outgoing s e) e.amount (bit (eqb e.owner 1)) 0 0
    count : held (remaining s e) ≡ held (cell_of s e) - e.amount
    within : e.amount ≤ held (cell_of s e)

  went : Went
  went = record { moves = moved (send_change z w e h); before = k.tally; gone = old; came = new; count = remaining_count z w e h; within = h.within }

  plain_kept : eqb e.owner 1 ≡ false → Kept (send_of s e).state e.line x
  plain_kept f =
      let ch = send_change z w e h in
      let y = went in
      let p = plain f in
      let o = bit_not (eqb e.owner 1) f in
      kept_here ch x k (omega arith) remaining_has sent_carries (saved_here ch x k (omega arith) (p.saved x))

  -- the sender was the unblocked owner: its backup is the line's only one, and of its word
  pass_kept : eqb e.owner 1 ≡ true → Kept (send_of s e).state e.line x
  pass_kept t =
      let ch = send_change z w e h in
      let n = ch.place in
      let y = went in
      let p = passes t in
      let o = bit_of (eqb e.owner 1) t in
      let own = bit_of (cell_of s e).owner (h.owner t) in
      let blk = bit_not (cell_of s e).blocked (h.unblocked t) in
      let bak = cell_share s e.line e.node backups n.node9 in
      let guards = blocked_owners (send_well z w e h) e.line n.line16 in
      let m = (cell_in w n.line n.node).marks in
      let valid : (cell_of s e).valid ≡ true = of_bit (cell_of s e).valid (omega arith) in
      kept_here ch x k (omega arith) remaining_has sent_carries
      (λ none. (
        λ _. p.saved ∙ cell_has valid,
        λ j hj d u. absurd (omega (arith, cell_share s e.line j backups hj, bit_of (cell_at s e.line j).backup u)),
      ))

  send_kept : Kept (send_of s e).state e.line x
  send_kept = split (eqb e.owner 1) pass_kept plain_kept

-- every line is kept
pub send_held : {s : State} (z : Sized s) (w : Well s) (e : Event) (h : Sends s e) (W : ℕ → ℕ) → Held s W
    → Held (send_of s e).state W
unfolding Held
send_held z w e h W k =
    held_change (send_change z w e h) W (send_like z w e h) k (send_kept z w e h (W e.line) (k e.line h.named.line))
