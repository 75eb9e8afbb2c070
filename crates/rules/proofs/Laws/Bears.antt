-- Which messages count on a line. Assumes nothing.
use Prim.Native.Nat.{ℕ, ◌≤◌, ◌<◌}
use mathlib.Core.Path.{◌≡◌, refl, sym, ◌∙◌}
use mathlib.Core.Logic.{◌≢◌}
use mathlib.Core.Bool.{true, false, not}
use native.Mathlib.Omega.{arith}
use borrow.Author.Tests.{eq-eqb, ne_eqb}
use lib.Dec.{eqb}
use Rattle.rules.specs.Types.{Cell, Message, State}
use Rattle.rules.specs.States.{cell_at, slot_at, serial_at, bears, is_free, free_message}
use Rattle.rules.specs.WellFormed.{counted, in_cells, in_messages}
use Rattle.rules.proofs.Laws.Bools.{split}
use Rattle.rules.proofs.Laws.Sums.{sum_at}

-- a message that counts, and one that does not
pub counts : (l q : ℕ) (f : Message → ℕ) (m : Message) → bears l q m ≡ true → counted l q f m ≡ f m
unfolding counted
counts l q f m h = rw h

pub counts_not : (l q : ℕ) (f : Message → ℕ) (m : Message) → bears l q m ≡ false → counted l q f m ≡ 0
unfolding counted
counts_not l q f m h = rw h

pub counts_none : (l q : ℕ) (f : Message → ℕ) (m : Message) → f m ≡ 0 → counted l q f m ≡ 0
counts_none l q f m h = split (bears l q m) (λ t. counts l q f m t ∙ h) (counts_not l q f m)

-- what a message counts is at most its number
pub counted_le : (l q : ℕ) (f : Message → ℕ) (m : Message) → counted l q f m ≤ f m
counted_le l q f m =
    split (bears l q m) (λ t. omega (arith, counts l q f m t)) (λ g. omega (arith, counts_not l q f m g))

pub counted_mono : (l q : ℕ) (f g : Message → ℕ) (m : Message) → f m ≤ g m → counted l q f m ≤ counted l q g m
counted_mono l q f g m h =
    split (bears l q m) (λ t. omega (arith, counts l q f m t, counts l q g m t)) (λ b. omega (arith, counts_not l q f m b))

-- a cell's and a message's share of a sum
pub cell_share : (s : State) (l n : ℕ) (f : Cell → ℕ) → n < 9 → f (cell_at s l n) ≤ in_cells s l f
unfolding in_cells
cell_share s l n f h = sum_at 9 (λ j. f (cell_at s l j)) n h

pub message_share : (s : State) (l i : ℕ) (f : Message → ℕ) → i < 64 → counted l (serial_at s l) f (slot_at s i) ≤ in_messages s l f
unfolding in_messages
message_share s l i f h = sum_at 64 (λ j. counted l (serial_at s l) f (slot_at s j)) i h

-- a free slot bears nothing; a message of the line's serial bears it; one that bears no q has another serial
pub bears_free : (l q : ℕ) (m : Message) → is_free m.kind ≡ true → bears l q m ≡ false
unfolding bears
bears_free l q m h = rw h

pub bears_its : (m : Message) (q : ℕ) → is_free m.kind ≡ false → eqb m.serial.0 q ≡ true → bears m.line q m ≡ true
unfolding bears
bears_its m q f h = rw (f, eq-eqb m.line m.line refl, h)

pub bears_not : (m : Message) (q : ℕ) → is_free m.kind ≡ false → bears m.line q m ≡ false → eqb m.serial.0 q ≡ false
unfolding bears
bears_not m q f h = rw (f, eq-eqb m.line m.line refl) at h

-- the message does not count on another line
unfoldable pub Off : ℕ → Message → Type 0
Off l m = (k q : ℕ) → k ≢ l → bears k q m ≡ false

pub off_free : (l : ℕ) → Off l free_message
unfolding Off bears
off_free l k q d = refl

pub off_line : (m : Message) → Off m.line m
unfolding Off bears
off_line m k q d =
    split (not (is_free m.kind)) (λ t. rw (t, ne_eqb m.line k (λ e. d (sym e)))) (λ f. rw f)

pub off_slot : (l : ℕ) (m : Message) → is_free m.kind ≡ true → Off l m
unfolding Off
off_slot l m h k q d = bears_free k q m h

-- on another line the two messages count alike
pub data Like (l : ℕ) (x y : Message) : Type 0 where
  alike : x ≡ y → Like l x y
  apart : Off l x → Off l y → Like l x y
