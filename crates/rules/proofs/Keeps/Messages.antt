-- The rules of what stands in a slot, as facts; what a step puts there keeps them. Assumes nothing.
use Prim.Native.Nat.{ℕ, ◌≤◌, ◌<◌}
use mathlib.Core.Path.{◌≡◌, refl, sym, ap}
use mathlib.Core.Bool.{true, false, not}
use native.Mathlib.Omega.{arith}
use borrow.Author.Tests.{ltb-true, leb-true, eqb-true, eqb-false, not-true, lt-ltb, le-leb, ne_eqb}
use lib.Dec.{eqb}
use Rattle.rules.specs.Types.{MessageKind, Free, Tokens, OwnershipAck, DeletionAck, Message, Sizes}
use Rattle.rules.specs.Tools.{every}
use Rattle.rules.specs.States.{is_free, free_message}
use Rattle.rules.specs.WellFormed.{message_zero, address_fine, tokens_fine, ack_fine, message_fine}
use Rattle.rules.specs.Effects.{ack}
use Rattle.rules.proofs.Laws.Bools.{bit, clash, and_left, and_right, every_all, all_every, bit_small, not_bit_le, imp_bit, bit_imp, imp_none, none_imp}

pub record AddressOk (z : Sizes) (m : Message) : Type 0 where
  pub line : m.line < z.lines
  pub source : m.source ≤ z.caches
  pub destination : m.destination ≤ z.caches
  pub apart : eqb m.source m.destination ≡ false
  pub serial : m.serial.0 < 4

pub record TokensOk (z : Sizes) (m : Message) : Type 0 where
  pub some : 1 ≤ m.tokens.0
  pub most : m.tokens.0 ≤ z.total.0
  pub owner_full : bit m.owner ≤ bit m.full
  pub no_word : m.full ≡ false → m.word ≡ 0

address_ok : {z : Sizes} {m : Message} → address_fine z m ≡ true → AddressOk z m
unfolding address_fine
address_ok h = let e = every_all _ h in search (ltb-true, leb-true, not-true)

ok_address : {z : Sizes} {m : Message} → AddressOk z m → address_fine z m ≡ true
unfolding address_fine
ok_address k = all_every _ (search (lt-ltb, le-leb, ap not k.apart) depth 12)

tokens_ok : {z : Sizes} {m : Message} → tokens_fine z m ≡ true → TokensOk z m
unfolding tokens_fine
tokens_ok h = let e = every_all _ h in search (leb-true, imp_bit, imp_none)

ok_tokens : {z : Sizes} {m : Message} → TokensOk z m → tokens_fine z m ≡ true
unfolding tokens_fine
ok_tokens k = all_every _ (search (lt-ltb, le-leb, bit_imp, none_imp) depth 12)

-- what a slot holds: nothing, tokens, or a message without tokens, marks and word; a new kind is one clause of `sort`
pub data Sort (z : Sizes) (m : Message) (k : MessageKind) : Type 0 where
  empty : k ≡ Free → message_zero m ≡ true → Sort z m k
  token : is_free k ≡ false → AddressOk z m → TokensOk z m → Sort z m k
  bare : is_free k ≡ false → AddressOk z m → ack_fine m ≡ true → Sort z m k

pub sort : {z : Sizes} {m : Message} (k : MessageKind) → message_fine z m k ≡ true → Sort z m k
unfolding message_fine
sort Free h = empty refl h
sort {z} {m} Tokens h = token refl (address_ok (and_left _ _ h)) (tokens_ok (and_right (address_fine z m) (tokens_fine z m) h))
sort {z} {m} OwnershipAck h = bare refl (address_ok (and_left _ _ h)) (and_right (address_fine z m) (ack_fine m) h)
sort {z} {m} DeletionAck h = bare refl (address_ok (and_left _ _ h)) (and_right (address_fine z m) (ack_fine m) h)

-- a message that is not free has an address
pub has_address : {z : Sizes} {m : Message} {k : MessageKind} → is_free k ≡ false → Sort z m k → AddressOk z m
has_address f (empty e _) = clash (ap is_free e) f
has_address f (token _ a _) = a
has_address f (bare _ a _) = a

-- the owner mark and the data mark need a token
pub record Tokened (m : Message) : Type 0 where
  pub owner : bit m.owner ≤ m.tokens.0
  pub full : bit m.full ≤ m.tokens.0

pub tokened : {z : Sizes} {m : Message} {k : MessageKind} → Sort z m k → Tokened m
unfolding message_zero ack_fine
tokened (empty _ h) = let e = every_all _ h in search not_bit_le
tokened {m = m} (token _ _ t) = let o = bit_small m.owner in let f = bit_small m.full in omega arith
tokened (bare _ _ h) = let e = every_all _ h in search not_bit_le

-- no message has more than all tokens
pub within_total_lem : {z : Sizes} {m : Message} {k : MessageKind} → Sort z m k → m.tokens.0 ≤ z.total.0
unfolding message_zero ack_fine
within_total_lem {m = m} (empty _ h) = let e = every_all _ h in omega (arith, eqb-true m.tokens.0 0 e.1.1.1.1.0)
within_total_lem (token _ _ t) = t.most
within_total_lem {m = m} (bare _ _ h) = let e = every_all _ h in omega (arith, eqb-true m.tokens.0 0 e.0)

module _ (z : Sizes) where
  pub has_tokens : (m : Message) → message_fine z m Tokens ≡ true → TokensOk z m
  unfolding message_fine
  has_tokens m h = tokens_ok (and_right (address_fine z m) (tokens_fine z m) h)

  pub fine_tokens : {m : Message} → AddressOk z m → TokensOk z m → message_fine z m Tokens ≡ true
  unfolding message_fine
  fine_tokens a t = rw (ok_address a, ok_tokens t)

  pub fine_free : message_fine z free_message Free ≡ true
  unfolding message_fine message_zero every
  fine_free = refl

  -- a reply goes back the way that the message came, with a serial q in range
  back : (k : MessageKind) {q : ℕ} {m : Message} → AddressOk z m → q < 4 → AddressOk z (ack k q m)
  back k {m = m} a h =
      record {
        line = a.line;
        source = a.destination;
        destination = a.source;
        apart = ne_eqb m.destination m.source (λ e. eqb-false m.source m.destination a.apart (sym e));
        serial = h;
      }

  pub fine_ownership : {q : ℕ} {m : Message} → AddressOk z m → q < 4 → message_fine z (ack OwnershipAck q m) OwnershipAck ≡ true
  unfolding message_fine ack_fine every
  fine_ownership a h = rw (ok_address (back OwnershipAck a h))

  pub fine_deletion : {q : ℕ} {m : Message} → AddressOk z m → q < 4 → message_fine z (ack DeletionAck q m) DeletionAck ≡ true
  unfolding message_fine ack_fine every
  fine_deletion a h = rw (ok_address (back DeletionAck a h))
