-- Laws of tests. Assumes nothing.
use Prim.Native.Nat.{ℕ, ◌≤◌}
use mathlib.Core.Bool.{Bool, true, false, not, ◌&&◌, ◌||◌, and-true, and_assoc, cond as pick}
use mathlib.Core.Path.{◌≡◌, refl, sym, ◌∙◌}
use mathlib.Core.List.{List, [], ◌∷◌}
use native.Mathlib.Omega.{arith}
use lib.Dec.{eqb, ltb}
use borrow.Author.Tests.{ltb-true, eqb-true, lt-ltb, eq-eqb}
use Rattle.rules.specs.Tools.{◌⇒◌, every}

-- a contradiction between tests
pub clash : {A : Type 0} {b : Bool} → b ≡ true → b ≡ false → A
clash p q = let z : ◌≡◌ {A = ℕ} 0 1 = cc in absurd (omega arith)

-- what a mark that is set need not show
pub never : (x : ℕ) → true ≡ false → x ≡ 0
never x h = clash refl h

-- by the two values of a test
pub split : {A : Type 0} (b : Bool) → (b ≡ true → A) → (b ≡ false → A) → A
split true t f = t refl
split false t f = f refl

-- a fact of a pick, by its test
pub by_pick : {A : Type 0} (P : A → Type 0) (b : Bool) {x y : A} → (b ≡ true → P x) → (b ≡ false → P y) → P (pick b x y)
by_pick P true t f = t refl
by_pick P false t f = f refl

-- the conjunction of a list's tests, as a product
abbrev pub Every : List Bool → Type 0
Every [] = Unit {0}
Every (b ∷ bs) = (b ≡ true) × Every bs

pub and_both : (a b : Bool) → a && b ≡ true → (a ≡ true) × (b ≡ true)
and_both true b h = (refl, h)
and_both false b h = clash h refl

pub every_all : (bs : List Bool) → every bs ≡ true → Every bs
unfolding every
every_all [] h = tt
every_all (b ∷ bs) h = let p = and_both b (every bs) h in (p.0, every_all bs p.1)

pub all_every : (bs : List Bool) → Every bs → every bs ≡ true
unfolding every
all_every [] h = refl
all_every (b ∷ bs) h = rw (h.0, all_every bs h.1)

pub and_left : (a b : Bool) → a && b ≡ true → a ≡ true
and_left a b h = (and_both a b h).0

pub and_right : (a b : Bool) → a && b ≡ true → b ≡ true
and_right a b h = (and_both a b h).1

pub or_left : (a b : Bool) → a || b ≡ false → a ≡ false
or_left true b h = h
or_left false b h = refl

pub or_right : (a b : Bool) → a || b ≡ false → b ≡ false
or_right true b h = clash refl h
or_right false b h = h

-- marks as numbers: 1 for a mark that is set, else 0
abbrev pub bit : Bool → ℕ
bit true = 1
bit false = 0

pub bit_small : (b : Bool) → bit b ≤ 1
bit_small true = omega arith
bit_small false = omega arith

pub bit_of : (b : Bool) → b ≡ true → bit b ≡ 1
bit_of b h = rw h

pub bit_not : (b : Bool) → b ≡ false → bit b ≡ 0
bit_not b h = rw h

pub bit_le : (a b : Bool) → (a ≡ true → b ≡ true) → bit a ≤ bit b
bit_le true b h = rw (h refl) (omega arith)
bit_le false b h = omega arith

pub of_bit : (b : Bool) → 1 ≤ bit b → b ≡ true
of_bit true h = refl
of_bit false h = absurd (omega arith)

pub not_bit_le : (b : Bool) (n : ℕ) → not b ≡ true → bit b ≤ n
not_bit_le true n h = clash h refl
not_bit_le false n h = omega arith

-- implications as orders
pub imp_bit : (a b : Bool) → (a ⇒ b) ≡ true → bit a ≤ bit b
imp_bit true b h = rw h (omega arith)
imp_bit false b h = omega arith

pub bit_imp : (a b : Bool) → bit a ≤ bit b → (a ⇒ b) ≡ true
bit_imp true b h = of_bit b h
bit_imp false b h = refl

pub imp_some : (a : Bool) (n : ℕ) → (a ⇒ ltb 0 n) ≡ true → bit a ≤ n
imp_some true n h = ltb-true 0 n h
imp_some false n h = omega arith

pub some_imp : (a : Bool) (n : ℕ) → bit a ≤ n → (a ⇒ ltb 0 n) ≡ true
some_imp true n h = lt-ltb 0 n h
some_imp false n h = refl

pub imp_none : (a : Bool) (n : ℕ) → (not a ⇒ eqb n 0) ≡ true → a ≡ false → n ≡ 0
imp_none true n h e = clash refl e
imp_none false n h e = eqb-true n 0 h

pub none_imp : (a : Bool) (n : ℕ) → (a ≡ false → n ≡ 0) → (not a ⇒ eqb n 0) ≡ true
none_imp true n h = refl
none_imp false n h = eq-eqb n 0 (h refl)

pub imp_then : (a b : Bool) → (a ⇒ b) ≡ true → a ≡ true → b ≡ true
imp_then true b h e = h
imp_then false b h e = clash e refl

pub then_imp : (a b : Bool) → (a ≡ true → b ≡ true) → (a ⇒ b) ≡ true
then_imp true b h = h refl
then_imp false b h = refl

-- the tests of a list, joined from the left
abbrev pub every_after : Bool → List Bool → Bool
every_after a [] = a
every_after a (b ∷ bs) = every_after (a && b) bs

after_is : (a : Bool) (bs : List Bool) → every_after a bs ≡ a && every bs
unfolding every
after_is a [] = sym (and-true a)
after_is a (b ∷ bs) = after_is (a && b) bs ∙ and_assoc a b (every bs)

pub every_is : (bs : List Bool) → every_after true bs ≡ every bs
every_is bs = after_is true bs

-- what a call's result, once tested, says of what the callee ensures
pub told : {A : Type 0} {r x y : A} → r ≡ x → r ≡ y → x ≡ y
told p q = sym p ∙ q
