-- Laws of a list of rows: the row of a number, the first that applies. Assumes nothing.
use Prim.Native.Nat.{ℕ, ◌≤◌, ◌<◌}
use mathlib.Core.Path.{◌≡◌, refl, sym}
use mathlib.Core.Logic.{◌≢◌}
use mathlib.Core.Bool.{Bool, true, false, ◌&&◌, cond as pick}
use mathlib.Core.List.{List, [], ◌∷◌}
use native.Mathlib.Omega.{arith}
use borrow.Author.Tests.{ltb-true, eqb-true, eq-eqb}
use lib.Dec.{eqb, ltb}
use Rattle.rules.specs.Refusals.{Row, Seen, table, given}
use Rattle.rules.specs.Types.{Event}
use Rattle.rules.proofs.Laws.Bools.{clash, split, and_left, and_right, by_pick}

-- whether the row of number n applies
unfoldable pub applies : ℕ → List Row → Bool
applies n [] = false
applies n (r ∷ rs) = pick (eqb r.number n) r.applies (applies n rs)

-- the numbers ascend, from above a
unfoldable pub ascends : ℕ → List Row → Bool
ascends a [] = true
ascends a (r ∷ rs) = ltb a r.number && ascends r.number rs

-- the numbers of the table ascend
pub table_ascends : (v : Seen) (e : Event) (k : ℕ) → ascends 0 (table v e k) ≡ true
unfolding ascends table
table_ascends v e k = refl

-- no row applies
unfoldable pub Clear : List Row → Type 0
Clear rs = (n : ℕ) → applies n rs ≡ false

clear_from : (a : ℕ) (rs : List Row) → ascends a rs ≡ true → given rs ≡ 0 → Clear rs
unfolding ascends given Clear applies
clear_from a [] h g n = refl
clear_from a (r ∷ rs) h g n =
    split r.applies
    (λ t. absurd (omega (arith, ltb-true a r.number (and_left _ _ h), rw t at g)))
    (λ f.
    by_pick (λ b. b ≡ false) (eqb r.number n) (λ _. f)
    (λ _. clear_from r.number rs (and_right (ltb a r.number) (ascends r.number rs) h) (rw f at g) n))

-- where the number is 0 no row applies
pub clear : (v : Seen) (e : Event) (k : ℕ) → given (table v e k) ≡ 0 → Clear (table v e k)
clear v e k g = clear_from 0 (table v e k) (table_ascends v e k) g

-- the number that is given is above a, and at most that of any row which applies
given_least : (a : ℕ) (rs : List Row) → ascends a rs ≡ true → (n : ℕ) → applies n rs ≡ true → (a < given rs) × (given rs ≤ n)
unfolding ascends given applies
given_least a [] h n p = clash p refl
given_least a (r ∷ rs) h n p =
    let up = ltb-true a r.number (and_left _ _ h) in
    let on = given_least r.number rs (and_right (ltb a r.number) (ascends r.number rs) h) n in
    split r.applies
    (λ t.
    split (eqb r.number n) (λ q. rw t (up, omega (arith, eqb-true r.number n q)))
    (λ d. let b = on (rw d at p) in rw t (up, omega arith)))
    (λ f. split (eqb r.number n) (λ q. clash (rw q at p) f) (λ d. let b = on (rw d at p) in rw f (omega arith, b.1)))

-- a number that is given is that of a row which applies
applies_from : (a : ℕ) (rs : List Row) → ascends a rs ≡ true → (n : ℕ) → n ≢ 0 → given rs ≡ n → applies n rs ≡ true
unfolding ascends given applies
applies_from a [] h n d g = absurd (d (sym g))
applies_from a (r ∷ rs) h n d g =
    let up = and_right (ltb a r.number) (ascends r.number rs) h in
    split r.applies (λ t. rw (eq-eqb r.number n (rw t at g)) t)
    (λ f.
    let on = applies_from r.number rs up n d (rw f at g) in
    by_pick (λ b. b ≡ true) (eqb r.number n)
    (λ q. absurd (omega (arith, (given_least r.number rs up n on).0, eqb-true r.number n q, rw f at g)))
    (λ _. on))

-- The number that the table gives is the smallest that applies, and 0 only if none does (`clear`).
pub given_smallest : (v : Seen) (e : Event) (k n : ℕ) → applies n (table v e k) ≡ true → (0 < given (table v e k)) × (given (table v e k) ≤ n)
given_smallest v e k n p = given_least 0 (table v e k) (table_ascends v e k) n p

-- so no row of a smaller number applies
pub given_first : (v : Seen) (e : Event) (k n : ℕ) → n < given (table v e k) → applies n (table v e k) ≡ false
given_first v e k n l =
    split (applies n (table v e k)) (λ t. absurd (omega (arith, (given_smallest v e k n t).1))) (λ f. f)

-- and it is that of a row which applies
pub given_applies : (v : Seen) (e : Event) (k n : ℕ) → n ≢ 0 → given (table v e k) ≡ n → applies n (table v e k) ≡ true
given_applies v e k n d g = applies_from 0 (table v e k) (table_ascends v e k) n d g
