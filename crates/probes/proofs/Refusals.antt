-- The number of a join, row by row. Assumes nothing.
use Prim.Native.Nat.{ℕ, ◌+◌, ◌%◌, ◌≤◌}
use mathlib.Core.Path.{◌≡◌, refl, ◌∙◌}
use mathlib.Core.Bool.{Bool, true, false, ◌||◌}
use mathlib.Core.List.{List}
use native.Mathlib.Omega.{arith}
use borrow.Author.Tests.{eqb-true, ltb-false, not-false}
use lib.Dec.{ltb}
use lib.ListN.{length}
use Rattle.probes.specs.Records.{records_of, falls}
use Rattle.probes.specs.declared.joining.Refusal.{Refusal}
use Rattle.probes.specs.declared.joining.Refusal.TheVariants.{Uneven, NoRoom, TimeFalls}
use Rattle.probes.specs.Joins.{uneven, number_for, number_by, number_of}

-- a refusal has a number
pub refusal_told : (why : Refusal) → number_for why ≡ 0 → ⊥
refusal_told Uneven e = omega arith
refusal_told NoRoom e = omega arith
refusal_told TimeFalls e = omega arith

pub neither : (a b : Bool) → a || b ≡ false → (a ≡ false) × (b ≡ false)
neither false false e = (refl, refl)
neither false true e = (refl, e)
neither true b e = (e, absurd (let z : ◌≡◌ {A = ℕ} 0 1 = cc in omega arith))

-- no number applies
free : (x y z : Bool) → number_by x y z ≡ 0 → (x ≡ false) × (y ≡ false) × (z ≡ false)
unfolding number_by
free true y z e = absurd (omega arith)
free false true z e = absurd (omega arith)
free false false true e = absurd (omega arith)
free false false false e = (refl, refl, refl)

-- 20 does not apply
passed : (x y z : Bool) → (number_by x y z ≡ 20 → ⊥) → x ≡ false
unfolding number_by
passed true y z h = absurd (h refl)
passed false y z h = refl

even : (n m : ℕ) → uneven n || uneven m ≡ false → (n % 9 ≡ 0) × (m % 9 ≡ 0)
even n m e =
    let h = neither _ _ e in
    (eqb-true (n % 9) 0 (not-false _ h.0), eqb-true (m % 9) 0 (not-false _ h.1))

-- ---- the number of a join

-- what is known where no number applies
pub record Accepted (a b : List ℕ) (room : ℕ) : Type 0 where
  pub first_even : length a % 9 ≡ 0
  pub second_even : length b % 9 ≡ 0
  pub fits : length a + length b ≤ room
  pub first_rises : falls (records_of a) ≡ false
  pub second_rises : falls (records_of b) ≡ false

module _ (a b : List ℕ) (room : ℕ) where
  pub accepted : number_of a b room ≡ 0 → Accepted a b room
  unfolding number_of
  accepted e =
      let f = free _ _ _ e in
      let l = even (length a) (length b) f.0 in
      let t = neither _ _ f.2 in
      record { first_even = l.0; second_even = l.1; fits = ltb-false _ _ f.1; first_rises = t.0; second_rises = t.1 }

  pub both_even : (r : ℕ) → r ≡ number_by (uneven (length a) || uneven (length b)) (ltb room (length a + length b)) false → (r ≡ 20 → ⊥)
      → (length a % 9 ≡ 0) × (length b % 9 ≡ 0)
  both_even r e h = even (length a) (length b) (passed _ _ _ (λ p. h (e ∙ p)))
