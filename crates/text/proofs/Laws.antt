-- The limit of 96 bytes, and how many numbers a line has. Assumes nothing.
use Prim.Native.Nat.{ℕ, ◌≤◌}
use mathlib.Core.Path.{◌≡◌, refl, sym, ap, ◌∙◌}
use mathlib.Core.Bool.{Bool, true, false, cond as pick}
use mathlib.Core.List.{List, [], ◌∷◌}
use mathlib.Core.Option.{Option, none, some}
use native.Mathlib.Omega.{arith}
use borrow.Author.Tests.{eqb-true, le-leb}
use lib.Dec.{leb, eqb}
use lib.ListN.{length, drop, replicate}
use Rattle.text.specs.Reading.{fields_of, all_digits, unpadded, spelled, value_of, values_of, numbers_of, exactly}
use Rattle.text.specs.Parts.{numbers}
use Rattle.text.proofs.Lengths.{after_tabs, short_line}

-- what is given under a condition is what stands there
pub within : (t : Bool) (o : Option (List ℕ)) (ns : List ℕ) → pick t o none ≡ some ns → o ≡ some ns
within true o ns e = e
within false o ns e = let z : ◌≡◌ {A = ℕ} 0 1 = cc in absurd (omega arith)

-- numbers that are to be k are k
pub exactly_long : (k : ℕ) (o : Option (List ℕ)) (x : List ℕ) → exactly k o ≡ some x → length x ≡ k
exactly_long k none x e = absurd (let z : ◌≡◌ {A = ℕ} 0 1 = cc in omega arith)
exactly_long k (some ns) x e = by (eqb (length ns) k) refl e
  where
    by : (t : Bool) → eqb (length ns) k ≡ t → pick t (some ns) none ≡ some x → length x ≡ k
    by true p q = let e : ns ≡ x = cc in sym (ap length e) ∙ eqb-true _ _ p
    by false p q = absurd (let z : ◌≡◌ {A = ℕ} 0 1 = cc in omega arith)

-- a readable line of at most eight numbers has at most 87 bytes
pub at_most_87 : (l ns : List ℕ) → numbers_of l ≡ some ns → length ns ≤ 8 → length l ≤ 87
unfolding numbers_of
at_most_87 l ns e h = let s = short_line l ns (within (leb (length l) 96) (numbers l) ns e) in omega arith

-- and may have 87
pub just_87 : let l = drop 1 (after_tabs (replicate 8 (52 ∷ 50 ∷ 57 ∷ 52 ∷ 57 ∷ 54 ∷ 55 ∷ 50 ∷ 57 ∷ 53 ∷ []))) in
    (length l ≡ 87) × (numbers_of l ≡ some (replicate 8 4294967295))
unfolding after_tabs numbers_of fields_of values_of value_of all_digits unpadded spelled
just_87 = (refl, refl)

limit : (k : ℕ) (l : List ℕ) (o : Option (List ℕ)) → k ≤ 8 → numbers l ≡ o → exactly k (pick (leb (length l) 96) o none) ≡ exactly k o
limit k l none h e = none_either (leb (length l) 96)
  where
    none_either : (t : Bool) → exactly k (pick t none none) ≡ none
    none_either true = refl
    none_either false = refl
limit k l (some ns) h e = some_either (eqb (length ns) k) refl
  where
    other : (t : Bool) → eqb (length ns) k ≡ false → exactly k (pick t (some ns) none) ≡ exactly k (some ns)
    other true f = refl
    other false f = rw f

    some_either : (u : Bool) → eqb (length ns) k ≡ u → exactly k (pick (leb (length l) 96) (some ns) none) ≡ exactly k (some ns)
    some_either true f =
        rw (le-leb (length l) 96 (let s = short_line l ns e in let g = eqb-true (length ns) k f in omega arith))
    some_either false f = other (leb (length l) 96) f

-- so the limit decides nothing for a line of three or of eight
pub limit_decides_nothing : (k : ℕ) (l : List ℕ) → k ≤ 8 → exactly k (numbers_of l) ≡ exactly k (values_of (fields_of l))
unfolding numbers_of
limit_decides_nothing k l h = limit k l (numbers l) h refl
