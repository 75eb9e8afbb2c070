-- The fields of a line that begins with digits. Assumes nothing.
use Prim.Native.Nat.{ℕ}
use mathlib.Core.Path.{◌≡◌, refl}
use mathlib.Core.Bool.{Bool, true, false}
use mathlib.Core.List.{List, [], ◌∷◌, ◌++◌, append-nil}
use mathlib.Core.Option.{none, some}
use native.Mathlib.Omega.{arith}
use borrow.Author.Tests.{ne_eqb}
use lib.Dec.{eqb}
use Rattle.text.specs.Reading.{fields_of, is_digit, all_digits, value_of, both, values_of}
use Rattle.text.specs.Parts.{numbers}
use Rattle.text.proofs.Bools.{and_both, digit_in}

-- a line has a first field
record First (u : List ℕ) : Type 0 where
  field : List ℕ
  others : List (List ℕ)
  are : fields_of u ≡ field ∷ others

first : (u : List ℕ) → First u
unfolding fields_of
first [] = record { field = []; others = []; are = refl }
first (b ∷ u) = more (eqb b 9) refl (first u)
  where
    more : (t : Bool) → eqb b 9 ≡ t → First u → First (b ∷ u)
    more true e f = record { field = []; others = fields_of u; are = rw e }
    more false e f = record { field = b ∷ f.field; others = f.others; are = rw (e, f.are) }

-- digits lengthen it
longer : (f u g : List ℕ) (gs : List (List ℕ)) → all_digits f ≡ true → fields_of u ≡ g ∷ gs → fields_of (f ++ u) ≡ (f ++ g) ∷ gs
unfolding fields_of all_digits
longer [] u g gs p e = e
longer (b ∷ f) u g gs p e =
    let h = and_both (is_digit b) (all_digits f) p in
    let d = digit_in b h.0 in
    rw (ne_eqb b 9 (omega arith), longer f u g gs h.1 e)

-- after digits that no field may begin with
pub numbers_none : (f u : List ℕ) → all_digits f ≡ true → ((g : List ℕ) → value_of (f ++ g) ≡ none) → numbers (f ++ u) ≡ none
unfolding values_of
numbers_none f u p n =
    let a = first u in
    rw (longer f u a.field a.others p a.are, n a.field)

module _ (f : List ℕ) (v : ℕ) (p : all_digits f ≡ true) (e : value_of f ≡ some v) where
  -- the last field
  pub numbers_last : numbers (f ++ []) ≡ some (v ∷ [])
  unfolding values_of fields_of
  numbers_last = rw (longer f [] [] [] p refl, append-nil f, e)

  -- a field and a tab
  pub numbers_tab : (u : List ℕ) → numbers (f ++ (9 ∷ u)) ≡ both (some v) (numbers u)
  unfolding values_of fields_of
  numbers_tab u = rw (longer f (9 ∷ u) [] (fields_of u) p refl, append-nil f, e)

-- digits and a byte that no field may go on with
pub numbers_other : (f u : List ℕ) (b : ℕ) → all_digits f ≡ true → (b ≡ 9 → ⊥) → ((g : List ℕ) → value_of (f ++ (b ∷ g)) ≡ none)
    → numbers (f ++ (b ∷ u)) ≡ none
unfolding values_of fields_of
numbers_other f u b p h n =
    let a = first u in
    rw (longer f (b ∷ u) (b ∷ a.field) a.others p (rw (ne_eqb b 9 h, a.are)), n a.field)
