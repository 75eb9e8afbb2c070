-- Lines in sequence: how many bytes they are, and those that follow. Assumes nothing.
use Prim.Native.Nat.{ℕ, zero, suc, ◌+◌, ◌≤◌, min}
use mathlib.Core.Path.{◌≡◌, refl, ap, ◌∙◌}
use mathlib.Core.Bool.{Bool, true, false, cond as pick}
use mathlib.Core.List.{List, [], ◌∷◌, ◌++◌}
use native.Mathlib.Omega.{arith}
use lib.Dec.{eqb}
use lib.ListN.{length, take, drop, length-drop}
use lib.Seq.{drop-drop, drop-nil, take-nil}
use Rattle.text.specs.Lines.{lines_of, first_line, passed, passed_by}
use Rattle.text.proofs.Lines.{lines_cons}

bounds : (n m : ℕ) (t : Bool) → n ≤ m → pick t 1 (suc n) ≤ suc m
bounds n m true h = omega arith
bounds n m false h = omega arith

passed_within : (s : List ℕ) → passed s ≤ length s
unfolding passed
passed_within [] = omega arith
passed_within (b ∷ s) = bounds (passed s) (length s) (eqb b 10) (passed_within s)

passed_least : (s : List ℕ) → min 1 (length s) ≤ passed s
unfolding passed
passed_least [] = omega arith
passed_least (b ∷ s) = least (passed s) (eqb b 10)
  where
    least : (n : ℕ) (t : Bool) → min 1 (suc (length s)) ≤ pick t 1 (suc n)
    least n true = omega arith
    least n false = omega arith

pub passed_by_within : (n : ℕ) (s : List ℕ) → passed_by n s ≤ length s
unfolding passed_by
passed_by_within zero s = omega arith
passed_by_within (suc n) s =
    let i = passed_by_within n (drop (passed s) s) in
    let l = length-drop (passed s) s in
    let w = passed_within s in
    omega arith

-- as many lines as there are bytes are all lines
pub passed_all : (n : ℕ) (s : List ℕ) → length s ≤ n → passed_by n s ≡ length s
unfolding passed_by
passed_all zero s h = omega arith
passed_all (suc n) s h =
    let w = passed_within s in
    let p = passed_least s in
    let l = length-drop (passed s) s in
    let i = passed_all n (drop (passed s) s) (omega arith) in
    omega arith

split_nil : (n m : ℕ) → lines_of [] ≡ take n (lines_of []) ++ lines_of (drop m [])
unfolding lines_of
split_nil n m = rw (drop-nil m, take-nil n)

-- the first lines of an input, and those of the rest
pub lines_split : (n : ℕ) (s : List ℕ) → lines_of s ≡ take n (lines_of s) ++ lines_of (drop (passed_by n s) s)
unfolding passed_by
lines_split zero s = refl
lines_split (suc n) [] = split_nil (suc n) (passed [] + passed_by n (drop (passed []) []))
lines_split (suc n) (b ∷ s) =
    let t = drop (passed (b ∷ s)) (b ∷ s) in
    rw (lines_cons s b)
    (ap (λ (r : List (List ℕ)). first_line (b ∷ s) ∷ r)
    (lines_split n t ∙ ap (λ (r : List ℕ). take n (lines_of t) ++ lines_of r) (drop-drop (passed_by n t) (passed (b ∷ s)) (b ∷ s))))
