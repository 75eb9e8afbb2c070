-- Runs of stores. Assumes nothing.
use Prim.Native.Nat.{ℕ, suc, ◌+◌, ◌≤◌, ◌<◌}
use mathlib.Core.Path.{◌≡◌, sym, ◌∙◌}
use mathlib.Core.List.{List, [], ◌∷◌, ◌++◌}
use native.Mathlib.Omega.{arith}
use native.Mathlib.Nat.{add-zero, add-suc, suc-add}
use native.Mathlib.Numerals.{add-one}
use lib.ListN.{length, get_or, take, drop, set, drop_of_length-le}
use lib.Seq.{sets, sets-eq, set_comm, drop-cons, paste, length-take-le}

-- the last store may come first
pub sets_snoc : (xs d : List ℕ) (at c : ℕ) → sets (set d (at + length xs) c) at xs ≡ sets d at (xs ++ (c ∷ []))
sets_snoc [] d at c = rw add-zero
sets_snoc (x ∷ xs) d at c =
    rw (add-suc at (length xs), set_comm d (suc (at + length xs)) at c x (omega arith), ← suc-add at (length xs))
    (sets_snoc xs (set d at x) (suc at) c)

-- one run after another
pub sets_append : (xs ys d : List ℕ) (at : ℕ) → sets d at (xs ++ ys) ≡ sets (sets d at xs) (at + length xs) ys
sets_append [] ys d at = rw add-zero
sets_append (x ∷ xs) ys d at = rw (add-suc at (length xs), ← suc-add at (length xs)) (sets_append xs ys (set d at x) (suc at))

-- one store of a run
pub sets_step : (d : List ℕ) (at : ℕ) (w : List ℕ) (k : ℕ) → k < length w
    → sets (set d (at + k) (get_or w k 0)) (at + (k + 1)) (drop (k + 1) w) ≡ sets d (at + k) (drop k w)
sets_step d at w k h = rw (drop-cons w k 0 h, add-one k, add-suc at k)

pub sets_all : (d : List ℕ) (at : ℕ) (w : List ℕ) (k : ℕ) → length w ≤ k → sets d at (drop k w) ≡ d
sets_all d at w k h = rw (drop_of_length-le w h)

-- a copy is such a run
pub paste_sets : {A : Type 0} (d : List A) (at : ℕ) (w : List A) (n : ℕ) → n ≤ length w → at + n ≤ length d → paste d at w n ≡ sets d at (take n w)
paste_sets d at w n h k =
    let e = length-take-le n w h in
    let j : at + length (take n w) ≡ at + n = omega arith in
    sym (sets-eq (take n w) d at (omega arith) ∙ rw j)
