-- Whether a time falls, from each record and the next. Assumes nothing.
use Prim.Native.Nat.{ℕ, zero, suc, ◌+◌, ◌≤◌, ◌<◌}
use mathlib.Core.Path.{◌≡◌, refl, sym}
use mathlib.Core.Bool.{Bool, true, false, not}
use mathlib.Core.List.{List, [], ◌∷◌}
use native.Mathlib.Omega.{arith}
use native.Mathlib.Numerals.{add-one}
use Rattle.std.proofs.Common.{rules}
use borrow.Author.Tests.{leb-true, leb-false, lt-ltb, le-ltb}
use lib.Dec.{leb}
use lib.ListN.{length, get_or}
use Rattle.std.specs.List.{IsAllAdjacentAnswer}
use Rattle.probes.specs.Records.{time_of, falls_after, falls}

-- where no time is above the next, none falls
none_after : (r : List ℕ) (rs : List (List ℕ)) → ((k : ℕ) → suc k < length (r ∷ rs) → time_of (get_or (r ∷ rs) k []) ≤ time_of (get_or rs k []))
    → falls_after (time_of r) rs ≡ false
unfolding falls_after
none_after r [] h = refl
none_after r (x ∷ xs) h = rw (le-ltb _ _ (h 0 (omega arith)), none_after x xs (λ k l. h (suc k) (omega arith))) refl

-- where one is above the next, one falls
one_after : (k : ℕ) (r : List ℕ) (rs : List (List ℕ)) → suc k < length (r ∷ rs) → time_of (get_or rs k []) < time_of (get_or (r ∷ rs) k [])
    → falls_after (time_of r) rs ≡ true
unfolding falls_after
one_after k r [] l h = absurd (omega arith)
one_after zero r (x ∷ xs) l h = rw (lt-ltb _ _ h) refl
one_after (suc k) r (x ∷ xs) l h = rw (one_after k x xs (omega arith) h) (search rules)

le_next : (r : List ℕ) (rs : List (List ℕ)) (k : ℕ) → true ≡ leb (time_of (get_or (r ∷ rs) k [])) (time_of (get_or (r ∷ rs) (k + 1) []))
    → time_of (get_or (r ∷ rs) k []) ≤ time_of (get_or rs k [])
le_next r rs k e = leb-true _ _ (sym (rw add-one at e))

gt_next : (r : List ℕ) (rs : List (List ℕ)) (k : ℕ) → false ≡ leb (time_of (get_or (r ∷ rs) k [])) (time_of (get_or (r ∷ rs) (k + 1) []))
    → time_of (get_or rs k []) < time_of (get_or (r ∷ rs) k [])
gt_next r rs k e = leb-false _ _ (sym (rw add-one at e))

-- what the library says of times in order
pub falls_told : (rs : List (List ℕ)) (d : Bool) → IsAllAdjacentAnswer (λ x y b. b ≡ leb (time_of x) (time_of y)) rs d → not d ≡ falls rs
unfolding falls_after
falls_told [] true h = refl
falls_told [] false (k, l, h) = absurd (omega arith)
falls_told (r ∷ rs) true h = rw (le-ltb (time_of r) 0 (omega arith)) (sym (none_after r rs (λ k l. le_next r rs k (h k [] (omega arith)))))
falls_told (r ∷ rs) false (k, l, h) = rw (le-ltb (time_of r) 0 (omega arith)) (sym (one_after k r rs (omega arith) (gt_next r rs k (h []))))
