-- At equal times the first list's records come first. Assumes nothing.
use Prim.Native.Nat.{ℕ, ◌<◌}
use mathlib.Core.Path.{◌≡◌, refl, sym, ap, ◌∙◌}
use mathlib.Core.Bool.{true, false, false≢true}
use mathlib.Core.List.{List, [], ◌∷◌, ◌++◌}
use native.Mathlib.Omega.{arith}
use borrow.Author.Tests.{eq-eqb, ne_eqb}
use lib.Dec.{eqb}
use Rattle.probes.specs.Records.{time_of, falls_after, falls}
use Rattle.probes.specs.Joins.{joined}
use Rattle.probes.specs.Orders.{none_at, EqualFirst, all_taken, first_taken, second_taken, rest_of}
use Rattle.probes.proofs.Rising.{risen, by_times}

-- no time of a list that begins above t, and in which none falls, is t
none_below : (t u : ℕ) (rs : List (List ℕ)) → t < u → falls_after u rs ≡ false → none_at t rs ≡ true
unfolding none_at
none_below t u [] h k = refl
none_below t u (r ∷ rs) h k =
    let m = risen u r rs k in
    rw (ne_eqb (time_of r) t (λ e. omega arith), none_below t (time_of r) rs (omega arith) m.1)

none_ahead : (x y : List ℕ) (xs : List (List ℕ)) → time_of y < time_of x → falls_after (time_of x) xs ≡ false → none_at (time_of y) (x ∷ xs) ≡ true
unfolding none_at
none_ahead x y xs l h = rw (ne_eqb (time_of x) (time_of y) (λ e. omega arith), none_below (time_of y) (time_of x) xs l h)

all_first : (xs : List (List ℕ)) → EqualFirst xs [] xs
all_first [] = all_taken
all_first (x ∷ xs) = first_taken (all_first xs)

all_second : (ys : List (List ℕ)) → EqualFirst [] ys ys
unfolding none_at
all_second [] = all_taken
all_second (y ∷ ys) = second_taken refl (all_second ys)

-- where no time falls, what is written and then the rest have the records of both lists, and no record of the second before one of the first with the same time
pub equal_first : (xs ys : List (List ℕ)) → falls xs ≡ false → falls ys ≡ false → EqualFirst xs ys ((joined xs ys).written ++ rest_of xs ys (joined xs ys))
equal_first xs ys =
    by_times (λ t xs ys j. EqualFirst xs ys (j.written ++ rest_of xs ys j)) (λ t ys h. all_second ys) (λ t x xs h. all_first (x ∷ xs))
    (λ t x y xs ys j _ _ _ i. first_taken i)
    (λ t x y xs ys j _ l h _ i. second_taken (none_ahead x y xs l h) i) xs ys 0

turned : {xs ys zs : List (List ℕ)} (x y : List ℕ) → EqualFirst xs ys zs → xs ≡ x ∷ [] → ys ≡ y ∷ [] → zs ≡ y ∷ x ∷ [] → time_of x ≡ time_of y → x ≡ y
unfolding none_at
turned x y all_taken p q s e = cc
turned x y (first_taken h) p q s e = cc
turned x y (second_taken {r} {xs} n h) p q s e =
    let w : r ≡ y = cc in
    let m : none_at (time_of r) (x ∷ []) ≡ true = rw p at n in
    let t : eqb (time_of x) (time_of r) ≡ true = eq-eqb _ _ (e ∙ ap (λ (l : List ℕ). time_of l) (sym w)) in
    absurd (false≢true (rw t at m))

-- a join that takes the second's record first at equal times is ruled out: it is such a sequence only where the two records are the same
pub second_first_same : (x y : List ℕ) → time_of x ≡ time_of y → EqualFirst (x ∷ []) (y ∷ []) (y ∷ x ∷ []) → x ≡ y
second_first_same x y e h = turned x y h refl refl refl e
