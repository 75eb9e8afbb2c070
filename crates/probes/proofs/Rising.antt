-- Lists in which no time falls, and their join. Assumes nothing.
use Prim.Native.Nat.{ℕ, ◌≤◌, ◌<◌}
use mathlib.Core.Path.{◌≡◌}
use mathlib.Core.Bool.{true, false}
use mathlib.Core.List.{List, [], ◌∷◌, ◌++◌}
use native.Mathlib.Omega.{arith}
use borrow.Author.Tests.{le-ltb, ltb-false}
use Rattle.probes.specs.Records.{time_of, falls_after}
use Rattle.probes.specs.Joins.{Joined, stop, by_first, by_second, joined}
use Rattle.probes.specs.Orders.{rest_of}
use Rattle.probes.proofs.Refusals.{neither}
use Rattle.probes.proofs.Merging.{by_steps}

pub rise : (t : ℕ) (r : List ℕ) (rs : List (List ℕ)) → t ≤ time_of r → falls_after (time_of r) rs ≡ false → falls_after t (r ∷ rs) ≡ false
unfolding falls_after
rise t r rs h k = rw (le-ltb _ _ h, k)

pub risen : (t : ℕ) (r : List ℕ) (rs : List (List ℕ)) → falls_after t (r ∷ rs) ≡ false → (t ≤ time_of r) × (falls_after (time_of r) rs ≡ false)
unfolding falls_after
risen t r rs e = let n = neither _ _ e in (ltb-false _ _ n.0, n.1)

-- what holds of each step of lists in which no time falls holds of their join: such lists stay such, after the time that is written
module _ (P : ℕ → List (List ℕ) → List (List ℕ) → Joined → Type 0)
    (p : (t : ℕ) (ys : List (List ℕ)) → falls_after t ys ≡ false → P t [] ys (stop true))
    (q : (t : ℕ) (x : List ℕ) (xs : List (List ℕ)) → falls_after t (x ∷ xs) ≡ false → P t (x ∷ xs) [] (stop false))
    (f : (t : ℕ) (x y : List ℕ) (xs ys : List (List ℕ)) (j : Joined) → t ≤ time_of x → falls_after (time_of x) xs ≡ false → falls_after (time_of x) (y ∷ ys) ≡ false
    → P (time_of x) xs (y ∷ ys) j → P t (x ∷ xs) (y ∷ ys) (by_first x j))
    (s : (t : ℕ) (x y : List ℕ) (xs ys : List (List ℕ)) (j : Joined) → t ≤ time_of y → time_of y < time_of x → falls_after (time_of x) xs ≡ false
    → falls_after (time_of y) ys ≡ false → P (time_of y) (x ∷ xs) ys j → P t (x ∷ xs) (y ∷ ys) (by_second y j)) where
  pub by_times : (xs ys : List (List ℕ)) (t : ℕ) → falls_after t xs ≡ false → falls_after t ys ≡ false → P t xs ys (joined xs ys)
  by_times =
      by_steps (λ xs ys j. (t : ℕ) → falls_after t xs ≡ false → falls_after t ys ≡ false → P t xs ys j) (λ ys t h k. p t ys k) (λ x xs t h k. q t x xs h)
      (λ x y xs ys j l i t h k.
      let m = risen t x xs h in
      let n = rise (time_of x) y ys l (risen t y ys k).1 in
      f t x y xs ys j m.0 m.1 n (i (time_of x) m.1 n))
      (λ x y xs ys j l i t h k.
      let m = risen t y ys k in
      let n = (risen t x xs h).1 in
      s t x y xs ys j m.0 l n m.1 (i (time_of y) (rise (time_of y) x xs (omega arith) n) m.1))

-- where no time falls in either list, none falls in what is written and then the rest
pub never_falls : (xs ys : List (List ℕ)) (t : ℕ) → falls_after t xs ≡ false → falls_after t ys ≡ false
    → falls_after t ((joined xs ys).written ++ rest_of xs ys (joined xs ys)) ≡ false
never_falls =
    by_times (λ t xs ys j. falls_after t (j.written ++ rest_of xs ys j) ≡ false) (λ t ys h. h) (λ t x xs h. h)
    (λ t x y xs ys j h _ _ i. rise t x _ h i) (λ t x y xs ys j h _ _ _ i. rise t y _ h i)
