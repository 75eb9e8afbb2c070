-- Which of two lists a join uses up, from their last times. Assumes nothing.
use Prim.Native.Nat.{ℕ, ◌≤◌, ◌<◌}
use mathlib.Core.Path.{◌≡◌, refl, sym, ◌∙◌}
use mathlib.Core.Bool.{Bool, false}
use mathlib.Core.List.{List, [], ◌∷◌}
use native.Mathlib.Omega.{arith}
use borrow.Author.Tests.{le-leb, lt-leb}
use Rattle.probes.specs.Records.{time_of, falls_after, falls}
use Rattle.probes.specs.Joins.{joined}
use Rattle.probes.specs.Orders.{last_after, first_ends}
use Rattle.probes.proofs.Rising.{risen, by_times}

-- the last time is not below any before it
last_up : (t : ℕ) (rs : List (List ℕ)) → falls_after t rs ≡ false → t ≤ last_after t rs
unfolding last_after
last_up t [] h = omega arith
last_up t (r ∷ rs) h =
    let m = risen t r rs h in
    let n = last_up (time_of r) rs m.1 in
    omega arith

module _ (x y : List ℕ) (d : Bool) where
  first_ends_lem : (xs ys : List (List ℕ)) → falls_after (time_of x) (y ∷ ys) ≡ false → d ≡ first_ends xs (y ∷ ys) → d ≡ first_ends (x ∷ xs) (y ∷ ys)
  unfolding first_ends last_after
  first_ends_lem [] ys h e =
      let m = last_up (time_of x) (y ∷ ys) h in
      e ∙ sym (le-leb _ _ m)
  first_ends_lem (z ∷ zs) ys h e = e

  second_ends : (xs ys : List (List ℕ)) → time_of y < time_of x → falls_after (time_of x) xs ≡ false → d ≡ first_ends (x ∷ xs) ys → d ≡ first_ends (x ∷ xs) (y ∷ ys)
  unfolding first_ends last_after
  second_ends xs [] l h e =
      let m = last_up (time_of x) xs h in
      e ∙ sym (lt-leb (last_after (time_of x) xs) (time_of y) (omega arith))
  second_ends xs (z ∷ zs) l h e = e

-- where no time falls, the last times say which list is used up
pub whose_rest : (xs ys : List (List ℕ)) → falls xs ≡ false → falls ys ≡ false → (joined xs ys).first_done ≡ first_ends xs ys
unfolding first_ends
whose_rest xs ys =
    by_times (λ t xs ys j. j.first_done ≡ first_ends xs ys) (λ t ys h. refl) (λ t x xs h. refl)
    (λ t x y xs ys j _ _ h i. first_ends_lem x y j.first_done xs ys h i) (λ t x y xs ys j _ l h _ i. second_ends x y j.first_done xs ys l h i) xs ys 0
