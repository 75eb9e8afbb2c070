-- The join of lists that come in parts. Assumes nothing.
use Prim.Native.Nat.{ℕ}
use mathlib.Core.Path.{◌≡◌, ap, sym, ◌∙◌}
use mathlib.Core.Bool.{Bool, true, false}
use mathlib.Core.List.{List, ◌++◌}
use native.Mathlib.Nat.{zero-add, suc-add}
use lib.ListN.{drop}
use Rattle.probes.specs.Joins.{Joined, stop, by_first, by_second, joined}
use Rattle.probes.specs.Orders.{after}
use Rattle.probes.proofs.Merging.{by_steps, first_next, second_next}

after_none : (d : Bool) (j : Joined) → after (stop d) j ≡ j
after_none d j = simp zero-add

after_first : (r : List ℕ) (i j : Joined) → after (by_first r i) j ≡ by_first r (after i j)
after_first r i j = simp suc-add

after_second : (r : List ℕ) (i j : Joined) → after (by_second r i) j ≡ by_second r (after i j)
after_second r i j = simp suc-add

module _ (a' b' : List (List ℕ)) where
  -- what i says of the first parts a and b, and then the join of their rests and what follows them
  abbrev goes_on : List (List ℕ) → List (List ℕ) → Joined → Joined
  goes_on a b i = after i (joined (drop i.firsts a ++ a') (drop i.seconds b ++ b'))

  by_parts : (a b : List (List ℕ)) → joined (a ++ a') (b ++ b') ≡ goes_on a b (joined a b)
  by_parts =
      by_steps (λ a b j. joined (a ++ a') (b ++ b') ≡ goes_on a b j)
      (λ ys. sym (after_none true _))
      (λ x xs. sym (after_none false _))
      (λ x y xs ys j l h. first_next x (xs ++ a') y (ys ++ b') l ∙ ap (by_first x) h ∙ sym (after_first x j _))
      (λ x y xs ys j l h. second_next x (xs ++ a') y (ys ++ b') l ∙ ap (by_second y) h ∙ sym (after_second y j _))

-- The join of lists that go on is the join of their first parts, and then that of the rests and what follows them, whatever the times are:
-- the records of both are written, one after another, of each list so many as both took, and the list is used up that the later join uses up.
pub in_parts : (a a' b b' : List (List ℕ))
    → joined (a ++ a') (b ++ b') ≡ after (joined a b) (joined (drop (joined a b).firsts a ++ a') (drop (joined a b).seconds b ++ b'))
in_parts a a' b b' = by_parts a' b' a b
