-- The tags as the library searches them. Assumes nothing.
use Rattle.std.proofs.Common.{ℕ, ◌≡◌, ◌<◌, length, List, Bool, true, false, not, Option, None, Some, MatchOption, eqb, arith, sym}
use Rattle.std.specs.List.{AllWithin, HoldsAt, IsAnyAnswer}
use Rattle.rules.proofs.Laws.Bools.{split, clash}
use Rattle.rules.proofs.Laws.Sums.{all_at, at_all, first_is, first_all}
use Rattle.numbers.specs.Tags.{slot_in, first_untagged, absent}

-- the first tag that is 0
pub slot_first : (tags : List ℕ) → length tags ≡ 64 → (r : Option ℕ)
    → MatchOption r (AllWithin (λ x. eqb x 0 ≡ false) tags 0 (length tags))
    (λ i. (i < length tags) × HoldsAt (λ x. eqb x 0 ≡ true) tags i × AllWithin (λ x. eqb x 0 ≡ false) tags 0 i)
    → slot_in r ≡ first_untagged tags
unfolding first_untagged
slot_first tags l None h = sym (first_all 64 _ (λ j b. h j 0 (omega arith) (omega arith)))
slot_first tags l (Some i) h = sym (first_is 64 _ i (omega arith) (h.1 0) (λ j b. h.2 j 0 (omega arith) (omega arith)))

-- no tag is t
pub none_is : (tags : List ℕ) → length tags ≡ 64 → (t : ℕ) (r : Bool) → IsAnyAnswer (λ y b. eqb y t ≡ b) tags r → not r ≡ absent tags t
unfolding absent
none_is tags l t true (k, b, h) =
    split (absent tags t) (λ y. clash (all_at 64 _ y k (omega arith)) (rw (h 0))) (λ n. sym n)
none_is tags l t false h = sym (at_all 64 _ (λ i b. rw (h i 0 (omega arith) (omega arith))))
