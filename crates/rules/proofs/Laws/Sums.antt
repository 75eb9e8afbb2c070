-- Laws of `all_to`, `sum_to`, `first_to` and `fill_to`. Assumes nothing.
use Prim.Native.Nat.{ℕ, zero, suc, ◌+◌, ◌≤◌, ◌<◌}
use mathlib.Core.Bool.{Bool, true, false}
use mathlib.Core.Path.{ap, ◌≡◌, refl, ◌∙◌}
use mathlib.Core.Logic.{◌≢◌}
use mathlib.Core.List.{List}
use native.Mathlib.Omega.{arith}
use native.Mathlib.Decide.{ℕ_discrete}
use lib.ListN.{length, get_or, length-set}
use lib.Seq.{get_or-set_same, get_or-set_other}
use Rattle.rules.specs.Tools.{all_to, sum_to, first_to, fill_to}
use Rattle.rules.proofs.Laws.Bools.{and_left, and_right, split}

-- below suc k: k, or below k
below : {A : Type 0} {i k : ℕ} → i < suc k → (i ≡ k → A) → (i < k → i ≢ k → A) → A
below {i = i} {k} h f g = elim (ℕ_discrete i k) [ yes e ↦ f e | no n ↦ g (omega arith) n ]

-- every i below k passes: the fact at one i, and from the facts at all
pub all_at : (k : ℕ) (p : ℕ → Bool) → all_to k p ≡ true → (i : ℕ) → i < k → p i ≡ true
unfolding all_to
all_at zero p h i l = absurd (omega arith)
all_at (suc k) p h i l =
    below l (λ e. rw e (and_right (all_to k p) (p k) h)) (λ m _. all_at k p (and_left (all_to k p) (p k) h) i m)

pub at_all : (k : ℕ) (p : ℕ → Bool) → ((i : ℕ) → i < k → p i ≡ true) → all_to k p ≡ true
unfolding all_to
at_all zero p h = refl
at_all (suc k) p h = rw (at_all k p (λ i l. h i (omega arith)), h k (omega arith))

-- sums of functions that agree
pub sum_same : (k : ℕ) {f g : ℕ → ℕ} → ((i : ℕ) → i < k → f i ≡ g i) → sum_to k f ≡ sum_to k g
unfolding sum_to
sum_same zero h = refl
sum_same (suc k) h = omega (arith, sum_same k (λ i l. h i (omega arith)), h k (omega arith))

-- a sum whose one entry changes
pub sum_change : (k n : ℕ) {f g : ℕ → ℕ} → n < k → ((i : ℕ) → i < k → i ≢ n → g i ≡ f i) → sum_to k g + f n ≡ sum_to k f + g n
unfolding sum_to
sum_change zero n l h = absurd (omega arith)
sum_change (suc k) n {f} {g} l h =
    below l
    (λ e. rw e (omega (arith, sum_same k {f = g} {g = f} (λ i m. h i (omega arith) (omega arith)))))
    (λ m d. omega (arith, sum_change k n {f = f} {g = g} m (λ i j x. h i (omega arith) x), h k (omega arith) (omega arith)))

-- a sum of zeros
pub sum_zero : (k : ℕ) {f : ℕ → ℕ} → ((i : ℕ) → i < k → f i ≡ 0) → sum_to k f ≡ 0
unfolding sum_to
sum_zero zero h = refl
sum_zero (suc k) h = omega (arith, sum_zero k (λ i l. h i (omega arith)), h k (omega arith))

-- an entry of a sum, two entries of a sum
pub sum_at : (k : ℕ) (f : ℕ → ℕ) (n : ℕ) → n < k → f n ≤ sum_to k f
unfolding sum_to
sum_at zero f n l = absurd (omega arith)
sum_at (suc k) f n l = below l (λ e. rw e (omega arith)) (λ m _. omega (arith, sum_at k f n m))

pub sum_two : (k : ℕ) (f : ℕ → ℕ) (n m : ℕ) → n < k → m < k → n ≢ m → f n + f m ≤ sum_to k f
unfolding sum_to
sum_two zero f n m l h d = absurd (omega arith)
sum_two (suc k) f n m l h d =
    below l
    (λ e. below h (λ q. absurd (omega arith)) (λ b _. rw e (omega (arith, sum_at k f m b))))
    (λ a _. below h (λ q. rw q (omega (arith, sum_at k f n a))) (λ b _. omega (arith, sum_two k f n m a b d)))

-- sums in order
pub sum_le : (k : ℕ) (f g : ℕ → ℕ) → ((i : ℕ) → i < k → f i ≤ g i) → sum_to k f ≤ sum_to k g
unfolding sum_to
sum_le zero f g h = omega arith
sum_le (suc k) f g h = omega (arith, sum_le k f g (λ i l. h i (omega arith)), h k (omega arith))

-- a sum with one entry that need not be zero
pub sum_only : (k n : ℕ) {f : ℕ → ℕ} → n < k → ((i : ℕ) → i < k → i ≢ n → f i ≡ 0) → sum_to k f ≡ f n
sum_only k n {f} l h =
    omega (arith, sum_change k n {f = λ _. 0} {g = f} l h, sum_zero k {f = λ _. 0} (λ i _. refl))

-- the lowest that passes
pub first_hit : (k : ℕ) (p : ℕ → Bool) → first_to k p < k → p (first_to k p) ≡ true
unfolding first_to
first_hit zero p h = absurd (omega arith)
first_hit (suc k) p h =
    split (p 0) (λ t. rw t t)
    (λ f. let g : suc (first_to k (λ i. p (suc i))) < suc k = rw f at h in rw f (first_hit k (λ i. p (suc i)) (omega arith)))

pub first_none : (k : ℕ) (p : ℕ → Bool) → k ≤ first_to k p → (i : ℕ) → i < k → p i ≡ false
unfolding first_to
first_none zero p h i l = absurd (omega arith)
first_none (suc k) p h zero l =
    split (p 0) (λ t. let g : suc k ≤ 0 = rw t at h in absurd (omega arith)) (λ f. f)
first_none (suc k) p h (suc i) l =
    split (p 0) (λ t. let g : suc k ≤ 0 = rw t at h in absurd (omega arith))
    (λ f. let g : suc k ≤ suc (first_to k (λ i. p (suc i))) = rw f at h in first_none k (λ i. p (suc i)) (omega arith) i (omega arith))

pub first_le : (k : ℕ) (p : ℕ → Bool) → first_to k p ≤ k
unfolding first_to
first_le zero p = omega arith
first_le (suc k) p = split (p 0) (λ t. rw t (omega arith)) (λ f. rw f (omega (arith, first_le k (λ i. p (suc i)))))

pub first_is : (k : ℕ) (p : ℕ → Bool) (i : ℕ) → i < k → p i ≡ true → ((j : ℕ) → j < i → p j ≡ false) → first_to k p ≡ i
unfolding first_to
first_is zero p i h t f = absurd (omega arith)
first_is (suc k) p zero h t f = rw t
first_is (suc k) p (suc i) h t f =
    rw (f 0 (omega arith)) (ap suc (first_is k (λ j. p (suc j)) i (omega arith) t (λ j l. f (suc j) (omega arith))))

pub first_all : (k : ℕ) (p : ℕ → Bool) → ((j : ℕ) → j < k → p j ≡ false) → first_to k p ≡ k
unfolding first_to
first_all zero p f = refl
first_all (suc k) p f = rw (f 0 (omega arith)) (ap suc (first_all k (λ j. p (suc j)) (λ j l. f (suc j) (omega arith))))

-- filling keeps the length, sets what it fills and keeps the rest
module _ {A : Type 0} (at : ℕ) (f : ℕ → A) (l : List A) (d : A) where
  pub length_fill : (k : ℕ) → length (fill_to k at f l) ≡ length l
  unfolding fill_to
  length_fill zero = refl
  length_fill (suc k) = simp (length-set, length_fill k)

  pub fill_out : (k j : ℕ) → ((i : ℕ) → i < k → j ≢ at + i) → get_or (fill_to k at f l) j d ≡ get_or l j d
  unfolding fill_to
  fill_out zero j h = refl
  fill_out (suc k) j h =
      get_or-set_other (fill_to k at f l) (at + k) j (f k) d (h k (omega arith)) ∙ fill_out k j (λ i m. h i (omega arith))

  pub fill_in : (k i : ℕ) → i < k → at + k ≤ length l → get_or (fill_to k at f l) (at + i) d ≡ f i
  unfolding fill_to
  fill_in zero i m h = absurd (omega arith)
  fill_in (suc k) i m h =
      below m
      (λ e. rw e (get_or-set_same (fill_to k at f l) (at + k) (f k) d (omega (arith, length_fill k))))
      (λ b x. get_or-set_other (fill_to k at f l) (at + k) (at + i) (f k) d (omega arith) ∙ fill_in k i b (omega arith))
