-- Laws of `all_to`, `sum_to`, `fill_to` and of tables, for loops that count up. Assumes nothing.
use Prim.Native.Nat.{ℕ, zero, suc, ◌+◌, ◌<◌}
use mathlib.Core.Bool.{Bool, true, ◌&&◌}
use mathlib.Core.Path.{◌≡◌, refl, ap₂}
use native.Mathlib.Omega.{arith}
use native.Mathlib.Decide.{ℕ_discrete}
use native.Mathlib.Numerals.{add-one}
use mathlib.Core.List.{List}
use lib.ListN.{length, get_or, set}
use lib.Seq.{get_or-set_same, get_or-set_other}
use Rattle.rules.specs.Tools.{all_to, sum_to, fill_to}

-- before the first turn, and after one turn more
pub all_none : (p : ℕ → Bool) → true ≡ all_to 0 p
unfolding all_to
all_none p = refl

pub all_more : (i : ℕ) (p : ℕ → Bool) {a b : Bool} → a ≡ all_to i p → b ≡ p i → a && b ≡ all_to (i + 1) p
unfolding all_to
all_more i p h e = rw (add-one, h, e)

pub all_same : (k : ℕ) {p q : ℕ → Bool} → ((i : ℕ) → i < k → p i ≡ q i) → all_to k p ≡ all_to k q
unfolding all_to
all_same zero h = refl
all_same (suc k) h = ap₂ ◌&&◌ (all_same k (λ i l. h i (omega arith))) (h k (omega arith))

pub sum_none : (f : ℕ → ℕ) → 0 ≡ sum_to 0 f
unfolding sum_to
sum_none f = refl

pub sum_more : (i : ℕ) (f : ℕ → ℕ) {a b : ℕ} → a ≡ sum_to i f → b ≡ f i → a + b ≡ sum_to (i + 1) f
unfolding sum_to
sum_more i f h e = rw (add-one, h, e)

pub sum_onto : (z i : ℕ) (f : ℕ → ℕ) {x a : ℕ} → x ≡ a + f i → a ≡ z + sum_to i f → x ≡ z + sum_to (i + 1) f
unfolding sum_to
sum_onto z i f h e = rw add-one (omega arith)

-- what holds below i, and of i
pub below_suc : (P : ℕ → Type 0) (i : ℕ) → ((j : ℕ) → j < i → P j) → P i → (j : ℕ) → j < i + 1 → P j
below_suc P i h p j l = elim (ℕ_discrete j i) [ yes e ↦ rw e p | no d ↦ h j (omega arith) ]

-- filling, before the first turn and after one turn more
pub fill_none : {A : Type 0} (at : ℕ) (f : ℕ → A) (l : List A) → l ≡ fill_to 0 at f l
unfolding fill_to
fill_none at f l = refl

pub fill_more : {A : Type 0} (k at : ℕ) (f : ℕ → A) (l : List A) {cs : List A} {x : A} → cs ≡ fill_to k at f l → x ≡ f k → set cs (at + k) x ≡ fill_to (k + 1) at f l
unfolding fill_to
fill_more k at f l h e = rw (add-one, h, e)

-- what holds of the entries below i, and of the one that is stored at i
pub table_more : {A : Type 0} (d : A) (P : ℕ → A → Type 0) (l : List A) (i : ℕ) (v : A) → i < length l
    → ((k : ℕ) → k < i → P k (get_or l k d)) → P i v → (k : ℕ) → k < i + 1 → P k (get_or (set l i v) k d)
table_more d P l i v fits h p k below =
    elim (ℕ_discrete k i) [
      | yes e ↦ rw (e, get_or-set_same l i v d fits) p
      | no n ↦ rw (get_or-set_other l i k v d n) (h k (omega arith))
    ]
