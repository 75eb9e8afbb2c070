-- Small tools that the rules are written with. `pick test x y` is x where the test passes, else y: the kit's `cond`. Assumes nothing.
use Rattle.std.specs.Prelude.{ℕ, zero, suc, ◌+◌, Bool, true, not, ◌&&◌, ◌||◌, cond as pick, List, [], ◌∷◌, set}

-- `when test f x` is f x where the test passes, else x
abbrev pub when : {A : Type 0} → Bool → (A → A) → A → A
when b f x = pick b (f x) x

-- a needs b
abbrev pub ◌⇒◌ : Bool → Bool → Bool
a ⇒ b = not a || b

infixr 25 ◌⇒◌
-- all the tests of a list pass
unfoldable pub every : List Bool → Bool
every [] = true
every (b ∷ bs) = b && every bs

-- every i below k passes
unfoldable pub all_to : ℕ → (ℕ → Bool) → Bool
all_to zero p = true
all_to (suc k) p = all_to k p && p k

-- the sum of f over the i below k
unfoldable pub sum_to : ℕ → (ℕ → ℕ) → ℕ
sum_to zero f = 0
sum_to (suc k) f = sum_to k f + f k

-- the lowest i below k that passes, or k
unfoldable pub first_to : ℕ → (ℕ → Bool) → ℕ
first_to zero p = 0
first_to (suc k) p = pick (p 0) 0 (suc (first_to k (λ i. p (suc i))))

-- the list with the entries from `at` on, k of them, set to f 0, f 1, ..
unfoldable pub fill_to : {A : Type 0} → ℕ → ℕ → (ℕ → A) → List A → List A
fill_to zero at f l = l
fill_to (suc k) at f l = set (fill_to k at f l) (at + k) (f k)
