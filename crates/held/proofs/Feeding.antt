-- Whole lines end at the last line feed. Assumes nothing.
use Prim.Native.Nat.{ℕ, zero, suc, ◌+◌, ◌≤◌, ◌<◌}
use mathlib.Core.Path.{◌≡◌, refl}
use mathlib.Core.List.{List, [], ◌∷◌}
use native.Mathlib.Omega.{arith}
use borrow.Author.Tests.{eq-eqb, ne_eqb}
use lib.ListN.{length, get_or}
use Rattle.held.specs.Wholes.{whole_of}

-- no line feed stands from a place on
abbrev pub NoFeed : List ℕ → ℕ → Type 0
NoFeed s i = (k : ℕ) → i ≤ k → k < length s → get_or s k 0 ≡ 10 → ⊥

pub whole_none : (s : List ℕ) → NoFeed s 0 → whole_of s ≡ 0
unfolding whole_of
whole_none [] h = refl
whole_none (b ∷ s) h = rw (whole_none s (λ k l m. h (suc k) (omega arith) (omega arith)), ne_eqb b 10 (h 0 (omega arith) (omega arith)))

pub whole_last : (s : List ℕ) (i : ℕ) → i < length s → get_or s i 0 ≡ 10 → NoFeed s (i + 1) → whole_of s ≡ i + 1
unfolding whole_of
whole_last [] i l e h = absurd (omega arith)
whole_last (b ∷ s) zero l e h = rw (whole_none s (λ k m n. h (suc k) (omega arith) (omega arith)), eq-eqb b 10 e)
whole_last (b ∷ s) (suc i) l e h =
    rw (whole_last s i (omega arith) e (λ k m n. h (suc k) (omega arith) (omega arith)), ne_eqb (i + 1) 0 (λ z. omega arith)) (omega arith)
