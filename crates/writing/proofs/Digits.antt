-- A number's text is what the library writes of it. Assumes nothing.
use Prim.Native.Nat.{ℕ, zero, suc, ◌+◌, ◌*◌, ◌/◌, ◌%◌, ◌^◌, ◌≤◌, ◌<◌}
use mathlib.Core.Path.{◌≡◌, refl, sym}
use mathlib.Core.List.{[], ◌∷◌, ◌++◌}
use mathlib.Core.Logic.{◌⊎◌, inl, inr, ⊎_elim}
use native.Mathlib.Omega.{arith}
use native.Mathlib.Nat.{pow-suc, pow-le-pow_right}
use borrow.Author.Tests.{lt-ltb, le-ltb}
use lib.ListN.{length, length-append}
use Rattle.std.specs.Fmt.{decimal as written}
use Rattle.std.proofs.lemmas.Fmt.{decimal_digit, decimal_step, decimal_by_steps, length-decimal-le, decimal_nonempty}
use Rattle.std.proofs.Common.{Option, None, Some, IfNone, IfSome}
use Rattle.std.specs.Option.{unwrap_or}
use Rattle.std.proofs.lemmas.Bool.{cases_lt}
use Rattle.writing.specs.Writing.{decimal_to, decimal}

-- a number of so many digits
written_to : (k n : ℕ) → n < 10 ^ suc k → n < 2 ^ 64 → decimal_to (suc k) n ≡ written n
unfolding decimal_to
written_to zero n h w = rw (lt-ltb n 10 (omega arith)) (sym (decimal_digit n (omega arith)))
written_to (suc k) n h w =
    let p = pow-suc 10 (suc k) in
    ⊎_elim
    (λ z. rw (lt-ltb n 10 z) (sym (decimal_digit n z)))
    (λ z. rw (le-ltb n 10 z, written_to k (n / 10) (omega arith) (omega arith)) (sym (decimal_step n z w)))
    (cases_lt n 10)

pub decimal_is : (n : ℕ) → n < 10 ^ 10 → decimal n ≡ written n
unfolding decimal
decimal_is n h = written_to 9 n h (omega arith)

-- so many digits spell no larger number
below_power : (n : ℕ) → n < 2 ^ 64 → n < 10 ^ length (written n)
below_power = decimal_by_steps (λ m ds. m < 10 ^ length ds) (λ m h. omega arith)
    (λ m ds h i. let p = pow-suc 10 (length ds) in let l : length (ds ++ ((48 + m % 10) ∷ [])) ≡ suc (length ds) = rw length-append (omega arith) in rw l (omega arith))

-- how many they are
pub width_is : (k n : ℕ) → n < 10 ^ 10 → n < 10 * 10 ^ k → (k ≡ 0) ⊎ (10 ^ k ≤ n) → k + 1 ≡ length (decimal n)
width_is k n w h o =
    let p = pow-suc 10 k in
    let l = length-decimal-le (suc k) n (omega arith) (omega arith) (omega arith) in
    let b = below_power n (omega arith) in
    let one = decimal_nonempty n (omega arith) in
    let long : k < length (written n) =
    ⊎_elim (λ z. omega arith) (λ z. ⊎_elim (λ q. q) (λ q. absurd (let m : 10 ^ length (written n) ≤ 10 ^ k = pow-le-pow_right (omega arith) q in omega arith))
    (cases_lt k (length (written n)))) o in
    rw (decimal_is n (omega arith)) (omega arith)

-- as the library's logarithm says it
pub width_by_log : (n : ℕ) (o : Option ℕ) → n < 2 ^ 32 → IfNone o (n ≡ 0) → IfSome o (λ k. 10 ^ k ≤ n) → IfSome o (λ k. n < 10 * 10 ^ k) → IfSome o (λ k. k < 10)
    → (unwrap_or o 0 + 1 ≡ length (decimal n)) × (unwrap_or o 0 + 1 ≤ 10)
width_by_log n None w z a b s = (width_is 0 n (omega arith) (omega (arith, z)) (inl refl), omega arith)
width_by_log n (Some k) w z a b s = (width_is k n (omega arith) b (inr a), omega arith)
