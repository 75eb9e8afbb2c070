-- Parts of what is held. Assumes nothing.
use Prim.Native.Nat.{ℕ, ◌+◌, ◌-◌, ◌≤◌, ◌<◌, min}
use mathlib.Core.Path.{◌≡◌, refl, sym, ap, ◌∙◌}
use mathlib.Core.Bool.{Bool, true, false}
use mathlib.Core.List.{List}
use native.Mathlib.Omega.{arith}
use borrow.Author.Tests.{leb-true, leb-false}
use lib.Dec.{leb}
use lib.ListN.{length, take, drop}
use lib.Seq.{take_all, take-add, drop_at, length-take-le}

-- so many bytes of a list, all of which lie in it
abbrev pub Front : List ℕ → ℕ → List ℕ → Type 0
Front s r front = (take r s ≡ front) × (r ≤ length s)

-- at most n of them
pub take_least : {A : Type 0} (n r : ℕ) (s : List A) → r ≡ min n (length s) → take r s ≡ take n s
take_least n r s e = by (leb n (length s)) refl
  where
    by : (t : Bool) → leb n (length s) ≡ t → take r s ≡ take n s
    by true h = let g : n ≤ length s = leb-true _ _ h in let x : r ≡ n = omega arith in ap (λ (m : ℕ). take m s) x
    by false h = let g : length s < n = leb-false n (length s) h in take_all r s (omega arith) ∙ sym (take_all n s (omega arith))

-- the bytes between two places
pub between : (d : List ℕ) (from to : ℕ) → from ≤ to → to ≤ length d → drop from (take to d) ≡ take (to - from) (drop from d)
between d from to h k =
    let e : to ≡ from + (to - from) = omega arith in
    ap (λ (n : ℕ). drop from (take n d)) e
    ∙ ap (drop from) (take-add from (to - from) d)
    ∙ drop_at (take from d) _ from (length-take-le from d (omega arith))

-- a part that begins at the front
pub less_none : (n : ℕ) → n - 0 ≡ n
less_none n = omega arith
