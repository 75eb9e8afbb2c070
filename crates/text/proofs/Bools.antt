-- Tests and conditionals. Assumes nothing.
use Prim.Native.Nat.{ℕ, ◌≤◌}
use mathlib.Core.Path.{◌≡◌, refl}
use mathlib.Core.Bool.{Bool, true, false, cond as pick, ◌&&◌, false≢true}
use mathlib.Core.Option.{none, some}
use borrow.Author.Tests.{leb-true, le-leb}
use lib.Dec.{leb}
use Rattle.text.specs.Reading.{is_digit}

pub and_both : (x y : Bool) → x && y ≡ true → (x ≡ true) × (y ≡ true)
and_both true y e = (refl, e)
and_both false y e = absurd (false≢true e)

pub cond_some : (t : Bool) (m n : ℕ) → pick t (some m) none ≡ some n → t ≡ true
cond_some true m n e = refl
cond_some false m n e = cc

-- a digit's bounds
pub digit_in : (b : ℕ) → is_digit b ≡ true → (48 ≤ b) × (b ≤ 57)
digit_in b e =
    let h = and_both (leb 48 b) (leb b 57) e in
    (leb-true 48 b h.0, leb-true b 57 h.1)

pub digit_yes : (b : ℕ) → 48 ≤ b → b ≤ 57 → is_digit b ≡ true
digit_yes b h k = rw (le-leb 48 b h, le-leb b 57 k)
