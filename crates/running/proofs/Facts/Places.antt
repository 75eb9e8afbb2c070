-- Where a part stands that there is. Assumes nothing.
use Prim.Native.Nat.{ℕ, ◌+◌, ◌*◌, ◌<◌}
use mathlib.Core.Path.{◌≡◌}
use borrow.Author.Tests.{lt-ltb}
use borrow.Author.Rules.{rules}
use mir.Val.{Fits}
use mir.Syntax.{w64}
use Rattle.numbers.specs.Places.{row_of, place_of}

pub row_is : {line r : ℕ} → r ≡ row_of line → line < 16 → r ≡ line
unfolding row_of
row_is {line} h l = rw (h, lt-ltb line 16 l)

pub place_is : {line node r : ℕ} → r ≡ place_of line node → line < 16 → node < 9 → r ≡ line * 9 + node
unfolding place_of
place_is {line} {node} h l n = rw (h, lt-ltb line 16 l, lt-ltb node 9 n)

-- the offset of a cell in bytes fits
pub cell_fits : {k : ℕ} → k < 144 → Fits w64 (k * 16)
cell_fits {k} h = search rules
