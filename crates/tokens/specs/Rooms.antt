-- What private functions state. Assumes nothing.
use Rattle.std.specs.Prelude.{ℕ, ◌≤◌, ◌<◌, ◌≡◌, List, length, take}
use Rattle.held.specs.Wholes.{whole_of}

-- so many bytes are held in a buffer, and where no line of them is whole there is room for more
pub record Room (buf : List ℕ) (held : ℕ) : Type 0 where
  pub fits : held ≤ length buf
  pub more : whole_of (take held buf) ≡ 0 → held < length buf
