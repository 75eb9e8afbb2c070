-- What `send` answers. Assumes nothing.
use Rattle.std.specs.Prelude.{ℕ, min, ◌≡◌, Bool, true, List, length}

-- of a list d, n bytes were to be written, or all if there are fewer
pub record Sends (d : List ℕ) (n : ℕ) (r : Bool) : Type 0 where
  -- with no byte to write, nothing can fail
  pub none : min n (length d) ≡ 0 → r ≡ true
