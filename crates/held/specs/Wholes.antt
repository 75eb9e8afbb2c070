-- Whole lines. Assumes nothing.
use Rattle.std.specs.Prelude.{ℕ, suc, cond as pick, List, [], ◌∷◌, eqb}

-- how many bytes the whole lines are: up to the last line feed
unfoldable pub whole_of : List ℕ → ℕ
whole_of [] = 0
whole_of (b ∷ s) = pick (eqb (whole_of s) 0) (pick (eqb b 10) 1 0) (suc (whole_of s))
