-- The lines of an input (document 01, "Batch and program"). Assumes nothing.
use Rattle.std.specs.Prelude.{ℕ, zero, suc, ◌+◌, cond as pick, List, [], ◌∷◌, eqb, drop}

-- a byte in front of the first part
abbrev pub onto : ℕ → List (List ℕ) → List (List ℕ)
onto b [] = (b ∷ []) ∷ []
onto b (p ∷ ps) = (b ∷ p) ∷ ps

-- the lines of an input: a line ends at a line feed or the end of input; no bytes after the last line feed means no further line
unfoldable pub lines_of : List ℕ → List (List ℕ)
lines_of [] = []
lines_of (b ∷ s) = pick (eqb b 10) ([] ∷ lines_of s) (onto b (lines_of s))

-- the first line, with no line feed
unfoldable pub first_line : List ℕ → List ℕ
first_line [] = []
first_line (b ∷ s) = pick (eqb b 10) [] (b ∷ first_line s)

-- how many bytes the first line is, with its line feed
unfoldable pub passed : List ℕ → ℕ
passed [] = 0
passed (b ∷ s) = pick (eqb b 10) 1 (suc (passed s))

-- how many bytes the first k lines are
unfoldable pub passed_by : ℕ → List ℕ → ℕ
passed_by zero s = 0
passed_by (suc k) s = passed s + passed_by k (drop (passed s) s)
