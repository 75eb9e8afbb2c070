-- A probe's list of words as records of nine words, a 32-bit time and then the event (document 02, T-02). Assumes nothing.
use Rattle.std.specs.Prelude.{ℕ, zero, suc, ◌/◌, Bool, false, ◌||◌, List, [], ◌∷◌, ◌++◌, ltb, length, get_or, take, drop}

-- the first k records of a list of words
unfoldable pub records : ℕ → List ℕ → List (List ℕ)
records zero ws = []
records (suc k) ws = take 9 ws ∷ records k (drop 9 ws)

-- the records of a list of words
unfoldable pub records_of : List ℕ → List (List ℕ)
records_of ws = records (length ws / 9) ws

-- the words of records
unfoldable pub words_of : List (List ℕ) → List ℕ
words_of [] = []
words_of (r ∷ rs) = r ++ words_of rs

-- a record's time
abbrev pub time_of : List ℕ → ℕ
time_of r = get_or r 0 0

-- after the time t, a time is below the one before it
unfoldable pub falls_after : ℕ → List (List ℕ) → Bool
falls_after t [] = false
falls_after t (r ∷ rs) = ltb (time_of r) t || falls_after (time_of r) rs

-- a time is below the one before it; no time is below 0
abbrev pub falls : List (List ℕ) → Bool
falls rs = falls_after 0 rs
