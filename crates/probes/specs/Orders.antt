-- What the theorems speak of; no contract names it. Assumes nothing.
use Rattle.std.specs.Prelude.{ℕ, ◌+◌, ◌≡◌, Bool, true, false, not, ◌&&◌, cond as pick, List, [], ◌∷◌, ◌++◌, eqb, leb, drop}
use Rattle.probes.specs.Records.{time_of}
use Rattle.probes.specs.Joins.{Joined}

-- the records that a join of xs and ys leaves
abbrev pub rest_of : List (List ℕ) → List (List ℕ) → Joined → List (List ℕ)
rest_of xs ys j = pick j.first_done (drop j.seconds ys) (drop j.firsts xs)

-- the third list has the records of the first two and no others, those of each list in their order
pub data Interleaves : List (List ℕ) → List (List ℕ) → List (List ℕ) → Type 0 where
  ended : Interleaves [] [] []
  of_first : {r : List ℕ} {xs ys zs : List (List ℕ)} → Interleaves xs ys zs → Interleaves (r ∷ xs) ys (r ∷ zs)
  of_second : {r : List ℕ} {xs ys zs : List (List ℕ)} → Interleaves xs ys zs → Interleaves xs (r ∷ ys) (r ∷ zs)

-- ---- equal times

-- no record has the time t
unfoldable pub none_at : ℕ → List (List ℕ) → Bool
none_at t [] = true
none_at t (r ∷ rs) = not (eqb (time_of r) t) && none_at t rs

-- as `Interleaves`, and no record of the second list stands before a record of the first with the same time: where the second's is next, no record that the first still has is of its time
pub data EqualFirst : List (List ℕ) → List (List ℕ) → List (List ℕ) → Type 0 where
  all_taken : EqualFirst [] [] []
  first_taken : {r : List ℕ} {xs ys zs : List (List ℕ)} → EqualFirst xs ys zs → EqualFirst (r ∷ xs) ys (r ∷ zs)
  second_taken : {r : List ℕ} {xs ys zs : List (List ℕ)} → none_at (time_of r) xs ≡ true → EqualFirst xs ys zs → EqualFirst xs (r ∷ ys) (r ∷ zs)

-- ---- which list is used up

-- the last record's time, or t if there is none
unfoldable pub last_after : ℕ → List (List ℕ) → ℕ
last_after t [] = t
last_after t (r ∷ rs) = last_after (time_of r) rs

-- the last record's time
abbrev pub last_time : List (List ℕ) → ℕ
last_time rs = last_after 0 rs

-- whether the first list is the one that is used up: with no records it is; where the second alone has none it is not; else where its last time is not above the second's
unfoldable pub first_ends : List (List ℕ) → List (List ℕ) → Bool
first_ends [] ys = true
first_ends (x ∷ xs) [] = false
first_ends (x ∷ xs) (y ∷ ys) = leb (last_time (x ∷ xs)) (last_time (y ∷ ys))

-- ---- lists that come in parts

-- what i says, and then what j says
abbrev pub after : Joined → Joined → Joined
after i j =
    record { written = i.written ++ j.written; firsts = i.firsts + j.firsts; seconds = i.seconds + j.seconds; first_done = j.first_done }
