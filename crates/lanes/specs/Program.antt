-- The program `join`, from the bytes of its two files to what it prints and tells (document 02, T-02). Assumes nothing.
use Rattle.std.specs.Prelude.{ℕ, ◌+◌, Bool, true, false, cond as pick, List, [], ◌∷◌, ◌++◌, eqb, length, drop}
use Rattle.std.proofs.Math.Option.{Option, none, some}
use Rattle.writing.specs.Writing.{line_of}
use Rattle.probes.specs.Joins.{joined}
use Rattle.lanes.specs.Files.{Read, file_of}

-- by time, until one list is used up; then the rest of the other, unless a line of the file that is used up is refused, with the number m or n
unfoldable pub printed_of : List (List ℕ) → ℕ → List (List ℕ) → ℕ → List (List ℕ)
printed_of xs m ys n =
    (joined xs ys).written
    ++ pick (joined xs ys).first_done (pick (eqb m 0) (drop (joined xs ys).seconds ys) []) (pick (eqb n 0) (drop (joined xs ys).firsts xs) [])

-- a line that is refused: whether it is the second file's, which line, and its number
pub record Refused : Type 0 where
  pub second : Bool
  pub line : ℕ
  pub number : ℕ

-- the line of a file that is refused, after so many lines
unfoldable pub refused_after : Bool → ℕ → ℕ → Option Refused
refused_after second lines number = pick (eqb number 0) none (some (record { second = second; line = lines + 1; number = number }))

-- the first of two, if there is one
abbrev pub or_else : Option Refused → Option Refused → Option Refused
or_else none s = s
or_else (some r) s = some r

-- what is told at the end: the line of the file that is used up, or else of the other
abbrev pub told_of : Bool → Option Refused → Option Refused → Option Refused
told_of first_done a b = pick first_done (or_else a b) (or_else b a)

-- what is printed for two files
abbrev pub printed_for : Read → Read → List (List ℕ)
printed_for a b = printed_of a.records a.number b.records b.number

-- what is told for them
abbrev pub told_for : Read → Read → Option Refused
told_for a b =
    told_of (joined a.records b.records).first_done
    (refused_after false (length a.records) a.number)
    (refused_after true (length b.records) b.number)

-- records as text, a line for each
unfoldable pub text_of : List (List ℕ) → List ℕ
text_of [] = []
text_of (r ∷ rs) = line_of r ++ text_of rs

-- what the program prints for two files
abbrev pub printed : List ℕ → List ℕ → List ℕ
printed first second = text_of (printed_for (file_of first) (file_of second))

-- what it tells
abbrev pub told : List ℕ → List ℕ → Option Refused
told first second = told_for (file_of first) (file_of second)

-- lines, each with a line feed: what the theorem of what stood speaks of
unfoldable pub fed : List (List ℕ) → List ℕ
fed [] = []
fed (l ∷ ls) = l ++ (10 ∷ fed ls)
