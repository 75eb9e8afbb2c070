-- A probe's file: lines of nine numbers, a time and then the event, whose times never fall (document 02, T-02). Assumes nothing.
use Rattle.std.specs.Prelude.{ℕ, cond as pick, List, [], ◌∷◌, ltb}
use Rattle.std.proofs.Math.Option.{Option, none, some}
use Rattle.text.specs.Lines.{lines_of}
use Rattle.text.specs.Nines.{nine_in}
use Rattle.probes.specs.Records.{time_of}

-- what lines give: records, up to the first line that is refused; the last time; and the number of that line, 0 if no line is refused
pub record Read : Type 0 where
  pub records : List (List ℕ)
  pub time : ℕ
  pub number : ℕ

-- no record
abbrev pub stopped : ℕ → ℕ → Read
stopped number t = record { records = []; time = t; number = number }

-- a record, and then what r says
abbrev pub begun : List ℕ → Read → Read
begun x r = record { records = x ∷ r.records; time = r.time; number = r.number }

-- what a line gives after the time t, and then the lines after it: 22, the line is not readable; 24, its time falls
unfoldable pub read_line : Option (List ℕ) → ℕ → (ℕ → Read) → Read
read_line none t next = stopped 22 t
read_line (some x) t next = pick (ltb (time_of x) t) (stopped 24 t) (begun x (next (time_of x)))

-- what lines give after the time t
unfoldable pub read_lines : List (List ℕ) → ℕ → Read
read_lines [] t = stopped 0 t
read_lines (l ∷ ls) t = read_line (nine_in l) t (read_lines ls)

-- what a file gives
abbrev pub file_of : List ℕ → Read
file_of s = read_lines (lines_of s) 0
