-- A line of nine numbers. Assumes nothing.
use Rattle.std.specs.Prelude.{ℕ, ◌+◌, List, drop, Some, None}
use Rattle.std.proofs.Math.Option.{Option, none, some}
use Rattle.text.specs.declared.nines.Nine.{Nine}
use Rattle.text.specs.Lines.{first_line, passed}
use Rattle.text.specs.Reading.{fields_of, values_of, exactly}

-- the nine numbers of a line; another field count is not readable. No limit of bytes is asked: nine numbers have at most 98
unfoldable pub nine_in : List ℕ → Option (List ℕ)
nine_in l = exactly 9 (values_of (fields_of l))

-- nine numbers, if they are readable, before the place of the next line
unfoldable pub nined : Option (List ℕ) → ℕ → Nine
nined none next = record { numbers = None; next = next }
nined (some ns) next = record { numbers = Some ns; next = next }

-- the line at a place of an input as nine numbers, and the place of the next
unfoldable pub nine_at : List ℕ → ℕ → Nine
nine_at s i = nined (nine_in (first_line (drop i s))) (i + passed (drop i s))
