-- What is printed of a file are its lines, as they stood. Assumes nothing.
use Prim.Native.Nat.{ℕ}
use mathlib.Core.Path.{◌≡◌, refl}
use mathlib.Core.Bool.{Bool, true, false, cond as pick}
use mathlib.Core.List.{List, [], ◌∷◌, ◌++◌, append_assoc}
use mathlib.Core.Option.{Option, none, some}
use lib.Dec.{ltb, eqb}
use lib.ListN.{length, take}
use Rattle.text.specs.Reading.{fields_of, values_of, exactly}
use Rattle.text.specs.Nines.{nine_in}
use Rattle.text.proofs.Laws.{within}
use Rattle.writing.specs.Writing.{line_of}
use Rattle.writing.proofs.Stood.{line_stands}
use Rattle.probes.specs.Records.{time_of}
use Rattle.lanes.specs.Files.{Read, stopped, begun, read_line, read_lines}
use Rattle.lanes.specs.Program.{text_of, fed}

-- numbers that are k are those that were read
exactly_some : (k : ℕ) (o : Option (List ℕ)) (x : List ℕ) → exactly k o ≡ some x → o ≡ some x
exactly_some k none x e = e
exactly_some k (some ns) x e = within (eqb (length ns) k) (some ns) x e

-- a record is written as its line stood
pub record_stood : (l x : List ℕ) → nine_in l ≡ some x → line_of x ≡ l ++ (10 ∷ [])
unfolding nine_in
record_stood l x e = line_stands l x (exactly_some 9 (values_of (fields_of l)) x e)

-- the records of lines, as text, are the first of those lines
abbrev Stood : List (List ℕ) → Read → Type 0
Stood ls r = text_of r.records ≡ fed (take (length r.records) ls)

-- a line before others
module _ (l : List ℕ) (ls : List (List ℕ)) (next : ℕ → Read) (i : (t : ℕ) → Stood ls (next t)) where
  stood_more : (o : Option (List ℕ)) (t : ℕ) → nine_in l ≡ o → Stood (l ∷ ls) (read_line o t next)
  unfolding read_line text_of fed
  stood_more none t e = refl
  stood_more (some x) t e = by (ltb (time_of x) t)
    where
      by : (b : Bool) → Stood (l ∷ ls) (pick b (stopped 24 t) (begun x (next (time_of x))))
      by true = refl
      by false = rw (record_stood l x e, i (time_of x)) (append_assoc l (10 ∷ []) _)

-- the records of lines are printed as the lines stood, up to the first that is refused
pub as_they_stood : (ls : List (List ℕ)) (t : ℕ) → text_of (read_lines ls t).records ≡ fed (take (length (read_lines ls t).records) ls)
unfolding read_lines text_of fed
as_they_stood [] t = refl
as_they_stood (l ∷ ls) t = stood_more l ls (read_lines ls) (as_they_stood ls) (nine_in l) t refl
