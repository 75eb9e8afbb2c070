-- The numbers of a line (document 01, "Batch and program"). Assumes nothing.
use Rattle.std.specs.Prelude.{ℕ, ◌+◌, ◌-◌, ◌*◌, Bool, true, not, cond as pick, ◌&&◌, List, [], ◌∷◌, leb, eqb, length, drop, replicate}
use Rattle.std.proofs.Math.Option.{Option, none, some}
use Rattle.std.proofs.lemmas.List.Edits.{sets}
use Rattle.text.specs.declared.reading.Taken.{Taken}
use Rattle.text.specs.Lines.{onto, first_line, passed}

-- the fields of a line: parted by one tab
unfoldable pub fields_of : List ℕ → List (List ℕ)
fields_of [] = [] ∷ []
fields_of (b ∷ s) = pick (eqb b 9) ([] ∷ fields_of s) (onto b (fields_of s))

-- a decimal digit
abbrev pub is_digit : ℕ → Bool
is_digit b = leb 48 b && leb b 57

-- all bytes are decimal digits
unfoldable pub all_digits : List ℕ → Bool
all_digits [] = true
all_digits (b ∷ f) = is_digit b && all_digits f

-- no leading zero except 0 itself
unfoldable pub unpadded : List ℕ → Bool
unpadded [] = true
unpadded (b ∷ []) = true
unpadded (b ∷ c ∷ f) = not (eqb b 48)

-- the number that digits spell after those that spell v
unfoldable pub spelled : ℕ → List ℕ → ℕ
spelled v [] = v
spelled v (b ∷ f) = spelled (v * 10 + (b - 48)) f

-- the number of a field: 1 to 10 decimal digits, at most 4,294,967,295, no leading zero except 0 itself; `none`: not readable
unfoldable pub value_of : List ℕ → Option ℕ
value_of f =
    pick (leb 1 (length f) && leb (length f) 10 && all_digits f && unpadded f && leb (spelled 0 f) 4294967295)
    (some (spelled 0 f))
    none

-- a number before others, where all are readable
abbrev pub both : Option ℕ → Option (List ℕ) → Option (List ℕ)
both none ns = none
both (some n) none = none
both (some n) (some ns) = some (n ∷ ns)

-- the numbers of fields, where all are readable
unfoldable pub values_of : List (List ℕ) → Option (List ℕ)
values_of [] = some []
values_of (f ∷ fs) = both (value_of f) (values_of fs)

-- the numbers of a line; more than 96 bytes are not readable
unfoldable pub numbers_of : List ℕ → Option (List ℕ)
numbers_of l = pick (leb (length l) 96) (values_of (fields_of l)) none

-- the numbers if there are k of them: another field count is not readable
abbrev pub exactly : ℕ → Option (List ℕ) → Option (List ℕ)
exactly k none = none
exactly k (some ns) = pick (eqb (length ns) k) (some ns) none

-- a line that is not readable, before the place of the next
abbrev pub unread : ℕ → Taken
unread next = record { count = 0; words = replicate 8 0; next = next }

-- one to eight numbers, with zeros after them; a line with more is as one that is not readable
unfoldable pub packed : Option (List ℕ) → ℕ → Taken
packed none next = unread next
packed (some ns) next =
    pick (leb (length ns) 8) (record { count = length ns; words = sets (replicate 8 0) 0 ns; next = next }) (unread next)

-- the line at a place of an input, and the place of the next
unfoldable pub taken_at : List ℕ → ℕ → Taken
taken_at s i = packed (numbers_of (first_line (drop i s))) (i + passed (drop i s))
