-- Many lines at once: what is read of them. Assumes nothing.
use Rattle.std.specs.Prelude.{ℕ, ◌/◌, min, List, [], ◌∷◌, ◌++◌, map, ◌≡◌, length, take}
use Rattle.std.proofs.Math.Option.{Option, none, some}
use Rattle.std.proofs.lemmas.List.Edits.{sets}
use Rattle.text.specs.declared.chunks.Parsed.{Parsed}
use Rattle.text.specs.Lines.{lines_of, passed_by}
use Rattle.text.specs.Reading.{numbers_of, exactly}

-- the numbers, if they are readable
abbrev pub known : Option (List ℕ) → List ℕ
known none = []
known (some ns) = ns

-- 1 if they are readable, else 0
abbrev pub is_known : Option (List ℕ) → ℕ
is_known none = 0
is_known (some ns) = 1

-- the eight words of an event's line
unfoldable pub event_in : List ℕ → Option (List ℕ)
event_in l = exactly 8 (numbers_of l)

-- a line's mark: 1 for an event, 0 for a line that is not readable
unfoldable pub mark_of : List ℕ → ℕ
mark_of l = is_known (event_in l)

-- the words of the events among lines
unfoldable pub words_in : List (List ℕ) → List ℕ
words_in [] = []
words_in (l ∷ ls) = known (event_in l) ++ words_in ls

-- how many lines there is room for: eight words and a mark for each, and at most so many
abbrev pub room : ℕ → List ℕ → List ℕ → ℕ
room most words marks = min most (min (length words / 8) (length marks))

-- as many lines of s as there is room for are read: their words and their marks stand in order, all else is as it was
pub record Parses (s : List ℕ) (k : ℕ) (words marks words' marks' : List ℕ) (r : Parsed) : Type 0 where
  pub lines : r.lines ≡ length (take k (lines_of s))
  pub count : r.words ≡ length (words_in (take k (lines_of s)))
  pub next : r.next ≡ passed_by k s
  pub events : words' ≡ sets words 0 (words_in (take k (lines_of s)))
  pub marked : marks' ≡ sets marks 0 (map mark_of (take k (lines_of s)))
