-- What the private functions state. Assumes nothing.
use Rattle.std.specs.Prelude.{ℕ, ◌+◌, ◌*◌, cond as pick, List, [], ◌≡◌, eqb, ltb, length, Option, Some, None, Result, Ok, Err}
use Rattle.std.proofs.lemmas.List.Edits.{sets}
use Rattle.text.specs.Lines.{passed_by}
use Rattle.probes.specs.Records.{records_of, words_of, time_of}
use Rattle.probes.specs.Joins.{number_of, join_of}
use Rattle.lanes.specs.declared.filling.Filled.{Filled}
use Rattle.lanes.specs.declared.filling.LineRefusal.{LineRefusal}
use Rattle.lanes.specs.declared.filling.LineRefusal.TheVariants.{Unreadable, TimeFalls}
use Rattle.probes.specs.declared.joining.Refusal.{Refusal}
use Rattle.lanes.specs.declared.turning.Turned.{Turned}
use Rattle.lanes.specs.declared.turning.Printed.{Printed}
use Rattle.lanes.specs.declared.turning.Left.{Left}
use Rattle.lanes.specs.Program.{text_of}
use Rattle.lanes.specs.Refusals.{line_refused}
use Rattle.lanes.specs.Parts.{read_in, part_of, left_first, left_second, third_words, turn_text, turned}

-- the numbers of a line, if it is nine and its time is not below the last
unfoldable pub accepted : Option (List ℕ) → ℕ → Result (List ℕ) LineRefusal
accepted None last = Err Unreadable
accepted (Some x) last = pick (ltb (time_of x) last) (Err TimeFalls) (Ok x)

-- what `fill` returns
unfoldable pub filled : ℕ → List ℕ → ℕ → Filled
filled t s k =
    record {
      count = 9 * length (read_in k s t).records;
      next = passed_by (length (read_in k s t).records) s;
      time = (read_in k s t).time;
      refused = line_refused (read_in k s t).number;
    }

-- ---- a turn, of two lists a and b

-- the text of their join: where one is empty, that of the other
unfoldable pub join_text : List ℕ → List ℕ → ℕ → List ℕ
join_text a b room = pick (eqb (number_of a b room) 0) (text_of (part_of (records_of a) (records_of b)).printed) []

-- what is left of the first, and of the second
abbrev pub kept_first : List ℕ → List ℕ → List ℕ
kept_first a b = words_of (part_of (records_of a) (records_of b)).first

abbrev pub kept_second : List ℕ → List ℕ → List ℕ
kept_second a b = words_of (part_of (records_of a) (records_of b)).second

-- how many words a join leaves, and how many bytes were put; none where it is refused
abbrev pub left_in : Result Printed Refusal → ℕ
left_in (Ok p) = p.left
left_in (Err why) = 0

abbrev pub written_in : Result Printed Refusal → ℕ
written_in (Ok p) = p.written
written_in (Err why) = 0

-- what `join_print` leaves in the third list and in the bytes of output: the number of its result, the words left, the bytes put
pub record Prints (a b third out third' out' : List ℕ) (number rest count : ℕ) : Type 0 where
  pub numbered : number ≡ number_of a b (length third)
  pub left : number_of a b (length third) ≡ 0 → rest ≡ length (kept_first a b) + length (kept_second a b)
  pub written : count ≡ length (join_text a b (length third))
  pub bytes : out' ≡ sets out 0 (join_text a b (length third))
  pub stored : third' ≡ sets third 0 (words_of (join_of a b (length third)).written)

-- two lists that are joined with no refusal, and how many words that leaves
pub record Leaves (a b : List ℕ) (left : ℕ) : Type 0 where
  pub room : ℕ
  pub accepted : number_of a b room ≡ 0
  pub words : left ≡ length (kept_first a b) + length (kept_second a b)

-- what `move_rest` leaves in both, and returns
pub record MovesUp (a b a' b' : List ℕ) (r : Left) : Type 0 where
  pub firsts : r.first ≡ length (kept_first a b)
  pub seconds : r.second ≡ length (kept_second a b)
  pub moved_first : a' ≡ sets a 0 (kept_first a b)
  pub moved_second : b' ≡ sets b 0 (kept_second a b)

-- what `turn_both` gives for two lists: as `Turns`, of all of both
pub record TurnsBoth (a b third out a' b' third' out' : List ℕ) (r : Turned) : Type 0 where
  pub returned : r ≡ turned a b (length third) (length out)
  pub firsts : a' ≡ sets a 0 (left_first a b (length third) (length out))
  pub seconds : b' ≡ sets b 0 (left_second a b (length third) (length out))
  pub thirds : third' ≡ sets third 0 (third_words a b (length third) (length out))
  pub text : out' ≡ sets out 0 (turn_text a b (length third) (length out))
