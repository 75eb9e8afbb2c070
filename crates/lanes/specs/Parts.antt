-- A part of each file: how it is read, and one turn of the program. Assumes nothing.
use Rattle.std.specs.Prelude.{ℕ, ◌+◌, ◌*◌, ◌/◌, Bool, ◌&&◌, ◌||◌, cond as pick, List, [], ◌∷◌, ◌≡◌, eqb, leb, ltb, length, take, drop}
use Rattle.std.proofs.lemmas.List.Edits.{sets}
use Rattle.text.specs.Lines.{lines_of, passed_by}
use Rattle.held.specs.Wholes.{whole_of}
use Rattle.probes.specs.Records.{records_of, words_of}
use Rattle.probes.specs.Joins.{Joined, joined, number_for, number_of, join_of}
use Rattle.lanes.specs.declared.loading.Loaded.{Loaded}
use Rattle.lanes.specs.declared.turning.Turned.{Turned}
use Rattle.lanes.specs.Files.{Read, read_lines}
use Rattle.lanes.specs.Program.{text_of}
use Rattle.lanes.specs.Refusals.{number_of_line, number_in, line_refused, turn_refused}

-- ---- a part is read

-- the bytes whose lines can be read: the whole lines; at the end of the file, or where an unfinished line fills the room, all
unfoldable pub ready_part : Bool → ℕ → List ℕ → List ℕ
ready_part last room s = pick (last || (eqb (whole_of s) 0 && leb room (length s))) s (take (whole_of s) s)

-- what at most k lines give after the time t
abbrev pub read_in : ℕ → List ℕ → ℕ → Read
read_in k s t = read_lines (take k (lines_of s)) t

-- what is read of the bytes s, in a buffer of so much room, with room for k records
unfoldable pub part_read : ℕ → List ℕ → Bool → ℕ → ℕ → Read
part_read t s last room k = read_in k (ready_part last room s) t

-- the bytes that are still to be read: a line that is refused is the first of them
unfoldable pub unread : ℕ → List ℕ → Bool → ℕ → ℕ → List ℕ
unread t s last room k = drop (passed_by (length (part_read t s last room k).records) (ready_part last room s)) s

-- what `load` returns
unfoldable pub loaded : ℕ → List ℕ → Bool → ℕ → ℕ → Loaded
loaded t s last room k =
    record {
      count = 9 * length (part_read t s last room k).records;
      held = length (unread t s last room k);
      time = (part_read t s last room k).time;
      refused = line_refused (part_read t s last room k).number;
    }

-- what `load` gives for the first `held` bytes of a buffer: what it returns, with the number of the line that is refused, the words of the records read, and the bytes still to be read at the front
pub record Loads (t : ℕ) (buf : List ℕ) (held : ℕ) (last : Bool) (words words' buf' : List ℕ) (r : Loaded) : Type 0 where
  pub returned : r ≡ loaded t (take held buf) last (length buf) (length words / 9)
  pub number : number_in number_of_line r.refused ≡ (part_read t (take held buf) last (length buf) (length words / 9)).number
  pub records : words' ≡ sets words 0 (words_of (part_read t (take held buf) last (length buf) (length words / 9)).records)
  pub bytes : buf' ≡ sets buf 0 (unread t (take held buf) last (length buf) (length words / 9))

-- ---- a turn

-- what a turn prints of a part of each file, and what it leaves of each
pub record Part : Type 0 where
  pub printed : List (List ℕ)
  pub first : List (List ℕ)
  pub second : List (List ℕ)

-- what a join writes and leaves
abbrev pub part_by : Joined → List (List ℕ) → List (List ℕ) → Part
part_by j xs ys = record { printed = j.written; first = drop j.firsts xs; second = drop j.seconds ys }

-- where a part is empty its file is at its end, and all of the other is printed
unfoldable pub part_of : List (List ℕ) → List (List ℕ) → Part
part_of [] ys = record { printed = ys; first = []; second = [] }
part_of (x ∷ xs) [] = record { printed = x ∷ xs; first = []; second = [] }
part_of (x ∷ xs) (y ∷ ys) = part_by (joined (x ∷ xs) (y ∷ ys)) (x ∷ xs) (y ∷ ys)

-- the number of a turn: 21, no room for the text of both; else that of the join
unfoldable pub turn_number : List ℕ → List ℕ → ℕ → ℕ → ℕ
turn_number a b room bytes = pick (ltb (bytes / 11) (length a + length b)) 21 (number_of a b room)

-- the text that a turn puts: a refused one puts nothing
unfoldable pub turn_text : List ℕ → List ℕ → ℕ → ℕ → List ℕ
turn_text a b room bytes = pick (eqb (turn_number a b room bytes) 0) (text_of (part_of (records_of a) (records_of b)).printed) []

-- what it leaves of the first list, and of the second: a refused one leaves both
unfoldable pub left_first : List ℕ → List ℕ → ℕ → ℕ → List ℕ
left_first a b room bytes = pick (eqb (turn_number a b room bytes) 0) (words_of (part_of (records_of a) (records_of b)).first) a

unfoldable pub left_second : List ℕ → List ℕ → ℕ → ℕ → List ℕ
left_second a b room bytes = pick (eqb (turn_number a b room bytes) 0) (words_of (part_of (records_of a) (records_of b)).second) b

-- the words that it puts into the third list: those of the join
unfoldable pub third_words : List ℕ → List ℕ → ℕ → ℕ → List ℕ
third_words a b room bytes = pick (eqb (turn_number a b room bytes) 0) (words_of (join_of a b room).written) []

-- what `turn` returns
unfoldable pub turned : List ℕ → List ℕ → ℕ → ℕ → Turned
turned a b room bytes =
    record {
      refused = turn_refused (turn_number a b room bytes);
      first = length (left_first a b room bytes);
      second = length (left_second a b room bytes);
      written = length (turn_text a b room bytes);
    }

-- what `turn` gives for the first n words of one list and the first m of another: what it returns, with its number, what is left at the front of both, the words of the join, and its text
pub record Turns (first : List ℕ) (n : ℕ) (second : List ℕ) (m : ℕ) (third out first' second' third' out' : List ℕ) (r : Turned) : Type 0 where
  pub returned : r ≡ turned (take n first) (take m second) (length third) (length out)
  pub number : number_in number_for r.refused ≡ turn_number (take n first) (take m second) (length third) (length out)
  pub firsts : first' ≡ sets first 0 (left_first (take n first) (take m second) (length third) (length out))
  pub seconds : second' ≡ sets second 0 (left_second (take n first) (take m second) (length third) (length out))
  pub thirds : third' ≡ sets third 0 (third_words (take n first) (take m second) (length third) (length out))
  pub text : out' ≡ sets out 0 (turn_text (take n first) (take m second) (length third) (length out))
