-- A part of the input, a number of whole lines. Assumes nothing.
use Rattle.std.specs.Prelude.{cond as pick, ℕ, ◌/◌, min, List, [], map, length, take}
use Rattle.std.proofs.lemmas.List.Edits.{sets}
use Rattle.rules.specs.Runs.{answers_of, events_of, words_of}
use Rattle.text.specs.Lines.{lines_of, passed_by}
use Rattle.text.specs.Chunks.{mark_of, words_in}
use Rattle.lines.specs.declared.kept.Kept.{Kept}
use Rattle.lines.specs.declared.kept.Advanced.{Advanced}
use Rattle.lines.specs.Program.{kept_by, printed_by}

-- the lists that a call is lent: for the words of events, the marks of lines, the words of answers, the bytes of output
pub record Lent : Type 0 where
  pub words : List ℕ
  pub marks : List ℕ
  pub answers : List ℕ
  pub out : List ℕ

-- these four
abbrev pub lent : List ℕ → List ℕ → List ℕ → List ℕ → Lent
lent ws ms xs ds = record { words = ws; marks = ms; answers = xs; out = ds }

-- how many lines after the start line they have room for: eight words, a mark and three answer words for each
abbrev pub room_in : Lent → ℕ
room_in l = min (length l.words / 8) (min (length l.marks) (length l.answers / 3))

-- how many lines a call takes at most: one for each 33 bytes of output, and as many as the other lists have room for, or the start line alone
abbrev pub most_lines : Kept → Lent → ℕ
most_lines k l = min (length l.out / 33) (pick k.started (room_in l) 1)

-- the lines that it takes
abbrev pub lines_taken : Kept → List ℕ → Lent → List (List ℕ)
lines_taken k s l = take (most_lines k l) (lines_of s)

-- those of them that come after the start line
abbrev pub later_lines : Kept → List ℕ → Lent → List (List ℕ)
later_lines k s l = pick k.started (lines_taken k s l) []

-- what it returns
unfoldable pub advanced : Kept → List ℕ → Lent → Advanced
advanced k s l =
    record {
      kept = kept_by k (lines_taken k s l);
      read = passed_by (most_lines k l) s;
      written = length (printed_by k (lines_taken k s l));
    }

-- what the lists hold after it: of the later lines the words, marks and answers, of all lines what is printed; past these what they held
unfoldable pub lent_after : Kept → List ℕ → Lent → Lent
lent_after k s l =
    record {
      words = sets l.words 0 (words_in (later_lines k s l));
      marks = sets l.marks 0 (map mark_of (later_lines k s l));
      answers = sets l.answers 0 (words_of (answers_of k.state (events_of (words_in (later_lines k s l)))));
      out = sets l.out 0 (printed_by k (lines_taken k s l));
    }
