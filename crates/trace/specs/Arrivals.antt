-- An input that arrives in parts, which cut lines anywhere, and the turns that answer it. Assumes nothing.
use Rattle.std.specs.Prelude.{ℕ, Bool, true, false, cond as pick, List, [], ◌∷◌, ◌++◌, eqb, length, take, drop}
use Rattle.held.specs.Wholes.{whole_of}
use Rattle.text.specs.Lines.{lines_of, passed_by}
use Rattle.lines.specs.declared.kept.Kept.{Kept}
use Rattle.trace.specs.declared.turning.Turned.{Turned}
use Rattle.lines.specs.Program.{kept_by, printed_by}
use Rattle.lines.specs.Chunks.{Lent, most_lines}

-- the bytes that can be answered: the whole lines, and at the end of input all
abbrev pub ready_in : Bool → List ℕ → List ℕ
ready_in last s = pick last s (take (whole_of s) s)

-- what is held: of an unfinished line alone 97 bytes, since none that long is readable, whatever follows
unfoldable pub clipped : List ℕ → List ℕ
clipped s = pick (eqb (whole_of s) 0) (take 97 s) s

-- the lines that a turn answers, at most so many
abbrev pub answered_in : ℕ → Bool → List ℕ → List (List ℕ)
answered_in most last s = take most (lines_of (ready_in last s))

-- what is held after it
unfoldable pub held_after : ℕ → Bool → List ℕ → List ℕ
held_after most last s = clipped (drop (passed_by most (ready_in last s)) s)

-- what a turn returns, with lists that have so much room
unfoldable pub turned : Kept → List ℕ → Bool → Lent → Turned
turned k s last l =
    record {
      kept = kept_by k (answered_in (most_lines k l) last s);
      held = length (held_after (most_lines k l) last s);
      written = length (printed_by k (answered_in (most_lines k l) last s));
    }

-- what turns print, from what is kept and held, for the parts to come
pub data Prints : Kept → List ℕ → List (List ℕ) → List ℕ → Type 0 where
  -- nothing is held and nothing comes
  ended : (k : Kept) → Prints k [] [] []
  -- a part, which may be of no bytes, stands behind what was held
  part : (k : Kept) (h p : List ℕ) (ps : List (List ℕ)) (out : List ℕ) (most : ℕ)
      → Prints (kept_by k (answered_in most false (h ++ p))) (held_after most false (h ++ p)) ps out
      → Prints k h (p ∷ ps) (printed_by k (answered_in most false (h ++ p)) ++ out)
  -- no part is to come
  last : (k : Kept) (h out : List ℕ) (most : ℕ)
      → Prints (kept_by k (answered_in most true h)) (held_after most true h) [] out
      → Prints k h [] (printed_by k (answered_in most true h) ++ out)
