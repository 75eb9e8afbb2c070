-- How far one call goes. Assumes nothing.
use Prim.Native.Nat.{ℕ, ◌*◌, ◌≤◌}
use mathlib.Core.List.{List, [], ◌∷◌}
use native.Mathlib.Omega.{arith}
use lib.ListN.{length, length-append, length-take}
use Rattle.rules.specs.declared.events.Answer.{Answer}
use Rattle.text.specs.Lines.{lines_of}
use Rattle.text.proofs.Sequences.{passed_by_within}
use Rattle.writing.proofs.Puts.{answer_short}
use Rattle.lines.specs.declared.kept.Kept.{Kept}
use Rattle.lines.specs.Program.{kept_after, line_does, line_text, printed_by}
use Rattle.lines.specs.Chunks.{Lent, most_lines, lines_taken, advanced}

text_short : (a : Answer) → length (line_text a) ≤ 33
unfolding line_text
text_short a = answer_short a.number a.word a.slot

printed_short : (ls : List (List ℕ)) (k : Kept) → length (printed_by k ls) ≤ 33 * length ls
unfolding printed_by
printed_short [] k = omega arith
printed_short (l ∷ ls) k =
    let a = text_short (line_does k l).answer in
    let i = printed_short ls (kept_after k l) in
    let e = length-append (line_text (line_does k l).answer) (printed_by (kept_after k l) ls) in
    omega arith

module _ (k : Kept) (s : List ℕ) (l : Lent) where
  pub written_fits : length (printed_by k (lines_taken k s l)) ≤ length l.out
  written_fits =
      let p = printed_short (lines_taken k s l) k in
      let e = length-take (most_lines k l) (lines_of s) in
      omega arith

  pub read_within : (advanced k s l).read ≤ length s
  unfolding advanced
  read_within = passed_by_within (most_lines k l) s
