-- Lines in sequence. Assumes nothing.
use Prim.Native.Nat.{ℕ}
use mathlib.Core.Path.{◌≡◌, refl, sym}
use mathlib.Core.List.{List, [], ◌∷◌, ◌++◌, append_assoc}
use Rattle.lines.specs.declared.kept.Kept.{Kept}
use Rattle.lines.specs.Program.{kept_after, kept_by, printed_by, line_text, line_does}

pub printed_append : (a b : List (List ℕ)) (k : Kept) → printed_by k (a ++ b) ≡ printed_by k a ++ printed_by (kept_by k a) b
unfolding printed_by kept_by
printed_append [] b k = refl
printed_append (l ∷ a) b k = rw (printed_append a b (kept_after k l)) (sym (append_assoc (line_text (line_does k l).answer) _ _))
