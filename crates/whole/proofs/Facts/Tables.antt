-- Laws of the table of sums. Assumes nothing.
use Prim.Native.Nat.{ℕ, zero, suc, ◌+◌, ◌*◌, ◌≤◌, ◌<◌}
use mathlib.Core.Bool.{Bool, ◌&&◌, and-false}
use mathlib.Core.Path.{◌≡◌, refl, sym, ap, ◌∙◌}
use mathlib.Core.Logic.{◌≢◌}
use mathlib.Core.List.{List}
use Rattle.std.proofs.Common.{take, drop, false}
use Rattle.std.specs.List.{list_all}
use Rattle.std.proofs.lemmas.List.Folds.{list_all_more}
use native.Mathlib.Numerals.{add-one}
use Rattle.std.proofs.lemmas.List.{get_or-take, get_or-drop, take_all}
use native.Mathlib.Omega.{arith}
use native.Mathlib.Decide.{ℕ_discrete}
use lib.ListN.{length, get_or, set}
use lib.Seq.{get_or-set_same, get_or-set_other}
use borrow.Author.Tests.{ne_eqb}
use Rattle.whole.specs.Types.{Cell, Message, State}
use Rattle.rules.specs.Cells.{zero_cell}
use Rattle.whole.specs.Tallies.{nine_fine}
use Rattle.rules.specs.Tools.{all_to, sum_to}
use Rattle.rules.proofs.Laws.Sums.{sum_same}
use Rattle.rules.proofs.Facts.Loops.{all_same}
use Rattle.rules.specs.States.{bears, cell_at}
use Rattle.rules.specs.WellFormed.{counted, held, borne, in_cells, cell_fine, line_fine}

-- a message counts for no other line than its own
counted_other : (k q : ℕ) (m : Message) → m.line ≢ k → counted k q borne m ≡ 0
unfolding counted bears
counted_other k q m d = rw (ne_eqb m.line k d, and-false)

pub message_adds : (l : List ℕ) (q : ℕ → ℕ) (m : Message) {more : ℕ} → m.line < length l → more ≡ counted m.line (q m.line) borne m
    → (k : ℕ) → get_or (set l m.line (get_or l m.line 0 + more)) k 0 ≡ get_or l k 0 + counted k (q k) borne m
message_adds l q m fits h k =
    elim (ℕ_discrete k m.line) [
      | yes e ↦ rw (e, get_or-set_same l m.line (get_or l m.line 0 + _) 0 fits, h)
      | no d ↦ rw (get_or-set_other l m.line k (get_or l m.line 0 + _) 0 d) (omega (arith, counted_other k (q k) m (λ e. d (sym e))))
    ]

pub message_adds_none : (l : List ℕ) (q : ℕ → ℕ) (m : Message) → 16 ≤ m.line → (k : ℕ) → k < 16 → get_or l k 0 ≡ get_or l k 0 + counted k (q k) borne m
message_adds_none l q m far k below = omega (arith, counted_other k (q k) m (λ e. omega arith))

pub message_adds_few : (l : List ℕ) (q : ℕ → ℕ) (m : Message) {more : ℕ} → m.line < length l → more ≡ counted m.line (q m.line) borne m → more ≤ 255
    → (k : ℕ) → get_or (set l m.line (get_or l m.line 0 + more)) k 0 ≤ get_or l k 0 + 255
message_adds_few l q m {more} fits h few k =
    elim (ℕ_discrete k m.line) [
      | yes e ↦ rw (e, get_or-set_same l m.line (get_or l m.line 0 + more) 0 fits) (omega arith)
      | no d ↦ rw (get_or-set_other l m.line k (get_or l m.line 0 + more) 0 d) (omega arith)
    ]

-- the nine cells of a line, as the pass over the cells cuts them out
abbrev pub cut : State → ℕ → ℕ → List Cell
cut s line count = take count (drop (line * 9) s.cells)

cut_at : (s : State) (line count n : ℕ) → count ≡ 9 → n < 9 → get_or (cut s line count) n zero_cell ≡ cell_at s line n
unfolding cell_at
cut_at s line count n e h = get_or-take count (drop (line * 9) s.cells) n zero_cell (omega arith) ∙ get_or-drop (line * 9) s.cells n zero_cell

pub nine_is : (s : State) (line count : ℕ) → count ≡ 9 → nine_fine s.sizes line (cut s line count) ≡ line_fine s line
nine_is s line count e = all_same 9 (λ n l. ap (cell_fine s.sizes line n) (cut_at s line count n e l))

pub nine_sum : (s : State) (line count : ℕ) → count ≡ 9 → sum_to 9 (λ n. held (get_or (cut s line count) n zero_cell)) ≡ in_cells s line held
unfolding in_cells
nine_sum s line count e = sum_same 9 (λ n l. ap held (cut_at s line count n e l))

-- where one of them fails, not all pass
pub all_fails : (k i : ℕ) (p : ℕ → Bool) → i < k → p i ≡ false → all_to k p ≡ false
unfolding all_to
all_fails zero i p h e = absurd (omega arith)
all_fails (suc k) i p h e =
    elim (ℕ_discrete i k) [
      | yes s ↦ let q : p k ≡ false = ap p (sym s) ∙ e in rw (q, and-false)
      | no d ↦ let q = all_fails k i p (omega arith) e in rw q
    ]

-- the first elements of a list all pass
list_all_to : {A : Type 0} (d : A) (p : A → Bool) (xs : List A) (i : ℕ) → i ≤ length xs → list_all p (take i xs) ≡ all_to i (λ k. p (get_or xs k d))
unfolding all_to
list_all_to d p xs zero h = refl
list_all_to d p xs (suc i) h =
    sym (ap (λ j. list_all p (take j xs)) (add-one i)) ∙ list_all_more p xs i d (omega arith) ∙ ap (λ b. b && p (get_or xs i d)) (list_all_to d p xs i (omega arith))

pub list_all_16 : {A : Type 0} (d : A) (p : A → Bool) (xs : List A) → length xs ≡ 16 → list_all p xs ≡ all_to 16 (λ k. p (get_or xs k d))
list_all_16 d p xs long = sym (ap (list_all p) (take_all 16 xs (omega arith))) ∙ list_all_to d p xs 16 (omega arith)
