-- A recreation keeps the invariant: the word that it takes is the line's last. Assumes nothing.
use Prim.Native.Nat.{ℕ, ◌≤◌, ◌<◌}
use mathlib.Core.Path.{◌≡◌, refl, sym, subst}
use mathlib.Core.Bool.{Bool, true, false, ◌&&◌}
use native.Mathlib.Omega.{arith}
use native.Mathlib.Decide.{ℕ_discrete}
use borrow.Author.Tests.{ltb-true, ltb-false, eqb-true, eqb-false, eq-eqb}
use lib.Dec.{eqb, ltb}
use Rattle.coherence.specs.Types.{Cell, State, Event}
use Rattle.rules.specs.States.{cell_at, serial_at}
use Rattle.rules.specs.WellFormed.{in_cells}
use Rattle.rules.specs.Tools.{first_to}
use Rattle.rules.specs.Refusals.{lowest, copyless, backupless, nothing_left}
use Rattle.rules.specs.Effects.{word_for, recreate_of}
use Rattle.rules.proofs.Laws.Bools.{bit, split, and_left, and_right, bit_of, bit_not, of_bit}
use Rattle.rules.proofs.Laws.Sums.{sum_zero, first_hit, first_none, first_le}
use Rattle.rules.proofs.Laws.Views.{lines_of, total_of, Sized}
use Rattle.rules.proofs.Laws.Renewals.{other_cells, other_messages}
use Rattle.rules.proofs.Keeps.Well.{Well, place, marks}
use Rattle.rules.proofs.Keeps.Accepted.{Timeout}
use Rattle.rules.proofs.Keeps.Renewals.{change, sole}
use Rattle.coherence.proofs.Invariant.{Carries, CountsOf, Kept, Held, kept_same, kept_sole}

module _ (s : State) (l : ℕ) (mark : Cell → Bool) where
  -- the lowest node with a mark has it
  pub lowest_has : lowest (cell_at s l) mark < 9 → mark (cell_at s l (lowest (cell_at s l) mark)) ≡ true
  unfolding lowest
  lowest_has h = first_hit 9 (λ n. mark (cell_at s l n)) h

  -- if there is none, no node has it, and the marks' sum is 0
  pub lowest_unmarked : 9 ≤ lowest (cell_at s l) mark → (j : ℕ) → j < 9 → mark (cell_at s l j) ≡ false
  unfolding lowest
  lowest_unmarked h = first_none 9 (λ n. mark (cell_at s l n)) h

  lowest_none : 9 ≤ lowest (cell_at s l) mark → in_cells s l (λ c. bit (mark c)) ≡ 0
  unfolding in_cells
  lowest_none h = sum_zero 9 (λ j hj. bit_not (mark (cell_at s l j)) (lowest_unmarked h j hj))

  -- a search that does not end at 9 has found a node
  pub lowest_found : eqb (lowest (cell_at s l) mark) 9 ≡ false → lowest (cell_at s l) mark < 9
  unfolding lowest
  lowest_found h =
      let d = eqb-false (first_to 9 (λ n. mark (cell_at s l n))) 9 h in
      omega (arith, first_le 9 (λ n. mark (cell_at s l n)))

  -- one that has found none ends at 9
  lowest_ends : 9 ≤ lowest (cell_at s l) mark → eqb (lowest (cell_at s l) mark) 9 ≡ true
  unfolding lowest
  lowest_ends h = eq-eqb (first_to 9 (λ n. mark (cell_at s l n))) 9 (omega (arith, first_le 9 (λ n. mark (cell_at s l n))))

-- a line that is kept has an owner or a backup
pub something_left : (s : State) (l : ℕ) → CountsOf s l → nothing_left (cell_at s l) ≡ false
unfolding copyless backupless
something_left s l k =
    let o = lowest (cell_at s l) (λ c. c.owner) in
    let v = lowest (cell_at s l) (λ c. c.valid) in
    let b = lowest (cell_at s l) (λ c. c.backup) in
    split (eqb o 9 && eqb v 9 && eqb b 9)
    (λ t.
    let ho = eqb-true o 9 (and_left _ _ (and_left (eqb o 9 && eqb v 9) (eqb b 9) t)) in
    let hb = eqb-true b 9 (and_right (eqb o 9 && eqb v 9) (eqb b 9) t) in
    absurd (omega (arith, lowest_none s l (λ c. c.owner) (omega arith), lowest_none s l (λ c. c.backup) (omega arith), k.copy)))
    (λ f. f)

-- the word that a recreation for a node takes is the last: where the line has no copy, the node has a backup
pub last_word : {s : State} → Well s → (l node : ℕ) → l < 16 → node < 9
    → (copyless (cell_at s l) ≡ true → (cell_at s l node).backup ≡ true)
    → (x : ℕ) → Kept s l x → word_for (cell_at s l node) (cell_at s l) ≡ x
unfolding word_for copyless
last_word {s} w l node hl hn backed x k =
    let o = lowest (cell_at s l) (λ c. c.owner) in
    let v = lowest (cell_at s l) (λ c. c.valid) in
    split (ltb o 9)
    (λ t.
    let h = ltb-true o 9 t in
    let own = bit_of (cell_at s l o).owner (lowest_has s l (λ c. c.owner) h) in
    rw t (k.words o h (of_bit (cell_at s l o).valid (omega (arith, (marks w l o hl h).owner_valid)))))
    (λ f.
    let ownerless = ltb-false o 9 f in
    split (ltb v 9) (λ t. let h = ltb-true v 9 t in rw (f, t) (k.words v h (lowest_has s l (λ c. c.valid) h)))
    (λ g.
    let b = backed (rw (lowest_ends s l (λ c. c.owner) ownerless, lowest_ends s l (λ c. c.valid) (ltb-false v 9 g))) in
    simp (f, g, b) (k.saved (lowest_none s l (λ c. c.owner) ownerless) node hn b)))

pub recreate_held : {s : State} (z : Sized s) (w : Well s) (e : Event) → Timeout s e → (W : ℕ → ℕ) → Held s W
    → Held (recreate_of s e).state W
unfolding Held
recreate_held {s} z w e t W h k hk =
    let ch = change z w e t in
    let p = place w {i = 0} t.named.line t.named.node (omega arith) in
    elim (ℕ_discrete k e.line) [
      | yes y ↦ subst (λ j. Kept (recreate_of s e).state j (W j)) (sym y)
          (kept_sole (W e.line) (sole z w e t) (sym (total_of ch.sizes)) refl refl refl (last_word w e.line e.node p.line16 p.node9 t.copy (W e.line) (h e.line t.named.line)))
      | no d ↦ (let o = h k (subst (λ y. k < y) (lines_of ch.sizes) hk) in
          kept_same ch.sizes (other_cells ch k d) (other_messages ch k d) (λ j hj. ch.other_line k d j hj)
          (λ i hi. rw (ch.other_serial k d) (subst (Carries k (serial_at s k) (W k)) (sym (ch.slot i)) (o.carried i hi)))
          o)
    ]
