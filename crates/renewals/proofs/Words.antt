-- A recreation as the library searches a line's nine cells. Assumes nothing.
use Rattle.std.proofs.Common.{ℕ, ◌≡◌, ◌≤◌, ◌<◌, length, List, Bool, true, false, not, ◌||◌, cond as pick, Option, None, Some, MatchOption, Bor, Iter, eqb, arith, refl, sym, ap, ◌∙◌, lt-ltb, le-ltb, eq-eqb, ne_eqb}
use Rattle.std.proofs.iter.Yields.{fronts}
use Rattle.std.proofs.lemmas.Iterator.{YieldsList-from_slice, first_from_find}
use Rattle.std.specs.Bool.{MatchBool, ⊤}
use Rattle.std.specs.Fn.{CalledAt}
use Rattle.std.specs.Iterator.{YieldsThen}
use Rattle.std.specs.Slice.Iter.{iter_rest}
use Rattle.std.specs.List.{AllWithin, FoldsTo, HoldsAt}
use denote.Param.Members.{Mut}
use mathlib.Core.Bool.{and-false}
use Rattle.rules.specs.declared.cells.Cell.{Cell}
use Rattle.rules.specs.Cells.{zero_cell}
use Rattle.rules.specs.Refusals.{lowest, copyless, backupless}
use Rattle.rules.specs.Effects.{word_for}
use Rattle.rules.proofs.Laws.Bools.{split, clash, or_left, or_right}
use Rattle.rules.proofs.Laws.Sums.{first_is, first_all, first_none}
use Rattle.renewals.specs.Nines.{nth}

-- what `find` and `any` say of a mark
abbrev pub Found : List Cell → (Cell → Bool) → Option (Bor Cell) → Type 0
Found nine p r =
    MatchOption r (AllWithin (λ c. p c ≡ false) nine 0 (length nine))
    (λ y. (p y.now ≡ true) × (i : ℕ) × (i < length nine) × HoldsAt (λ c. c ≡ y.now) nine i × AllWithin (λ c. p c ≡ false) nine 0 i)

abbrev pub Asked : List Cell → (Cell → Bool) → Bool → Type 0
Asked nine p r =
    MatchBool r ((i : ℕ) × (i < length nine) × HoldsAt (λ c. p c ≡ true) nine i) (AllWithin (λ c. p c ≡ false) nine 0 (length nine))

module _ (nine : List Cell) (p : Cell → Bool) {F : Type 0} {s : Iter Cell} (u : Iter Cell) (f : F) where
  pub by_find : {g : Mut F (Bor (Bor Cell) × Unit {0}) Bool} (r : Option (Bor Cell))
      → (xs : List (Bor Cell)) × (j : F) × YieldsThen fronts s xs r u × FoldsTo (λ p x q. CalledAt g p x false q) f xs j × MatchOption r ⊤ (λ x. (h : F) × CalledAt g j x true h)
      → iter_rest s ≡ nine → ((x : Bor Cell) (b : Bool) (q : F) → CalledAt g f x b q → (q ≡ f) × (b ≡ p x.now)) → Found nine p r
  by_find r ran e calls =
      first_from_find u f r (λ c. p c ≡ true) (λ c. p c ≡ false) ran (YieldsList-from_slice nine e) (λ x q k. sym (calls x true q k).1)
      (λ x q k. ((calls x false q k).0, sym (calls x false q k).1))

-- the word, by the lowest-numbered cells
module _ (x : Cell) (cells : ℕ → Cell) {o : ℕ} (ho : o ≡ lowest cells (λ c. c.owner)) where
  pub word_owner : o < 9 → (cells o).word ≡ word_for x cells
  unfolding word_for
  word_owner l = rw (← ho, lt-ltb o 9 l)

  module _ (no : 9 ≤ o) {v : ℕ} (hv : v ≡ lowest cells (λ c. c.valid)) where
    pub word_valid : v < 9 → (cells v).word ≡ word_for x cells
    unfolding word_for
    word_valid l = rw (← ho, le-ltb o 9 no, ← hv, lt-ltb v 9 l)

    pub word_own : 9 ≤ v → pick x.backup x.saved 0 ≡ word_for x cells
    unfolding word_for
    word_own l = rw (← ho, le-ltb o 9 no, ← hv, le-ltb v 9 l)

module _ (nine : List Cell) (nodes : length nine ≡ 9) where
  -- the lowest-numbered cell that has the mark, and where none has it
  lowest_some : (p : Cell → Bool) (r : Option (Bor Cell)) (y : Bor Cell) → Found nine p r → r ≡ Some y
      → (lowest (nth nine) p < 9) × (nth nine (lowest (nth nine) p) ≡ y.now)
  unfolding lowest
  lowest_some p r y h e =
      let f = rw e at h in
      let i = f.1 in
      let at : i < 9 = omega arith in
      let here : nth nine i ≡ y.now = f.3 zero_cell in
      let is : lowest (nth nine) p ≡ i = first_is 9 (λ n. p (nth nine n)) i at (rw here f.0) (λ j b. f.4 j zero_cell (omega arith) b) in
      (omega arith, rw is here)

  lowest_none : (p : Cell → Bool) (r : Option (Bor Cell)) → Found nine p r → ((y : Bor Cell) → r ≡ Some y → ⊥) → lowest (nth nine) p ≡ 9
  unfolding lowest
  lowest_none p None h n = first_all 9 (λ n. p (nth nine n)) (λ j b. h j zero_cell (omega arith) (omega arith))
  lowest_none p (Some y) h n = absurd (n y refl)

  -- a cell has the mark, or none
  asked_some : (p : Cell → Bool) (i : ℕ) → i < 9 → p (nth nine i) ≡ true → eqb (lowest (nth nine) p) 9 ≡ false
  unfolding lowest
  asked_some p i b h =
      ne_eqb (lowest (nth nine) p) 9 (λ e. clash h (first_none 9 (λ n. p (nth nine n)) (omega arith) i b))

  asked_none : (p : Cell → Bool) → ((i : ℕ) → i < 9 → p (nth nine i) ≡ false) → eqb (lowest (nth nine) p) 9 ≡ true
  unfolding lowest
  asked_none p h = eq-eqb (lowest (nth nine) p) 9 (first_all 9 (λ n. p (nth nine n)) h)

  pub no_copy : (r : Bool) → Asked nine (λ c. c.owner || c.valid) r → not r ≡ copyless (nth nine)
  unfolding copyless
  no_copy true (i, b, h) =
      let at : i < 9 = omega arith in
      let has : (nth nine i).owner || (nth nine i).valid ≡ true = h zero_cell in
      split (nth nine i).owner (λ o. rw (asked_some (λ c. c.owner) i at o))
      (λ n. rw (asked_some (λ c. c.valid) i at (rw n at has)) (sym (and-false _)))
  no_copy false h =
      rw (asked_none (λ c. c.owner) (λ i b. or_left _ _ (h i zero_cell (omega arith) (omega arith))), asked_none (λ c. c.valid) (λ i b. or_right _ _ (h i zero_cell (omega arith) (omega arith))))

  pub no_backup : (r : Bool) → Asked nine (λ c. c.backup) r → not r ≡ backupless (nth nine)
  unfolding backupless
  no_backup true (i, b, h) = rw (asked_some (λ c. c.backup) i (omega arith) (h zero_cell))
  no_backup false h = rw (asked_none (λ c. c.backup) (λ i b. h i zero_cell (omega arith) (omega arith)))

  -- the word, by what the two searches find
  module _ (x : Cell) (o : Option (Bor Cell)) (ho : Found nine (λ c. c.owner) o) where
    pub found_owner : (y : Bor Cell) → o ≡ Some y → y.now.word ≡ word_for x (nth nine)
    found_owner y e =
        let l = lowest_some (λ c. c.owner) o y ho e in
        sym (ap (λ (c : Cell). c.word) l.1) ∙ word_owner x (nth nine) refl l.0

    module _ (no : (y : Bor Cell) → o ≡ Some y → ⊥) (v : Option (Bor Cell)) (hv : Found nine (λ c. c.valid) v) where
      no_owner : 9 ≤ lowest (nth nine) (λ c. c.owner)
      no_owner = let n = lowest_none (λ c. c.owner) o ho no in omega arith

      pub found_valid : (y : Bor Cell) → v ≡ Some y → y.now.word ≡ word_for x (nth nine)
      found_valid y e =
          let l = lowest_some (λ c. c.valid) v y hv e in
          sym (ap (λ (c : Cell). c.word) l.1) ∙ word_valid x (nth nine) refl no_owner refl l.0

      pub found_own : ((y : Bor Cell) → v ≡ Some y → ⊥) → {w : ℕ} → w ≡ pick x.backup x.saved 0 → w ≡ word_for x (nth nine)
      found_own nv h =
          let n = lowest_none (λ c. c.valid) v hv nv in
          h ∙ word_own x (nth nine) refl no_owner refl (omega arith)
