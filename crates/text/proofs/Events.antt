-- A run over the lines of a chunk. Assumes nothing.
use Prim.Native.Nat.{ℕ, suc, ◌+◌, ◌-◌, ◌≤◌, ◌<◌}
use mathlib.Core.Path.{◌≡◌, refl, sym, ap, subst, ◌∙◌}
use mathlib.Core.Bool.{Bool, true, false, cond as pick, ◌&&◌}
use mathlib.Core.List.{List, [], ◌∷◌, ◌++◌, map, append-nil}
use mathlib.Core.Logic.{◌⊎◌, inl, inr}
use mathlib.Core.Option.{Option, none, some}
use native.Mathlib.Omega.{arith}
use native.Mathlib.Nat.{zero-add}
use native.Mathlib.Numerals.{add-one}
use borrow.Author.Tests.{eqb-true, ne_eqb, leb-false, ltb-true, ltb-false}
use lib.Dec.{leb, ltb, eqb}
use lib.ListN.{length, take, drop, set, replicate, length-append, drop_of_length-le}
use lib.Seq.{sets, sets-eq, take-nil, drop-drop}
use Rattle.text.specs.declared.reading.Taken.{Taken}
use Rattle.text.specs.Lines.{lines_of, first_line, passed, passed_by}
use Rattle.text.specs.Reading.{numbers_of, exactly, unread, packed, taken_at}
use Rattle.text.specs.Chunks.{known, is_known, event_in, mark_of, words_in, Parses}
use Rattle.text.specs.Parts.{event_words, event_mark}
use Rattle.text.proofs.Bools.{and_both}
use Rattle.text.proofs.Stores.{sets_append}
use Rattle.text.proofs.Lines.{lines_at, passed_nil}

-- ---- a line that was read

-- eight numbers over eight zeros
pub full : (ns : List ℕ) → length ns ≡ 8 → ns ≡ sets (replicate 8 0) 0 ns
full ns e =
    let k : 0 + length ns ≡ 8 = omega arith in
    sym (sets-eq ns (replicate 8 0) 0 (omega arith) ∙ ap (λ (j : ℕ). ns ++ drop j (replicate 8 0)) k ∙ append-nil ns)

abbrev filled : List ℕ → ℕ → Taken
filled ns next = record { count = length ns; words = sets (replicate 8 0) 0 ns; next = next }

-- the words and the mark of a line are those of what it was read as
record Read (o : Option (List ℕ)) (r : Taken) : Type 0 where
  words : known (exactly 8 o) ≡ event_words r.count r.words
  mark : is_known (exactly 8 o) ≡ event_mark r.count

eight : (ns : List ℕ) (t : Bool) → eqb (length ns) 8 ≡ t
    → (known (pick t (some ns) none) ≡ pick t (sets (replicate 8 0) 0 ns) []) × (is_known (pick t (some ns) none) ≡ pick t 1 0)
eight ns true e = (full ns (eqb-true (length ns) 8 e), refl)
eight ns false e = (refl, refl)

read_some : (ns : List ℕ) (next : ℕ) (t : Bool) → leb (length ns) 8 ≡ t → Read (some ns) (pick t (filled ns next) (unread next))
unfolding event_words event_mark
read_some ns next true b = let p = eight ns (eqb (length ns) 8) refl in record { words = p.0; mark = p.1 }
read_some ns next false b =
    let q = ne_eqb (length ns) 8 (λ z. let h = leb-false (length ns) 8 b in omega arith) in
    record { words = rw q; mark = rw q }

read_any : (o : Option (List ℕ)) (next : ℕ) → Read o (packed o next)
unfolding packed event_words event_mark
read_any none next = record { words = refl; mark = refl }
read_any (some ns) next = read_some ns next (leb (length ns) 8) refl

next_either : (t : Bool) (ns : List ℕ) (next : ℕ) → (pick t (filled ns next) (unread next)).next ≡ next
next_either true ns next = refl
next_either false ns next = refl

pub next_any : (o : Option (List ℕ)) (next : ℕ) → (packed o next).next ≡ next
unfolding packed
next_any none next = refl
next_any (some ns) next = next_either (leb (length ns) 8) ns next

-- ---- a run

pub both_less : (a b c d : ℕ) → ltb a b && ltb c d ≡ true → (a < b) × (c < d)
both_less a b c d e = let h = and_both (ltb a b) (ltb c d) e in (ltb-true a b h.0, ltb-true c d h.1)

pub not_less : (a b c d : ℕ) → ltb a b && ltb c d ≡ false → (b ≤ a) ⊎ (d ≤ c)
not_less a b c d e = either (ltb a b) refl e
  where
    either : (t : Bool) → ltb a b ≡ t → t && ltb c d ≡ false → (b ≤ a) ⊎ (d ≤ c)
    either true p q = inr (ltb-false c d q)
    either false p q = inl (ltb-false a b p)

-- the lines that are left
abbrev left_of : List ℕ → ℕ → ℕ → ℕ → List (List ℕ)
left_of s most i j = take (most - j) (lines_of (drop i s))

-- j lines are read, and at words are put; what is left gives the whole
pub record Going (s words₀ marks₀ : List ℕ) (most i j at : ℕ) (words marks : List ℕ) : Type 0 where
  pub lines : j + length (left_of s most i j) ≡ length (take most (lines_of s))
  pub count : at + length (words_in (left_of s most i j)) ≡ length (words_in (take most (lines_of s)))
  pub next : i + passed_by (most - j) (drop i s) ≡ passed_by most s
  pub events : sets words at (words_in (left_of s most i j)) ≡ sets words₀ 0 (words_in (take most (lines_of s)))
  pub marked : sets marks j (map mark_of (left_of s most i j)) ≡ sets marks₀ 0 (map mark_of (take most (lines_of s)))

pub going_start : (s words marks : List ℕ) (most : ℕ) → Going s words marks most 0 0 0 words marks
going_start s words marks most =
    let e : most - 0 ≡ most = omega arith in
    record { lines = rw (e, zero-add); count = rw (e, zero-add); next = rw (e, zero-add); events = rw e; marked = rw e }

module _ (s words₀ marks₀ : List ℕ) (most i j at : ℕ) (words marks : List ℕ) (g : Going s words₀ marks₀ most i j at words marks) where
  left_cons : i < length s → j < most → left_of s most i j ≡ first_line (drop i s) ∷ left_of s most (i + passed (drop i s)) (j + 1)
  left_cons h k =
      let e : most - j ≡ suc (most - (j + 1)) = omega arith in
      rw (e, lines_at s i h)

  words_cons : i < length s → j < most
      → words_in (left_of s most i j) ≡ known (event_in (first_line (drop i s))) ++ words_in (left_of s most (i + passed (drop i s)) (j + 1))
  unfolding words_in
  words_cons h k = ap words_in (left_cons h k)

  passed_cons : j < most → passed_by (most - j) (drop i s) ≡ passed (drop i s) + passed_by (most - (j + 1)) (drop (i + passed (drop i s)) s)
  unfolding passed_by
  passed_cons k =
      let e : most - j ≡ suc (most - (j + 1)) = omega arith in
      ap (λ (m : ℕ). passed_by m (drop i s)) e
      ∙ ap (λ (r : List ℕ). passed (drop i s) + passed_by (most - (j + 1)) r) (drop-drop (passed (drop i s)) i s)

  -- a line is read
  going_line : i < length s → j < most
      → Going s words₀ marks₀ most (i + passed (drop i s)) (j + 1) (at + length (known (event_in (first_line (drop i s)))))
      (sets words at (known (event_in (first_line (drop i s))))) (set marks j (mark_of (first_line (drop i s))))
  going_line h k =
      let l = left_cons h k in
      let v = words_cons h k in
      record {
        lines = let a = ap length l in let b = g.lines in omega arith;
        count = let a = ap length v ∙ length-append (known (event_in (first_line (drop i s)))) (words_in (left_of s most (i + passed (drop i s)) (j + 1))) in let b = g.count in omega arith;
        next = let a = passed_cons k in let b = g.next in omega arith;
        events = sym (sets_append (known (event_in (first_line (drop i s)))) _ words at) ∙ ap (sets words at) (sym v) ∙ g.events;
        marked =
            ap (λ (n : ℕ). sets (set marks j (mark_of (first_line (drop i s)))) n (map mark_of (left_of s most (i + passed (drop i s)) (j + 1)))) (add-one j)
            ∙ ap (λ (r : List (List ℕ)). sets marks j (map mark_of r)) (sym l)
            ∙ g.marked;
      }

  abbrev Next : Taken → Type 0
  Next r =
      Going s words₀ marks₀ most r.next (j + 1) (at + length (event_words r.count r.words))
      (sets words at (event_words r.count r.words))
      (set marks j (event_mark r.count))

  next_taken : i < length s → j < most → Next (taken_at s i)
  unfolding taken_at event_in mark_of
  next_taken h k =
      let o = numbers_of (first_line (drop i s)) in
      let n = i + passed (drop i s) in
      let x = read_any o n in
      rw (next_any o n) (rw (x.words, x.mark) at (going_line h k))

  -- what was read is put
  pub going_on : i < length s → j < most → (r : Taken) (m : ℕ) (words' marks' : List ℕ) → r ≡ taken_at s i
      → m ≡ length (event_words r.count r.words)
      → words' ≡ sets words at (event_words r.count r.words)
      → marks' ≡ set marks j (event_mark r.count)
      → Going s words₀ marks₀ most r.next (j + 1) (at + m) words' marks'
  going_on h k r m words' marks' e a b c = rw (a, b, c) (subst Next (sym e) (next_taken h k))

  -- the run ends
  going_end : left_of s most i j ≡ [] → passed_by (most - j) (drop i s) ≡ 0
      → Parses s most words₀ marks₀ words marks (record { lines = j; words = at; next = i })
  unfolding words_in
  going_end l p =
      record {
        lines = let a = g.lines in let b = ap length l in omega arith;
        count = let a = g.count in let b = ap (λ (r : List (List ℕ)). length (words_in r)) l in omega arith;
        next = let a = g.next in omega arith;
        events = rw l at g.events;
        marked = rw l at g.marked;
      }

  -- the room is used up
  pub going_full : most ≤ j → Parses s most words₀ marks₀ words marks (record { lines = j; words = at; next = i })
  unfolding passed_by
  going_full h =
      let z : most - j ≡ 0 = omega arith in
      going_end (rw z) (rw z)

  -- by as many lines as there is room for
  pub going_most : j ≡ most → Parses s most words₀ marks₀ words marks (record { lines = most; words = at; next = i })
  going_most h =
      let P : ℕ → Type 0 = λ n. Parses s most words₀ marks₀ words marks (record { lines = n; words = at; next = i }) in
      subst P h (going_full (omega arith))

  -- the input is used up
  pub going_none : length s ≤ i → Parses s most words₀ marks₀ words marks (record { lines = j; words = at; next = i })
  unfolding lines_of
  going_none h = going_end (rw (drop_of_length-le s h) (take-nil (most - j))) (rw (drop_of_length-le s h) (passed_nil (most - j)))
