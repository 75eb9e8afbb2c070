-- Reading a line field by field. Assumes nothing.
use Prim.Native.Nat.{ℕ, suc, ◌+◌, ◌≤◌, ◌<◌}
use mathlib.Core.Path.{◌≡◌, refl, sym, ap, ◌∙◌}
use mathlib.Core.Bool.{Bool, true, false, cond as pick, false≢true}
use mathlib.Core.List.{List, [], ◌∷◌, ◌++◌}
use mathlib.Core.Option.{Option, none, some}
use native.Mathlib.Omega.{arith}
use native.Mathlib.Nat.{add-zero, zero-add}
use native.Mathlib.Numerals.{add-one}
use borrow.Author.Tests.{eqb-true, eqb-false, leb-true, leb-false, le-leb, lt-leb, ne_eqb}
use lib.Dec.{eqb, leb}
use lib.ListN.{length, get_or, drop, set, replicate}
use lib.Seq.{sets}
use Rattle.text.specs.declared.numbers.Spelled.{Spelled}
use Rattle.text.specs.declared.reading.Taken.{Taken}
use Rattle.text.specs.Lines.{first_line, passed}
use Rattle.text.specs.Reading.{is_digit, value_of, both, numbers_of, unread, packed, taken_at}
use Rattle.text.specs.Parts.{numbers, Unreadable, Found, Short, finished}
use Rattle.text.proofs.Values.{no_digit, too_large, spelled_snoc}
use Rattle.text.proofs.Fields.{numbers_last, numbers_tab, numbers_other}
use Rattle.text.proofs.Lines.{byte_in, tab_in, first_here, first_end, first_none, passed_more, passed_end, passed_none}
use Rattle.text.proofs.Runs.{line_here, passed_here, found_one}
use Rattle.text.proofs.Lengths.{short_line}

-- what a reader that has count numbers in words hands back, where those of the rest are given
unfoldable pub with_rest : ℕ → List ℕ → Option (List ℕ) → ℕ → Taken
with_rest count words none next = unread next
with_rest count words (some ns) next =
    pick (leb (count + length ns) 8) (record { count = count + length ns; words = sets words count ns; next = next }) (unread next)

rest_both : (count : ℕ) (words : List ℕ) (v : ℕ) (o : Option (List ℕ)) (next : ℕ) →
    with_rest count words (both (some v) o) next ≡ with_rest (count + 1) (set words count v) o next
unfolding with_rest
rest_both count words v none next = refl
rest_both count words v (some ns) next =
    let e : count + suc (length ns) ≡ count + 1 + length ns = omega arith in
    rw (e, add-one count)

rest_start : (o : Option (List ℕ)) (next : ℕ) → with_rest 0 (replicate 8 0) o next ≡ packed o next
unfolding with_rest packed
rest_start none next = refl
rest_start (some ns) next = rw zero-add

-- the length of a line decides nothing
few : (ns : List ℕ) (t : Bool) (next : ℕ) → (length ns ≤ 8 → t ≡ true) → packed (pick t (some ns) none) next ≡ packed (some ns) next
unfolding packed
few ns true next h = refl
few ns false next h =
    rw (lt-leb (length ns) 8 (over (leb (length ns) 8) refl))
  where
    over : (u : Bool) → leb (length ns) 8 ≡ u → 8 < length ns
    over true e = absurd (false≢true (h (leb-true _ _ e)))
    over false e = leb-false _ _ e

any_length : (l : List ℕ) (o : Option (List ℕ)) (next : ℕ) → numbers l ≡ o → packed (pick (leb (length l) 96) o none) next ≡ packed o next
any_length l none next e = same (leb (length l) 96)
  where
    same : (t : Bool) → packed (pick t none none) next ≡ packed none next
    same true = refl
    same false = refl
any_length l (some ns) next e =
    few ns (leb (length l) 96) next (λ h. le-leb (length l) 96 (let k = short_line l ns e in omega arith))

pub taken_is : (s : List ℕ) (from : ℕ) → packed (numbers (first_line (drop from s))) (from + passed (drop from s)) ≡ taken_at s from
unfolding taken_at numbers_of
taken_is s from = sym (any_length (first_line (drop from s)) (numbers (first_line (drop from s))) _ refl)

-- ---- the end of a line

module _ (s : List ℕ) (end count : ℕ) (words : List ℕ) where
  pub ends_none : length s ≤ end → record { count = count; words = words; next = end } ≡ finished s end count words
  unfolding finished
  ends_none k = rw (first_none s end k, passed_none s end k, add-zero end)

  pub ends_here : end < length s → get_or s end 0 ≡ 10 → record { count = count; words = words; next = end + 1 } ≡ finished s end count words
  unfolding finished
  ends_here k b = rw (first_end s end k b, passed_end s end k b)

  pub goes_on : end < length s → (get_or s end 0 ≡ 10 → ⊥) → unread (end + passed (drop end s)) ≡ finished s end count words
  unfolding finished
  goes_on k b = rw (first_here s end k b, ne_eqb (suc (length (first_line (drop (end + 1) s)))) 0 (λ z. omega arith))

-- ---- its numbers, one after the other

-- at place i, after count numbers in words, what is left gives the line at from
pub record Left (s : List ℕ) (from i count : ℕ) (words : List ℕ) : Type 0 where
  pub line : with_rest count words (numbers (first_line (drop i s))) (i + passed (drop i s)) ≡ taken_at s from

pub left_start : (s : List ℕ) (from : ℕ) → Left s from from 0 (replicate 8 0)
left_start s from = record { line = rest_start _ _ ∙ taken_is s from }

-- a line has a field, so after eight there is no room for the numbers of what is left
over : (count : ℕ) (words l : List ℕ) (o : Option (List ℕ)) (next : ℕ) → 8 ≤ count → numbers l ≡ o → unread next ≡ with_rest count words o next
unfolding with_rest
over count words l none next h e = refl
over count words l (some ns) next h e = rw (lt-leb (count + length ns) 8 (let k = short_line l ns e in omega arith))

pub left_over : (s : List ℕ) (from i count : ℕ) (words : List ℕ) → Left s from i count words → 8 ≤ count
    → unread (i + passed (drop i s)) ≡ taken_at s from
left_over s from i count words left h = over count words (first_line (drop i s)) _ _ h refl ∙ left.line

-- no number is there
pub left_none : (s : List ℕ) (from i count : ℕ) (words : List ℕ) → Left s from i count words → Unreadable s i
    → unread (i + passed (drop i s)) ≡ taken_at s from
unfolding with_rest
left_none s from i count words left e = rw e at left.line

module _ (s : List ℕ) (from i count : ℕ) (words : List ℕ) (left : Left s from i count words) (r : Spelled ℕ) (f : Found s i r) where
  -- the line after the number
  abbrev after : List ℕ
  after = first_line (drop r.end s)

  line_at : first_line (drop i s) ≡ f.run.text ++ after
  line_at = line_here s i r.end r.value f.run

  gone : i + passed (drop i s) ≡ r.end + passed (drop r.end s)
  gone = passed_here s i r.end r.value f.run

  -- it is followed by a tab
  tab_next : r.end < length s → get_or s r.end 0 ≡ 9 → Left s from (r.end + 1) (count + 1) (set words count r.value)
  tab_next k b =
      let n : get_or s r.end 0 ≡ 10 → ⊥ = λ z. omega arith in
      let e : numbers (first_line (drop i s)) ≡ both (some r.value) (numbers (first_line (drop (r.end + 1) s))) =
      rw (line_at, first_here s r.end k n, b) (numbers_tab f.run.text r.value f.run.all f.value _) in
      record {
        line =
            sym (rest_both count words r.value _ _)
            ∙ ap (λ (m : ℕ). with_rest count words (both (some r.value) (numbers (first_line (drop (r.end + 1) s)))) m) (sym (gone ∙ passed_more s r.end k n))
            ∙ ap (λ (o : Option (List ℕ)). with_rest count words o (i + passed (drop i s))) (sym e)
            ∙ left.line;
      }

  pub left_tab : r.after ≡ 9 → (r.end < length s) × Left s from (r.end + 1) (count + 1) (set words count r.value)
  left_tab e =
      let t = tab_in s r.end (sym f.after ∙ e) in
      (t.0, tab_next t.0 t.1)

  -- the line ends there
  last : count < 8 → after ≡ [] → finished s r.end (count + 1) (set words count r.value) ≡ taken_at s from
  unfolding finished with_rest
  last m e =
      let n : numbers (first_line (drop i s)) ≡ some (r.value ∷ []) =
      rw (line_at, e) (numbers_last f.run.text r.value f.run.all f.value) in
      rw (e, ← gone) (rw (n, le-leb (count + 1) 8 (omega arith)) at left.line)

  -- a byte that no field goes on with
  pub wrong_byte : (b : ℕ) (t : Bool) → is_digit b ≡ t → (is_digit b ≡ true → 1000000000 ≤ r.value) → (g : List ℕ) → value_of (f.run.text ++ (b ∷ g)) ≡ none
  wrong_byte b true e k g =
      let a = spelled_snoc f.run.text 0 b in
      let v = f.run.spell in
      let z = k e in
      rw (← lib.Seq.append_snoc f.run.text b g) (too_large (f.run.text ++ (b ∷ [])) g (omega arith))
  wrong_byte b false e k g = no_digit f.run.text g b f.run.all e

  other : (b : ℕ) (u : List ℕ) → after ≡ b ∷ u → (b ≡ 9 → ⊥) → (is_digit b ≡ true → 1000000000 ≤ r.value)
      → (w : List ℕ) → finished s r.end (count + 1) w ≡ taken_at s from
  unfolding finished with_rest
  other b u e n k w =
      let z : numbers (first_line (drop i s)) ≡ none =
      rw (line_at, e) (numbers_other f.run.text u b f.run.all n (wrong_byte b (is_digit b) refl k)) in
      rw (e, ne_eqb (suc (length u)) 0 (λ q. omega arith), ← gone) (rw z at left.line)

  ends : count < 8 → (t u : Bool) → leb (length s) r.end ≡ t → eqb (get_or s r.end 0) 10 ≡ u → (r.end < length s → get_or s r.end 0 ≡ 9 → ⊥)
      → finished s r.end (count + 1) (set words count r.value) ≡ taken_at s from
  ends m true u e g n = last m (first_none s r.end (leb-true _ _ e))
  ends m false true e g n = last m (first_end s r.end (leb-false _ _ e) (eqb-true _ _ g))
  ends m false false e g n =
      let k = leb-false (length s) r.end e in
      other (get_or s r.end 0) (first_line (drop (r.end + 1) s)) (first_here s r.end k (eqb-false _ _ g)) (n k) (f.stop k) _

  -- no tab follows
  pub left_end : count < 8 → (r.after ≡ 9 → ⊥) → finished s r.end (count + 1) (set words count r.value) ≡ taken_at s from
  left_end m e = ends m _ _ refl refl (λ h z. e (f.after ∙ sym (byte_in s r.end h) ∙ z))

-- a digit and a tab
pub left_short : (s : List ℕ) (from i count : ℕ) (words : List ℕ) → Left s from i count words → (v : ℕ) → Short s i v
    → Left s from (i + 2) (count + 1) (set words count v)
left_short s from i count words left v h =
    let e : i + 1 + 1 ≡ i + 2 = omega arith in
    let k = h.within in
    let f = found_one s i (omega arith) h.digit 9 (sym h.tab ∙ byte_in s (i + 1) k) (λ m. rw h.tab) in
    rw (e, h.spell) at (left_tab s from i count words left _ f refl).1
