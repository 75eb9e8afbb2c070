-- A line of nine numbers: one, a tab, and a line of eight. Assumes nothing.
use Prim.Native.Nat.{ℕ, suc, ◌+◌, ◌≤◌, ◌<◌}
use mathlib.Core.Path.{◌≡◌, refl, sym, ap, ◌∙◌}
use mathlib.Core.Bool.{Bool, true, false, cond as pick}
use mathlib.Core.List.{List, [], ◌∷◌, ◌++◌}
use mathlib.Core.Option.{Option, none, some}
use native.Mathlib.Omega.{arith}
use borrow.Author.Tests.{eqb-true, eqb-false, leb-true, leb-false, le-leb, eq-eqb, ne_eqb}
use lib.Dec.{leb, eqb}
use lib.ListN.{length, get_or, drop, replicate}
use Rattle.std.specs.Prelude.{Some, None}
use Rattle.text.specs.declared.numbers.Spelled.{Spelled}
use Rattle.text.specs.declared.reading.Taken.{Taken}
use Rattle.text.specs.declared.nines.Nine.{Nine}
use Rattle.text.specs.Lines.{first_line, passed}
use Rattle.text.specs.Reading.{is_digit, both, exactly, packed, taken_at}
use Rattle.text.specs.Nines.{nine_in, nined, nine_at}
use Rattle.text.specs.Parts.{numbers, Unreadable, Found}
use Rattle.text.proofs.Fields.{numbers_last, numbers_tab, numbers_other}
use Rattle.text.proofs.Lines.{byte_in, tab_in, first_here, first_end, first_none, passed_more}
use Rattle.text.proofs.Runs.{line_here, passed_here}
use Rattle.text.proofs.Takes.{taken_is, left_start, wrong_byte}
use Rattle.text.proofs.Events.{full}

-- ---- a number before a line that was read

-- a number before a line of eight
unfoldable with_field : ℕ → Taken → Nine
with_field v t = pick (eqb t.count 8) (record { numbers = Some (v ∷ t.words); next = t.next }) (nined none t.next)

field_some : (v : ℕ) (ns : List ℕ) (next : ℕ) (t u : Bool) → eqb (length ns) 8 ≡ t → leb (length ns) 8 ≡ u
    → nined (exactly 9 (some (v ∷ ns))) next ≡ with_field v (packed (some ns) next)
unfolding with_field nined packed
field_some v ns next true u e h =
    let l = eqb-true (length ns) 8 e in
    rw (eq-eqb (suc (length ns)) 9 (omega arith), le-leb (length ns) 8 (omega arith), e, ← full ns l)
field_some v ns next false true e h =
    let n = eqb-false (length ns) 8 e in
    rw (ne_eqb (suc (length ns)) 9 (λ z. n (omega arith)), h, e)
field_some v ns next false false e h =
    let n = eqb-false (length ns) 8 e in
    rw (ne_eqb (suc (length ns)) 9 (λ z. n (omega arith)), h)

field_is : (v : ℕ) (o : Option (List ℕ)) (next : ℕ) → nined (exactly 9 (both (some v) o)) next ≡ with_field v (packed o next)
unfolding with_field nined packed
field_is v none next = refl
field_is v (some ns) next = field_some v ns next _ _ refl refl

-- ---- the line at a place

-- no number is there
pub nine_none : (s : List ℕ) (from : ℕ) → Unreadable s from → (next : ℕ) → next ≡ from + passed (drop from s)
    → record { numbers = None; next = next } ≡ nine_at s from
unfolding nine_at nine_in nined
nine_none s from e next h = rw (e, h)

module _ (s : List ℕ) (from : ℕ) (r : Spelled ℕ) (f : Found s from r) where
  -- the line after the number
  abbrev after : List ℕ
  after = first_line (drop r.end s)

  line_at : first_line (drop from s) ≡ f.run.text ++ after
  line_at = line_here s from r.end r.value f.run

  gone : from + passed (drop from s) ≡ r.end + passed (drop r.end s)
  gone = passed_here s from r.end r.value f.run

  -- the line ends after it
  last : after ≡ [] → nine_in (first_line (drop from s)) ≡ none
  unfolding nine_in
  last e = rw (line_at, e, numbers_last f.run.text r.value f.run.all f.value)

  -- a byte that no field goes on with
  other : (b : ℕ) (u : List ℕ) → after ≡ b ∷ u → (b ≡ 9 → ⊥) → (is_digit b ≡ true → 1000000000 ≤ r.value)
      → nine_in (first_line (drop from s)) ≡ none
  unfolding nine_in
  other b u e n k =
      rw (line_at, e, numbers_other f.run.text u b f.run.all n (wrong_byte s from from 0 (replicate 8 0) (left_start s from) r f b (is_digit b) refl k))

  ends : (t u : Bool) → leb (length s) r.end ≡ t → eqb (get_or s r.end 0) 10 ≡ u → (r.end < length s → get_or s r.end 0 ≡ 9 → ⊥)
      → nine_in (first_line (drop from s)) ≡ none
  ends true u e g n = last (first_none s r.end (leb-true _ _ e))
  ends false true e g n = last (first_end s r.end (leb-false _ _ e) (eqb-true _ _ g))
  ends false false e g n =
      let k = leb-false (length s) r.end e in
      other (get_or s r.end 0) (first_line (drop (r.end + 1) s)) (first_here s r.end k (eqb-false _ _ g)) (n k) (f.stop k)

  -- no tab follows
  pub nine_end : (r.after ≡ 9 → ⊥) → (next : ℕ) → next ≡ r.end + passed (drop r.end s)
      → record { numbers = None; next = next } ≡ nine_at s from
  unfolding nine_at nined
  nine_end e next h =
      rw (ends _ _ refl refl (λ k z. e (f.after ∙ sym (byte_in s r.end k) ∙ z)), gone, h)

  -- a tab follows, and a line that was read
  tab_next : r.end < length s → get_or s r.end 0 ≡ 9 → with_field r.value (taken_at s (r.end + 1)) ≡ nine_at s from
  unfolding nine_at nine_in
  tab_next k b =
      let n : get_or s r.end 0 ≡ 10 → ⊥ = λ z. omega arith in
      let e : numbers (first_line (drop from s)) ≡ both (some r.value) (numbers (first_line (drop (r.end + 1) s))) =
      rw (line_at, first_here s r.end k n, b) (numbers_tab f.run.text r.value f.run.all f.value _) in
      rw (e, gone ∙ passed_more s r.end k n, ← taken_is s (r.end + 1)) (sym (field_is r.value _ _))

  -- eight numbers are there
  module _ (e : r.after ≡ 9) (t : Taken) (h : t ≡ taken_at s (r.end + 1)) where
    nine_tab : with_field r.value t ≡ nine_at s from
    nine_tab =
        let b = tab_in s r.end (sym f.after ∙ e) in
        ap (with_field r.value) h ∙ tab_next b.0 b.1

    pub nine_eight : t.count ≡ 8 → (w : List ℕ) → w ≡ r.value ∷ t.words → record { numbers = Some w; next = t.next } ≡ nine_at s from
    unfolding with_field
    nine_eight c w d = rw d (rw (eq-eqb t.count 8 c) at nine_tab)

    -- or another count
    pub nine_other : (t.count ≡ 8 → ⊥) → record { numbers = None; next = t.next } ≡ nine_at s from
    unfolding with_field nined
    nine_other c = rw (ne_eqb t.count 8 c) at nine_tab
