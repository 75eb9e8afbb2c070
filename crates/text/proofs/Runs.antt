-- Digits from a place on, and the number of the field there. Assumes nothing.
use Prim.Native.Nat.{ℕ, ◌+◌, ◌-◌, ◌*◌, ◌≤◌, ◌<◌}
use mathlib.Core.Path.{◌≡◌, refl, sym, ap, subst, subst₂, ◌∙◌}
use mathlib.Core.Bool.{Bool, true, false, true≢false}
use mathlib.Core.List.{List, [], ◌∷◌, ◌++◌, append_assoc}
use mathlib.Core.Option.{none, some}
use native.Mathlib.Omega.{arith}
use native.Mathlib.Nat.{add-zero, zero-add}
use native.Mathlib.Numerals.{add-one}
use borrow.Author.Tests.{eqb-true, eqb-false, leb-true, leb-false}
use lib.Dec.{eqb, leb}
use lib.ListN.{length, get_or, drop, length-append, length-drop, get_or-append}
use lib.Seq.{drop-cons, get_or-drop}
use Rattle.text.specs.declared.numbers.Spelled.{Spelled}
use Rattle.text.specs.Lines.{first_line, passed}
use Rattle.text.specs.Reading.{fields_of, is_digit, all_digits, unpadded, spelled, value_of, values_of}
use Rattle.text.specs.Parts.{Digits, Stops, Runs, numbers, Unreadable, Found}
use Rattle.text.proofs.Bools.{digit_in}
use Rattle.text.proofs.Values.{spelled_snoc, all_snoc, unpadded_lead, unpadded_one, value_some, no_digit, too_large, padded}
use Rattle.text.proofs.Fields.{numbers_none, numbers_other}
use Rattle.text.proofs.Lines.{first_here, first_end, first_none, free, free_digits, first_free, passed_free}

-- ---- digits

pub digits_none : (s : List ℕ) (from : ℕ) → Digits s from from 0
unfolding all_digits spelled
digits_none s from = record { text = []; here = refl; all = refl; spell = refl; long = omega arith }

pub digits_more : (s : List ℕ) (from i v : ℕ) → Digits s from i v → i < length s → is_digit (get_or s i 0) ≡ true
    → Digits s from (i + 1) (v * 10 + (get_or s i 0 - 48))
digits_more s from i v d h e =
    record {
      text = d.text ++ (get_or s i 0 ∷ []);
      here = d.here ∙ rw (drop-cons s i 0 h, append_assoc, add-one i);
      all = all_snoc d.text (get_or s i 0) d.all e;
      spell = spelled_snoc d.text 0 (get_or s i 0) ∙ rw d.spell;
      long = let l = d.long in simp length-append (omega arith);
    }

module _ (s : List ℕ) (from end v : ℕ) (d : Digits s from end v) where
  no_feed : free 10 d.text ≡ true
  no_feed = free_digits 10 d.text (omega arith) d.all

  -- the line there begins with the digits
  pub line_here : first_line (drop from s) ≡ d.text ++ first_line (drop end s)
  line_here = rw d.here (first_free d.text (drop end s) no_feed)

  pub passed_here : from + passed (drop from s) ≡ end + passed (drop end s)
  passed_here = let p = ap passed d.here ∙ passed_free d.text (drop end s) no_feed in let l = d.long in omega arith

  -- digits stand within the input
  pub within : from < end → from < length s
  within h =
      let l = d.long in
      let e = ap length d.here ∙ length-append d.text (drop end s) in
      let k = length-drop from s in
      omega arith

  -- the first of them
  lead : from < end → get_or d.text 0 0 ≡ get_or s from 0
  lead h =
      let l = d.long in
      sym (get_or-append d.text (drop end s) 0 0 (omega arith))
      ∙ ap (λ (t : List ℕ). get_or t 0 0) (sym d.here)
      ∙ get_or-drop from s 0 0
      ∙ ap (λ (k : ℕ). get_or s k 0) (add-zero from)

  -- ---- no field may begin with them

  pub large : 4294967295 < v → numbers (first_line (drop from s)) ≡ none
  large h =
      let e = d.spell in
      rw line_here (numbers_none d.text (first_line (drop end s)) d.all (λ g. too_large d.text g (omega arith)))

  pub zero_led : 1 < end - from → get_or s from 0 ≡ 48 → numbers (first_line (drop from s)) ≡ none
  zero_led h z =
      let l = d.long in
      rw line_here
      (numbers_none d.text (first_line (drop end s)) d.all (λ g. padded d.text g (omega arith) (lead (omega arith) ∙ z)))

  plain : (t : Bool) → leb (length d.text) 1 ≡ t → (1 < end - from → get_or s from 0 ≡ 48 → ⊥) → unpadded d.text ≡ true
  plain true e n = unpadded_one d.text (leb-true _ _ e)
  plain false e n =
      let k = leb-false (length d.text) 1 e in
      let l = d.long in
      unpadded_lead d.text (λ z. n (omega arith) (sym (lead (omega arith)) ∙ z))

  -- a field that is readable
  pub field_value : from < end → v ≤ 4294967295 → (1 < end - from → get_or s from 0 ≡ 48 → ⊥) → value_of d.text ≡ some v
  field_value h k n =
      let l = d.long in
      let e = d.spell in
      value_some d.text (omega arith) d.all (plain (leb (length d.text) 1) refl n) (omega arith) ∙ ap some d.spell

-- ---- no digit at all

no_start : (s : List ℕ) (from : ℕ) (t u : Bool) → eqb (get_or s from 0) 10 ≡ t → eqb (get_or s from 0) 9 ≡ u → from < length s
    → is_digit (get_or s from 0) ≡ false → numbers (first_line (drop from s)) ≡ none
unfolding fields_of values_of value_of all_digits
no_start s from true u e f h d = rw (first_end s from h (eqb-true _ _ e))
no_start s from false true e f h d = rw (first_here s from h (eqb-false _ _ e), f)
no_start s from false false e f h d =
    rw (first_here s from h (eqb-false _ _ e))
    (numbers_other [] (first_line (drop (from + 1) s)) (get_or s from 0) refl (eqb-false _ _ f) (λ g. no_digit [] g (get_or s from 0) refl d))

no_digits : (s : List ℕ) (from : ℕ) (t u : Bool) → leb (length s) from ≡ t → is_digit (get_or s from 0) ≡ u → Stops s from 0
    → numbers (first_line (drop from s)) ≡ none
unfolding fields_of values_of value_of
no_digits s from true u e f stop = rw (first_none s from (leb-true _ _ e))
no_digits s from false true e f stop = absurd (let z = stop (leb-false _ _ e) f in omega arith)
no_digits s from false false e f stop = no_start s from _ _ refl refl (leb-false _ _ e) f

nothing : (t : List ℕ) (v : ℕ) → spelled 0 t ≡ v → length t ≡ 0 → v ≡ 0
unfolding spelled
nothing [] v e l = sym e
nothing (b ∷ t) v e l = absurd (omega arith)

-- ---- what `field` answers

module _ (s : List ℕ) (from : ℕ) where
  pub unread_end : length s ≤ from → Unreadable s from
  unread_end h = no_digits s from _ _ refl refl (λ k d. absurd (omega arith))

  module _ (r : Spelled ℕ) (g : Runs s from r) where
    -- they end where they begin
    pub unread_none : r.end ≡ from → Unreadable s from
    unread_none z =
        let v = nothing g.run.text r.value g.run.spell (let l = g.run.long in omega arith) in
        no_digits s from _ _ refl refl (subst₂ (Stops s) z v g.stop)

    pub unread_large : 4294967295 < r.value → Unreadable s from
    unread_large h = large s from r.end r.value g.run h

    pub unread_zero : 1 < r.end - from → get_or s from 0 ≡ 48 → Unreadable s from
    unread_zero h z = zero_led s from r.end r.value g.run h z

    pub found_run : (r.end ≡ from → ⊥) → r.value ≤ 4294967295 → (1 < r.end - from → get_or s from 0 ≡ 48 → ⊥) → Found s from r
    found_run e k n =
        let h : from < r.end = let l = g.run.long in omega arith in
        record {
          run = g.run;
          far = h;
          value = field_value s from r.end r.value g.run h k n;
          after = g.after;
          stop = g.stop;
        }

  -- one digit
  module _ (h : from < length s) (d : is_digit (get_or s from 0) ≡ true) where
    one : Digits s from (from + 1) (get_or s from 0 - 48)
    one = subst (Digits s from (from + 1)) (zero-add (get_or s from 0 - 48)) (digits_more s from from 0 (digits_none s from) h d)

    pub found_one : (b : ℕ) → b ≡ get_or s (from + 1) 10 → (from + 1 < length s → is_digit (get_or s (from + 1) 0) ≡ false)
        → Found s from (record { value = get_or s from 0 - 48; end = from + 1; after = b })
    found_one b a n =
        let k = digit_in (get_or s from 0) d in
        record {
          run = one;
          far = omega arith;
          value = field_value s from (from + 1) (get_or s from 0 - 48) one (omega arith) (omega arith) (λ m. absurd (omega arith));
          after = a;
          stop = λ m e. absurd (true≢false (sym e ∙ n m));
        }
