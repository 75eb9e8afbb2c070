-- An answer is read back as it was written. Assumes nothing.
use Prim.Native.Nat.{ℕ, ◌^◌, ◌≤◌, ◌<◌}
use mathlib.Core.Path.{◌≡◌, refl, ap, ◌∙◌}
use mathlib.Core.Bool.{true, not}
use mathlib.Core.List.{List, [], ◌∷◌, ◌++◌, map, append_assoc, append-nil}
use mathlib.Core.Logic.{⊎_elim}
use mathlib.Core.Option.{some}
use native.Mathlib.Omega.{arith}
use borrow.Author.Tests.{le-leb, not-true}
use lib.Dec.{eqb}
use lib.ListN.{length, length-append}
use Rattle.text.specs.Lines.{lines_of, first_line, passed}
use Rattle.text.specs.Reading.{fields_of, all_digits, unpadded, spelled, value_of, values_of, numbers_of}
use Rattle.text.proofs.Bools.{and_both}
use Rattle.text.proofs.Lines.{free, free_append, free_digits, lines_free}
use Rattle.text.proofs.Values.{unpadded_lead, value_some}
use Rattle.writing.specs.Writing.{decimal, ended, answer_text}
use Rattle.writing.proofs.Digits.{decimal_is}
use Rattle.std.specs.Fmt.{decimal as written}
use Rattle.std.proofs.Common.{rules}
use Rattle.std.proofs.lemmas.Bool.{cases_lt}
use Rattle.std.proofs.lemmas.Fmt.{digits_value-decimal, decimal_nonempty, length-decimal-le, digits_decimal, first_decimal, decimal_digit}
use Rattle.std.proofs.lemmas.Str.Parse.{IsNumeralModel, numerals_by_fold}

-- ---- a number's text is a field with its value

-- the words of `text` for digits and their number are those of the library
pub own : IsNumeralModel (λ ds. all_digits ds ≡ true) (spelled 0)
unfolding all_digits spelled
own = numerals_by_fold _ (search rules) spelled (search rules)

-- what a number's text is
record Text (n : ℕ) : Type 0 where
  value : value_of (decimal n) ≡ some n
  all : all_digits (decimal n) ≡ true
  short : length (decimal n) ≤ 10

text : (n : ℕ) → n < 2 ^ 32 → Text n
unfolding unpadded
text n h =
    let d = decimal_is n (omega arith) in
    let w : n < 2 ^ 64 = omega arith in
    let v = digits_value-decimal own n w in
    let some_digit = decimal_nonempty n w in
    let few = length-decimal-le 10 n (omega arith) (omega arith) w in
    let digits = digits_decimal own n w in
    let lead : unpadded (written n) ≡ true =
    ⊎_elim (λ z. unpadded_lead (written n) (λ e. let f = first_decimal n z w in omega arith)) (λ z. let o : n ≡ 0 = omega arith in rw (decimal_digit n (omega arith)) refl) (cases_lt 0 n) in
    record {
      value = rw d (value_some (written n) (omega arith) digits lead (omega arith) ∙ ap some v);
      all = rw d digits;
      short = rw d (omega arith);
    }

-- ---- an answer is read back

-- a field that ends at a tab, and the last field
fields_tab : (f s : List ℕ) → free 9 f ≡ true → fields_of ((f ++ (9 ∷ [])) ++ s) ≡ f ∷ fields_of s
unfolding free fields_of
fields_tab [] s p = refl
fields_tab (b ∷ f) s p =
    let h = and_both (not (eqb b 9)) (free 9 f) p in
    rw (not-true (eqb b 9) h.0, fields_tab f s h.1)

fields_last : (f : List ℕ) → free 9 f ≡ true → fields_of f ≡ f ∷ []
unfolding free fields_of
fields_last [] p = refl
fields_last (b ∷ f) p =
    let h = and_both (not (eqb b 9)) (free 9 f) p in
    rw (not-true (eqb b 9) h.0, fields_last f h.1)

module _ (a b c : ℕ) (small-a : a < 2 ^ 32) (small_b : b < 2 ^ 32) (small-c : c < 2 ^ 32) where
  -- an answer with no line feed
  abbrev line : List ℕ
  line = ended a 9 ++ (ended b 9 ++ decimal c)

  apart : answer_text a b c ≡ line ++ (10 ∷ [])
  unfolding answer_text ended
  apart = simp append_assoc

  line_free : free 10 line ≡ true
  unfolding ended free
  line_free =
      let x : (n : ℕ) → n < 2 ^ 32 → free 10 (decimal n) ≡ true = λ n h. free_digits 10 (decimal n) (omega arith) (text n h).all in
      free_append 10 (decimal a ++ (9 ∷ [])) _ (free_append 10 (decimal a) (9 ∷ []) (x a small-a) refl)
      (free_append 10 (decimal b ++ (9 ∷ [])) _ (free_append 10 (decimal b) (9 ∷ []) (x b small_b) refl) (x c small-c))

  line_fields : fields_of line ≡ decimal a ∷ decimal b ∷ decimal c ∷ []
  unfolding ended
  line_fields =
      let x : (n : ℕ) → n < 2 ^ 32 → free 9 (decimal n) ≡ true = λ n h. free_digits 9 (decimal n) (omega arith) (text n h).all in
      rw (
        fields_tab (decimal a) ((decimal b ++ (9 ∷ [])) ++ decimal c) (x a small-a),
        fields_tab (decimal b) (decimal c) (x b small_b),
        fields_last (decimal c) (x c small-c),
      )

  line_short : length line ≤ 96
  unfolding ended
  line_short =
      let x = (text a small-a).short in
      let y = (text b small_b).short in
      let z = (text c small-c).short in
      simp length-append (omega arith)

  line_numbers : numbers_of line ≡ some (a ∷ b ∷ c ∷ [])
  unfolding numbers_of values_of
  line_numbers = rw (le-leb (length line) 96 line_short, line_fields, (text a small-a).value, (text b small_b).value, (text c small-c).value)

  lines_one : lines_of (line ++ (10 ∷ [])) ≡ line ∷ []
  unfolding first_line passed lines_of
  lines_one = lines_free line (10 ∷ []) (simp length-append (omega arith)) line_free ∙ rw (append-nil line)

  -- an answer is one line, whose numbers are those that were written
  pub round_trip : map numbers_of (lines_of (answer_text a b c)) ≡ some (a ∷ b ∷ c ∷ []) ∷ []
  round_trip = rw (apart, lines_one, line_numbers)
