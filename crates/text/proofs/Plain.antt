-- A line of eight fields of one digit each. Assumes nothing.
use Prim.Native.Nat.{ℕ, zero, suc, ◌+◌, ◌-◌, ◌*◌, ◌%◌, ◌≤◌, ◌<◌}
use mathlib.Core.Path.{◌≡◌, refl, sym, ◌∙◌}
use mathlib.Core.Bool.{Bool, true, false}
use mathlib.Core.List.{List}
use native.Mathlib.Omega.{arith}
use native.Mathlib.Nat.{add-zero}
use native.Mathlib.Numerals.{add-one}
use borrow.Author.Tests.{eqb-true, eqb-false}
use lib.Dec.{eqb}
use lib.ListN.{length, get_or, set, length-set}
use lib.Seq.{ext_get_or}
use Rattle.std.proofs.lemmas.List.{get_or-set_same, get_or-set_other}
use Rattle.text.specs.Reading.{is_digit, taken_at}
use Rattle.text.specs.Parts.{one_digit, tabbed, plain_line, words_to}
use Rattle.text.proofs.Bools.{and_both, digit_in}
use Rattle.text.proofs.Lines.{byte_in}
use Rattle.text.proofs.Runs.{found_one}
use Rattle.text.proofs.Takes.{Left, left_start, left_short, left_end, ends_here}

-- a field of one digit, the byte that ends it, and what it spells
record Digit (s : List ℕ) (i end : ℕ) : Type 0 where
  digit : is_digit (get_or s i 0) ≡ true
  spell : get_or s i 0 - 48 ≡ get_or s i 0 % 16
  after : get_or s (i + 1) 0 ≡ end

digit_there : (s : List ℕ) (i end : ℕ) → one_digit s i end ≡ true → Digit s i end
digit_there s i end e =
    let p = and_both (eqb (get_or s (i + 1) 0) end) (is_digit (get_or s i 0)) e in
    let d = digit_in (get_or s i 0) p.1 in
    record { digit = p.1; spell = omega arith; after = eqb-true _ _ p.0 }

-- k fields that a tab ends each
left_fields : (s : List ℕ) (from k : ℕ) → from + 2 * k ≤ length s → tabbed k s from ≡ true → Left s from (from + 2 * k) k (words_to k s from)
unfolding tabbed words_to
left_fields s from zero h e = rw (add-zero from) (left_start s from)
left_fields s from (suc k) h e =
    let p = and_both (tabbed k s from) (one_digit s (from + 2 * k) 9) e in
    let d = digit_there s (from + 2 * k) 9 p.1 in
    let z : from + 2 * k + 2 ≡ from + 2 * suc k = omega arith in
    rw (z, add-one k)
    at
    (left_short s from (from + 2 * k) k (words_to k s from) (left_fields s from k (omega arith) p.0) _
    (record { within = omega arith; digit = d.digit; spell = d.spell; tab = d.after }))

-- words that are the digits one by one
words_long : (k : ℕ) (s : List ℕ) (from : ℕ) → length (words_to k s from) ≡ 8
unfolding words_to
words_long zero s from = refl
words_long (suc k) s from = simp length-set (words_long k s from)

words_at : (k : ℕ) (s : List ℕ) (from i : ℕ) → i < k → k ≤ 8 → get_or (words_to k s from) i 0 ≡ get_or s (from + 2 * i) 0 % 16
unfolding words_to
words_at zero s from i h l = absurd (omega arith)
words_at (suc k) s from i h l = by (eqb i k) refl (words_at k s from i)
  where
    by : (t : Bool) → eqb i k ≡ t → (i < k → k ≤ 8 → get_or (words_to k s from) i 0 ≡ get_or s (from + 2 * i) 0 % 16)
        → get_or (set (words_to k s from) k (get_or s (from + 2 * k) 0 % 16)) i 0 ≡ get_or s (from + 2 * i) 0 % 16
    by true e f = rw (eqb-true i k e) (get_or-set_same (words_to k s from) k _ 0 (omega (arith, words_long k s from)))
    by false e f = let n = eqb-false i k e in get_or-set_other _ k i _ 0 n ∙ f (omega arith) (omega arith)

pub words_are : (s : List ℕ) (from : ℕ) (w : List ℕ) → length w ≡ 8 → ((i : ℕ) → i < 8 → get_or w i 0 ≡ get_or s (from + 2 * i) 0 % 16)
    → w ≡ words_to 8 s from
words_are s from w l h = ext_get_or 0 w (words_to 8 s from) (l ∙ sym (words_long 8 s from)) (λ i k. h i (omega arith) ∙ sym (words_at 8 s from i (omega arith) (omega arith)))

-- the whole line
pub plain_taken : (s : List ℕ) (from : ℕ) → from + 16 ≤ length s → plain_line s from ≡ true
    → record { count = 8; words = words_to 8 s from; next = from + 16 } ≡ taken_at s from
unfolding plain_line words_to
plain_taken s from h e =
    let p = and_both (tabbed 7 s from) (one_digit s (from + 14) 10) e in
    let d = digit_there s (from + 14) 10 p.1 in
    let k : from + 14 + 1 < length s = omega arith in
    let z : from + 16 ≡ from + 14 + 1 + 1 = omega arith in
    let f = found_one s (from + 14) (omega arith) d.digit 10 (sym d.after ∙ byte_in s (from + 14 + 1) k) (λ m. rw d.after) in
    rw (z, ← d.spell)
    (ends_here s (from + 14 + 1) 8 _ k d.after
    ∙ left_end s from (from + 14) 7 (words_to 7 s from) (left_fields s from 7 (omega arith) p.0) _ f (omega arith) (λ q. omega arith))
