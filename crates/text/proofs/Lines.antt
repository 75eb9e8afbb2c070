-- Where a line ends. Assumes nothing.
use Prim.Native.Nat.{ℕ, zero, suc, ◌+◌, ◌-◌, ◌≤◌, ◌<◌}
use mathlib.Core.Path.{◌≡◌, refl, sym, ap, ◌∙◌}
use mathlib.Core.Bool.{Bool, true, false, not, cond as pick, ◌&&◌}
use mathlib.Core.List.{List, [], ◌∷◌, ◌++◌}
use native.Mathlib.Omega.{arith}
use native.Mathlib.Numerals.{add-one}
use borrow.Author.Tests.{eq-eqb, ne_eqb, not-true, leb-true, leb-false}
use lib.Dec.{eqb, leb}
use lib.ListN.{length, get_or, drop, length-drop, drop_of_length-le, get_or-eq_default}
use lib.Seq.{drop-cons, drop-drop, drop-append-add, take_all}
use Rattle.std.specs.Prelude.{slice_range}
use Rattle.text.specs.Lines.{onto, lines_of, first_line, passed, passed_by}
use Rattle.text.specs.Reading.{is_digit, all_digits}
use Rattle.text.proofs.Bools.{and_both, digit_in}

module _ (s : List ℕ) (i : ℕ) (h : i < length s) where
  pub passed_end : get_or s i 0 ≡ 10 → passed (drop i s) ≡ 1
  unfolding passed
  passed_end e = rw (drop-cons s i 0 h, eq-eqb _ _ e)

  pub passed_more : (get_or s i 0 ≡ 10 → ⊥) → i + passed (drop i s) ≡ i + 1 + passed (drop (i + 1) s)
  unfolding passed
  passed_more e = rw (drop-cons s i 0 h, ne_eqb _ _ e, add-one i) (omega arith)

  pub first_end : get_or s i 0 ≡ 10 → first_line (drop i s) ≡ []
  unfolding first_line
  first_end e = rw (drop-cons s i 0 h, eq-eqb _ _ e)

  pub first_here : (get_or s i 0 ≡ 10 → ⊥) → first_line (drop i s) ≡ get_or s i 0 ∷ first_line (drop (i + 1) s)
  unfolding first_line
  first_here e = rw (drop-cons s i 0 h, ne_eqb _ _ e, add-one i)

any_default : (s : List ℕ) (i d e : ℕ) → i < length s → get_or s i d ≡ get_or s i e
any_default [] i d e h = absurd (omega arith)
any_default (x ∷ s) zero d e h = refl
any_default (x ∷ s) (suc i) d e h = any_default s i d e (omega arith)

-- the byte at a place, and a line feed at the end of input
pub byte_in : (s : List ℕ) (i : ℕ) → i < length s → get_or s i 0 ≡ get_or s i 10
byte_in s i h = any_default s i 0 10 h

pub byte_out : (s : List ℕ) (i : ℕ) → length s ≤ i → 10 ≡ get_or s i 10
byte_out s i h = sym (get_or-eq_default s 10 h)

pub tab_in : (s : List ℕ) (i : ℕ) → get_or s i 10 ≡ 9 → (i < length s) × (get_or s i 0 ≡ 9)
tab_in s i e = by (leb (length s) i) refl
  where
    by : (t : Bool) → leb (length s) i ≡ t → (i < length s) × (get_or s i 0 ≡ 9)
    by true f = absurd (let o = byte_out s i (leb-true _ _ f) in omega arith)
    by false f = let h = leb-false (length s) i f in (h, byte_in s i h ∙ e)

pub passed_none : (s : List ℕ) (i : ℕ) → length s ≤ i → passed (drop i s) ≡ 0
unfolding passed
passed_none s i h = rw (drop_of_length-le s h)

-- the first line feed of an input
passed_first : (s : List ℕ) (i : ℕ) → i < length s → get_or s i 0 ≡ 10 → ((k : ℕ) → k < i → get_or s k 0 ≡ 10 → ⊥) → passed s ≡ i + 1
unfolding passed
passed_first [] i l e h = absurd (omega arith)
passed_first (b ∷ s) zero l e h = rw (eq-eqb b 10 e)
passed_first (b ∷ s) (suc i) l e h =
    rw (ne_eqb b 10 (h 0 (omega arith)), passed_first s i (omega arith) e (λ k m. h (suc k) (omega arith))) (omega arith)

passed_whole : (s : List ℕ) → ((k : ℕ) → k < length s → get_or s k 0 ≡ 10 → ⊥) → passed s ≡ length s
unfolding passed
passed_whole [] h = refl
passed_whole (b ∷ s) h = rw (ne_eqb b 10 (h 0 (omega arith)), passed_whole s (λ k l. h (suc k) (omega arith)))

-- what is left of an input from a place on
pub rest_is : (s rest : List ℕ) (from : ℕ) → rest ≡ slice_range s from (length s) → rest ≡ drop from s
rest_is s rest from e = let l = length-drop from s in e ∙ take_all (length s - from) (drop from s) (omega arith)

pub next_found : (s rest : List ℕ) (from i : ℕ) → rest ≡ slice_range s from (length s) → i < length rest → get_or rest i 0 ≡ 10
    → ((k : ℕ) → k < i → get_or rest k 0 ≡ 10 → ⊥) → from + i + 1 ≡ from + passed (drop from s)
next_found s rest from i e l f h = let p = rw (rest_is s rest from e) at (passed_first rest i l f h) in omega arith

pub next_none : (s rest : List ℕ) (from : ℕ) → rest ≡ slice_range s from (length s) → from ≤ length s
    → ((k : ℕ) → k < length rest → get_or rest k 0 ≡ 10 → ⊥) → length s ≡ from + passed (drop from s)
next_none s rest from e k h =
    let l = length-drop from s in
    let p = rw (rest_is s rest from e) at (passed_whole rest h) in
    omega arith

pub first_none : (s : List ℕ) (i : ℕ) → length s ≤ i → first_line (drop i s) ≡ []
unfolding first_line
first_none s i h = rw (drop_of_length-le s h)

-- ---- bytes with no line feed

-- no byte is x
unfoldable pub free : ℕ → List ℕ → Bool
free x [] = true
free x (b ∷ f) = not (eqb b x) && free x f

pub free_append : (x : ℕ) (f g : List ℕ) → free x f ≡ true → free x g ≡ true → free x (f ++ g) ≡ true
unfolding free
free_append x [] g p q = q
free_append x (b ∷ f) g p q =
    let h = and_both (not (eqb b x)) (free x f) p in
    rw h.0 (free_append x f g h.1 q)

pub free_digits : (x : ℕ) (f : List ℕ) → x < 48 → all_digits f ≡ true → free x f ≡ true
unfolding free all_digits
free_digits x [] k p = refl
free_digits x (b ∷ f) k p =
    let h = and_both (is_digit b) (all_digits f) p in
    let d = digit_in b h.0 in
    rw (ne_eqb b x (omega arith)) (free_digits x f k h.1)

pub first_free : (f u : List ℕ) → free 10 f ≡ true → first_line (f ++ u) ≡ f ++ first_line u
unfolding first_line free
first_free [] u p = refl
first_free (b ∷ f) u p =
    let h = and_both (not (eqb b 10)) (free 10 f) p in
    rw (not-true (eqb b 10) h.0, first_free f u h.1)

pub passed_free : (f u : List ℕ) → free 10 f ≡ true → passed (f ++ u) ≡ length f + passed u
unfolding passed free
passed_free [] u p = omega arith
passed_free (b ∷ f) u p =
    let h = and_both (not (eqb b 10)) (free 10 f) p in
    rw (not-true (eqb b 10) h.0, passed_free f u h.1) (omega arith)

-- ---- the first line, and those after it

lines_tail : (b : ℕ) (s : List ℕ) (t : Bool) → lines_of s ≡ first_line s ∷ lines_of (drop (passed s) s)
    → pick t ([] ∷ lines_of s) (onto b (lines_of s)) ≡ pick t [] (b ∷ first_line s) ∷ lines_of (drop (pick t 1 (suc (passed s))) (b ∷ s))
lines_tail b s true e = refl
lines_tail b s false e = rw e

pub lines_cons : (s : List ℕ) (b : ℕ) → lines_of (b ∷ s) ≡ first_line (b ∷ s) ∷ lines_of (drop (passed (b ∷ s)) (b ∷ s))
unfolding lines_of first_line passed
lines_cons [] b = one (eqb b 10)
  where
    one : (t : Bool) → pick {A = List (List ℕ)} t ([] ∷ []) ((b ∷ []) ∷ []) ≡ pick {A = List ℕ} t [] (b ∷ []) ∷ lines_of (drop (pick {A = ℕ} t 1 1) (b ∷ []))
    one true = refl
    one false = refl
lines_cons (c ∷ s) b = lines_tail b (c ∷ s) (eqb b 10) (lines_cons s c)

pub lines_some : (t : List ℕ) → 0 < length t → lines_of t ≡ first_line t ∷ lines_of (drop (passed t) t)
lines_some [] h = absurd (omega arith)
lines_some (b ∷ s) h = lines_cons s b

pub lines_at : (s : List ℕ) (i : ℕ) → i < length s → lines_of (drop i s) ≡ first_line (drop i s) ∷ lines_of (drop (i + passed (drop i s)) s)
lines_at s i h =
    lines_some (drop i s) (let l = length-drop i s in omega arith)
    ∙ ap (λ (r : List ℕ). first_line (drop i s) ∷ lines_of r) (drop-drop (passed (drop i s)) i s)

-- a line that begins so
pub lines_free : (f u : List ℕ) → 0 < length (f ++ u) → free 10 f ≡ true → lines_of (f ++ u) ≡ (f ++ first_line u) ∷ lines_of (drop (passed u) u)
lines_free f u h p =
    lines_some (f ++ u) h ∙ rw (first_free f u p, passed_free f u p, drop-append-add f u (passed u))

pub passed_nil : (k : ℕ) → passed_by k [] ≡ 0
unfolding passed_by passed
passed_nil zero = refl
passed_nil (suc k) = rw (passed_nil k)
