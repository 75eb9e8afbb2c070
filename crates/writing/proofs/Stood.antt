-- A line that was read is written as it stood. Assumes nothing.
use Prim.Native.Nat.{ℕ, ◌≤◌}
use mathlib.Core.Path.{◌≡◌, refl, ap, ◌∙◌}
use mathlib.Core.Bool.{true, false}
use mathlib.Core.List.{List, [], ◌∷◌, ◌++◌, append_assoc, append-nil}
use mathlib.Core.Option.{some}
use native.Mathlib.Omega.{arith}
use borrow.Author.Tests.{eq-eqb, ne_eqb}
use lib.ListN.{length, get_or, drop}
use Rattle.std.proofs.lemmas.Fmt.{decimal-digits_value}
use Rattle.std.proofs.lemmas.Str.Parse.{digits_value_short}
use Rattle.text.specs.Reading.{fields_of, unpadded, spelled, value_of, values_of}
use Rattle.text.proofs.Values.{field_is}
use Rattle.text.proofs.Lengths.{after_tabs, tabs_fields, both_some}
use Rattle.writing.specs.Writing.{decimal, ended, line_of}
use Rattle.writing.proofs.Digits.{decimal_is}
use Rattle.writing.proofs.Laws.{own}

-- ---- a number's text is the field that it was read from

-- a first digit 0 stands alone
zero_alone : (f : List ℕ) → 1 ≤ length f → unpadded f ≡ true → get_or f 0 0 ≡ 48 → length f ≡ 1
unfolding unpadded
zero_alone [] h u e = omega arith
zero_alone (b ∷ []) h u e = refl
zero_alone (b ∷ c ∷ f) h u e = absurd (let no : false ≡ true = rw (eq-eqb b 48 e) at u in cc)

-- the text of a number that was read is the field
pub decimal_stands : (f : List ℕ) (n : ℕ) → value_of f ≡ some n → decimal n ≡ f
decimal_stands f n e =
    let g = field_is f n e in
    let small = digits_value_short own f 10 g.2 g.1 in
    rw (← g.4, decimal_is (spelled 0 f) small) (decimal-digits_value own f g.2 g.0 (zero_alone f g.0 g.3) (omega arith))

-- ---- numbers as a line are the line that they were read from

-- with a tab before it, the line is the fields, each after a tab, and a line feed
fields_stand : (f : List ℕ) (fs : List (List ℕ)) (ns : List ℕ) → values_of (f ∷ fs) ≡ some ns → 9 ∷ line_of ns ≡ after_tabs (f ∷ fs) ++ (10 ∷ [])
unfolding values_of after_tabs line_of ended
fields_stand f [] ns e =
    let h = both_some (value_of f) (some []) ns e in
    let t : h.tail ≡ [] = let o = h.others in cc in
    rw (h.all, t, decimal_stands f h.head h.first) (simp append-nil)
fields_stand f (g ∷ gs) ns e =
    let h = both_some (value_of f) (values_of (g ∷ gs)) ns e in
    let i = fields_stand g gs h.tail h.others in
    let t = ap length (both_some (value_of g) (values_of gs) h.tail h.others).all in
    rw (h.all, ne_eqb (length h.tail) 0 (omega arith), decimal_stands f h.head h.first)
    (rw (append_assoc f (9 ∷ []) (line_of h.tail), append_assoc f (after_tabs (g ∷ gs)) (10 ∷ []), i))

-- numbers that were read are written as the line stood
pub line_stands : (l ns : List ℕ) → values_of (fields_of l) ≡ some ns → line_of ns ≡ l ++ (10 ∷ [])
unfolding after_tabs
line_stands l ns e = by (fields_of l) e (tabs_fields l)
  where
    by : (fs : List (List ℕ)) → values_of fs ≡ some ns → after_tabs fs ≡ 9 ∷ l → line_of ns ≡ l ++ (10 ∷ [])
    by [] p q = absurd (let z : ◌≡◌ {A = ℕ} 0 1 = cc in omega arith)
    by (f ∷ fs) p q = ap (drop 1) (fields_stand f fs ns p ∙ ap (λ (s : List ℕ). s ++ (10 ∷ [])) q)
