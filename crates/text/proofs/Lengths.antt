-- A line of k readable numbers has at most 11 k - 1 bytes. Assumes nothing.
use Prim.Native.Nat.{ℕ, ◌*◌, ◌≤◌, ◌<◌}
use mathlib.Core.Path.{◌≡◌, refl, ap}
use mathlib.Core.Bool.{Bool, true, false, cond as pick}
use mathlib.Core.List.{List, [], ◌∷◌, ◌++◌}
use mathlib.Core.Option.{Option, none, some}
use native.Mathlib.Omega.{arith}
use borrow.Author.Tests.{eqb-true}
use lib.Dec.{eqb}
use lib.ListN.{length, length-append}
use Rattle.text.specs.Lines.{onto}
use Rattle.text.specs.Reading.{fields_of, value_of, both, values_of}
use Rattle.text.specs.Parts.{numbers}
use Rattle.text.proofs.Values.{ten_bytes}

-- fields, each after a tab
unfoldable pub after_tabs : List (List ℕ) → List ℕ
after_tabs [] = []
after_tabs (f ∷ fs) = 9 ∷ (f ++ after_tabs fs)

tabs_onto : (b : ℕ) (fs : List (List ℕ)) (s : List ℕ) → after_tabs fs ≡ 9 ∷ s → after_tabs (onto b fs) ≡ 9 ∷ (b ∷ s)
unfolding after_tabs
tabs_onto b [] s e = let z : ◌≡◌ {A = ℕ} 0 1 = cc in absurd (omega arith)
tabs_onto b (f ∷ fs) s e = let h : f ++ after_tabs fs ≡ s = cc in rw h

tab_cons : (b : ℕ) (s : List ℕ) (t : Bool) → eqb b 9 ≡ t → after_tabs (fields_of s) ≡ 9 ∷ s
    → after_tabs (pick t ([] ∷ fields_of s) (onto b (fields_of s))) ≡ 9 ∷ (b ∷ s)
unfolding after_tabs
tab_cons b s true e h = rw (eqb-true b 9 e, h)
tab_cons b s false e h = tabs_onto b (fields_of s) s h

-- a line's fields are all of it
pub tabs_fields : (s : List ℕ) → after_tabs (fields_of s) ≡ 9 ∷ s
unfolding after_tabs fields_of
tabs_fields [] = refl
tabs_fields (b ∷ s) = tab_cons b s (eqb b 9) refl (tabs_fields s)

-- the first of readable numbers
pub record Both (x : Option ℕ) (o : Option (List ℕ)) (ns : List ℕ) : Type 0 where
  pub head : ℕ
  pub tail : List ℕ
  pub first : x ≡ some head
  pub others : o ≡ some tail
  pub all : ns ≡ head ∷ tail

pub both_some : (x : Option ℕ) (o : Option (List ℕ)) (ns : List ℕ) → both x o ≡ some ns → Both x o ns
both_some none o ns e = let z : ◌≡◌ {A = ℕ} 0 1 = cc in absurd (omega arith)
both_some (some n) none ns e = let z : ◌≡◌ {A = ℕ} 0 1 = cc in absurd (omega arith)
both_some (some n) (some ms) ns e = record { head = n; tail = ms; first = refl; others = refl; all = (cc) }

short_fields : (fs : List (List ℕ)) (ns : List ℕ) → values_of fs ≡ some ns → length (after_tabs fs) ≤ 11 * length ns
unfolding values_of after_tabs
short_fields [] ns e = omega arith
short_fields (f ∷ fs) ns e =
    let h = both_some (value_of f) (values_of fs) ns e in
    let r = ten_bytes f h.head h.first in
    let i = short_fields fs h.tail h.others in
    let l = ap length h.all in
    let a = length-append f (after_tabs fs) in
    omega arith

pub short_line : (l ns : List ℕ) → numbers l ≡ some ns → length l < 11 * length ns
short_line l ns e = let a = short_fields (fields_of l) ns e in let b = ap length (tabs_fields l) in omega arith
