-- Numbers as a line, put one after another. Assumes nothing.
use Prim.Native.Nat.{ℕ, ◌+◌, ◌-◌, ◌*◌, ◌≤◌, ◌<◌}
use mathlib.Core.Path.{◌≡◌, refl, sym, ap, ◌∙◌}
use mathlib.Core.Bool.{Bool, true, false, cond as pick}
use mathlib.Core.List.{List, [], ◌∷◌, ◌++◌}
use native.Mathlib.Omega.{arith}
use native.Mathlib.Numerals.{add-one}
use borrow.Author.Tests.{le-leb, lt-leb, eqb-true, eqb-false, eq-eqb, ne_eqb}
use lib.Dec.{eqb}
use lib.ListN.{length, get_or, drop, length-append, length-drop, drop_of_length-le}
use lib.Seq.{sets, drop-cons}
use Rattle.text.proofs.Stores.{sets_append}
use Rattle.writing.specs.Writing.{ended, line_of, lined, lined_count}
use Rattle.writing.proofs.Puts.{decimal_short, length_ended}

-- ---- a line is short

pub line_short : (ns : List ℕ) → length (line_of ns) ≤ 11 * length ns
unfolding line_of
line_short [] = omega arith
line_short (n ∷ ns) =
    let b : ℕ = pick (eqb (length ns) 0) 10 9 in
    let i = line_short ns in
    let e = length_ended n b in
    let d = decimal_short n in
    let l = length-append (ended n b) (line_of ns) in
    omega arith

-- ---- one number more is put

-- the byte after the number at place k of n
same_end : (ns : List ℕ) (k : ℕ) → k < length ns → eqb (k + 1) (length ns) ≡ eqb (length (drop (k + 1) ns)) 0
same_end ns k h = by (eqb (k + 1) (length ns)) refl
  where
    l : length (drop (k + 1) ns) ≡ length ns - (k + 1)
    l = length-drop (k + 1) ns

    by : (t : Bool) → eqb (k + 1) (length ns) ≡ t → eqb (k + 1) (length ns) ≡ eqb (length (drop (k + 1) ns)) 0
    by true e = let g = eqb-true (k + 1) (length ns) e in e ∙ sym (eq-eqb (length (drop (k + 1) ns)) 0 (omega (arith, l)))
    by false e = let g = eqb-false (k + 1) (length ns) e in e ∙ sym (ne_eqb (length (drop (k + 1) ns)) 0 (λ z. g (omega (arith, l))))

-- ---- what is left to put gives the whole line

pub record Lining (d₀ ns : List ℕ) (at k p : ℕ) (d : List ℕ) : Type 0 where
  pub total : p + length (line_of (drop k ns)) ≡ at + length (line_of ns)
  pub bytes : sets d p (line_of (drop k ns)) ≡ sets d₀ at (line_of ns)

pub lining_start : (d ns : List ℕ) (at : ℕ) → Lining d ns at 0 at d
lining_start d ns at = record { total = refl; bytes = refl }

module _ (d₀ ns : List ℕ) (at k p : ℕ) (d : List ℕ) (g : Lining d₀ ns at k p d) where
  module _ (h : k < length ns) where
    left : line_of (drop k ns) ≡ ended (get_or ns k 0) (pick (eqb (k + 1) (length ns)) 10 9) ++ line_of (drop (k + 1) ns)
    unfolding line_of
    left =
        ap line_of (drop-cons ns k 0 h)
        ∙ ap (λ (j : ℕ). ended (get_or ns k 0) (pick (eqb (length (drop j ns)) 0) 10 9) ++ line_of (drop j ns)) (sym (add-one k))
        ∙ ap (λ (t : Bool). ended (get_or ns k 0) (pick t 10 9) ++ line_of (drop (k + 1) ns)) (sym (same_end ns k h))

    pub lining_more : (b q : ℕ) (d' : List ℕ) → b ≡ pick (eqb (k + 1) (length ns)) 10 9 → q ≡ p + length (ended (get_or ns k 0) b)
        → d' ≡ sets d p (ended (get_or ns k 0) b) → Lining d₀ ns at (k + 1) q d'
    lining_more b q d' e f w =
        let x = ended (get_or ns k 0) b in
        let y = line_of (drop (k + 1) ns) in
        let z : line_of (drop k ns) ≡ x ++ y = left ∙ rw e refl in
        record {
          total = let l = ap length z ∙ length-append x y in let t = g.total in omega arith;
          bytes = rw (w, f) (sym (sets_append x y d p)) ∙ ap (sets d p) (sym z) ∙ g.bytes;
        }

  pub lining_end : length ns ≤ k → (p ≡ at + length (line_of ns)) × (d ≡ sets d₀ at (line_of ns))
  unfolding line_of
  lining_end h =
      let z : line_of (drop k ns) ≡ [] = rw (drop_of_length-le ns h) in
      (let l = ap length z in let t = g.total in omega arith, ap (sets d p) (sym z) ∙ g.bytes)

-- ---- where a line is put

module _ (d : List ℕ) (at : ℕ) (ns : List ℕ) where
  pub no_line : length d < at + 11 * length ns → (0 ≡ lined_count d at ns) × (d ≡ lined d at ns)
  unfolding lined_count lined
  no_line h = rw (lt-leb _ _ h) (refl, refl)

  pub is_line : (r : ℕ) (d' : List ℕ) → at + 11 * length ns ≤ length d → r ≡ at + length (line_of ns) → d' ≡ sets d at (line_of ns)
      → (r - at ≡ lined_count d at ns) × (d' ≡ lined d at ns)
  unfolding lined_count lined
  is_line r d' h e f = rw (le-leb _ _ h) (omega arith, f)
