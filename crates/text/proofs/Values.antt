-- The number of a field. Assumes nothing.
use Prim.Native.Nat.{ℕ, suc, ◌+◌, ◌-◌, ◌*◌, ◌^◌, ◌≤◌, ◌<◌}
use mathlib.Core.Path.{◌≡◌, refl, sym, ap, subst, ◌∙◌}
use mathlib.Core.Bool.{Bool, true, false, not, cond as pick, ◌&&◌, and-false, false≢true}
use mathlib.Core.List.{List, [], ◌∷◌, ◌++◌}
use mathlib.Core.Option.{Option, none, some}
use native.Mathlib.Omega.{arith}
use native.Mathlib.Nat.{le_trans, pow-succ', mul-le-mul_right, pow-le-pow_right, mul_assoc}
use borrow.Author.Tests.{leb-true, leb-false, le-leb, lt-leb, eqb-false, ne_eqb}
use lib.Dec.{leb, eqb}
use lib.ListN.{length, get_or}
use Rattle.text.specs.Reading.{is_digit, all_digits, unpadded, spelled, value_of}
use Rattle.text.proofs.Bools.{and_both, digit_in, cond_some}

-- ---- what digits spell

pub spelled_append : (f g : List ℕ) (v : ℕ) → spelled v (f ++ g) ≡ spelled (spelled v f) g
unfolding spelled
spelled_append [] g v = refl
spelled_append (b ∷ f) g v = spelled_append f g (v * 10 + (b - 48))

pub spelled_snoc : (f : List ℕ) (v c : ℕ) → spelled v (f ++ (c ∷ [])) ≡ spelled v f * 10 + (c - 48)
unfolding spelled
spelled_snoc f v c = spelled_append f (c ∷ []) v

-- more digits spell no less
pub spelled_le : (v : ℕ) (f : List ℕ) → v ≤ spelled v f
unfolding spelled
spelled_le v [] = omega arith
spelled_le v (b ∷ f) = let up = spelled_le (v * 10 + (b - 48)) f in omega arith

-- each is a further place
pub spelled_up : (v : ℕ) (f : List ℕ) → v * 10 ^ length f ≤ spelled v f
unfolding spelled
spelled_up v [] = omega arith
spelled_up v (b ∷ f) =
    le_trans
    (subst (λ (k : ℕ). k ≤ (v * 10 + (b - 48)) * 10 ^ length f)
    (mul_assoc v 10 (10 ^ length f) ∙ ap (λ (k : ℕ). v * k) (sym (pow-succ' 10 (length f))))
    (mul-le-mul_right (10 ^ length f) (omega arith)))
    (spelled_up (v * 10 + (b - 48)) f)

-- eleven digits, the first not 0, spell too much
eleven : (v : ℕ) (f : List ℕ) → 1 ≤ v → 9 < length f → 4294967295 < spelled v f
eleven v f h k =
    let p : 10 ^ 10 ≤ 10 ^ length f = pow-le-pow_right (omega arith) k in
    let q : 1 * 10 ^ length f ≤ v * 10 ^ length f = mul-le-mul_right (10 ^ length f) h in
    let r = spelled_up v f in
    omega arith

-- ---- a field of digits

pub all_append : (f g : List ℕ) → all_digits f ≡ true → all_digits (f ++ g) ≡ all_digits g
unfolding all_digits
all_append [] g p = refl
all_append (b ∷ f) g p =
    let h = and_both (is_digit b) (all_digits f) p in
    rw (h.0, all_append f g h.1)

pub all_snoc : (f : List ℕ) (c : ℕ) → all_digits f ≡ true → is_digit c ≡ true → all_digits (f ++ (c ∷ [])) ≡ true
unfolding all_digits
all_snoc f c p q = all_append f (c ∷ []) p ∙ rw q

pub unpadded_lead : (f : List ℕ) → (get_or f 0 0 ≡ 48 → ⊥) → unpadded f ≡ true
unfolding unpadded
unpadded_lead [] h = refl
unpadded_lead (b ∷ []) h = refl
unpadded_lead (b ∷ c ∷ f) h = rw (ne_eqb b 48 h)

pub unpadded_one : (f : List ℕ) → length f ≤ 1 → unpadded f ≡ true
unfolding unpadded
unpadded_one [] h = refl
unpadded_one (b ∷ []) h = refl
unpadded_one (b ∷ c ∷ f) h = absurd (omega arith)

-- the first of more digits than one is not 0
pub lead_some : (b : ℕ) (f : List ℕ) → unpadded (b ∷ f) ≡ true → is_digit b ≡ true → 1 ≤ length f → 1 ≤ b - 48
unfolding unpadded
lead_some b [] u d h = absurd (omega arith)
lead_some b (c ∷ f) u d h = lead (eqb b 48) refl u
  where
    lead : (t : Bool) → eqb b 48 ≡ t → not t ≡ true → 1 ≤ b - 48
    lead true e u = absurd (false≢true u)
    lead false e u = let k = digit_in b d in let n = eqb-false b 48 e in omega arith

at_most_ten : (f : List ℕ) → all_digits f ≡ true → unpadded f ≡ true → spelled 0 f ≤ 4294967295 → length f ≤ 10
unfolding all_digits spelled
at_most_ten [] p u k = omega arith
at_most_ten (b ∷ f) p u k = ten (leb (length f) 9) refl
  where
    ten : (t : Bool) → leb (length f) 9 ≡ t → suc (length f) ≤ 10
    ten true e = let h = leb-true (length f) 9 e in omega arith
    ten false e =
        let h = leb-false (length f) 9 e in
        let d = (and_both (is_digit b) (all_digits f) p).0 in
        let x = eleven (0 * 10 + (b - 48)) f (let l = lead_some b f u d (omega arith) in omega arith) h in
        absurd (omega arith)

pub value_some : (f : List ℕ) → 1 ≤ length f → all_digits f ≡ true → unpadded f ≡ true → spelled 0 f ≤ 4294967295
    → value_of f ≡ some (spelled 0 f)
unfolding value_of
value_some f h p u k =
    rw (le-leb 1 (length f) h, le-leb (length f) 10 (at_most_ten f p u k), p, u, le-leb (spelled 0 f) 4294967295 k)

-- what a readable field is
pub field_is : (f : List ℕ) (n : ℕ) → value_of f ≡ some n
    → (1 ≤ length f) × (length f ≤ 10) × (all_digits f ≡ true) × (unpadded f ≡ true) × (spelled 0 f ≡ n)
unfolding value_of
field_is f n e =
    let a = cond_some _ _ _ e in
    let b = and_both (leb 1 (length f) && leb (length f) 10 && all_digits f && unpadded f) (leb (spelled 0 f) 4294967295) a in
    let c = and_both (leb 1 (length f) && leb (length f) 10 && all_digits f) (unpadded f) b.0 in
    let d = and_both (leb 1 (length f) && leb (length f) 10) (all_digits f) c.0 in
    let g = and_both (leb 1 (length f)) (leb (length f) 10) d.0 in
    let v : some (spelled 0 f) ≡ some n = rw a at e in
    (leb-true 1 (length f) g.0, leb-true (length f) 10 g.1, d.1, c.1, (cc))

-- it has at most ten bytes
pub ten_bytes : (f : List ℕ) (n : ℕ) → value_of f ≡ some n → length f ≤ 10
ten_bytes f n e = (field_is f n e).1

-- ---- fields that are not readable

no_third : (l m z : Bool) (o : Option ℕ) → pick (l && false && m && z) o none ≡ none
no_third true m z o = refl
no_third false m z o = refl

no_fourth : (l z : Bool) (o : Option ℕ) → pick (l && false && z) o none ≡ none
no_fourth true z o = refl
no_fourth false z o = refl

pub no_digit : (f g : List ℕ) (b : ℕ) → all_digits f ≡ true → is_digit b ≡ false → value_of (f ++ (b ∷ g)) ≡ none
unfolding value_of all_digits
no_digit f g b p d =
    rw (all_append f (b ∷ g) p, d) (no_third (leb 1 (length (f ++ (b ∷ g))) && leb (length (f ++ (b ∷ g))) 10) _ _ _)

pub too_large : (f g : List ℕ) → 4294967295 < spelled 0 f → value_of (f ++ g) ≡ none
unfolding value_of
too_large f g h =
    rw (lt-leb (spelled 0 (f ++ g)) 4294967295 (let a = spelled_append f g 0 in let b = spelled_le (spelled 0 f) g in omega arith))
    (rw (and-false (leb 1 (length (f ++ g)) && leb (length (f ++ g)) 10 && all_digits (f ++ g) && unpadded (f ++ g))))

pub padded : (f g : List ℕ) → 1 < length f → get_or f 0 0 ≡ 48 → value_of (f ++ g) ≡ none
unfolding value_of unpadded
padded [] g h e = absurd (omega arith)
padded (b ∷ []) g h e = absurd (omega arith)
padded (b ∷ c ∷ f) g h e =
    rw e (no_fourth (leb 1 (length (48 ∷ c ∷ (f ++ g))) && leb (length (48 ∷ c ∷ (f ++ g))) 10 && all_digits (48 ∷ c ∷ (f ++ g))) _ _)
