-- Whole lines of an input, and what follows them. Assumes nothing.
use Prim.Native.Nat.{ℕ, zero, suc, ◌≤◌}
use mathlib.Core.Path.{◌≡◌, refl, sym, ap, ◌∙◌}
use mathlib.Core.Bool.{Bool, true, false, not, cond as pick, ◌&&◌}
use mathlib.Core.List.{List, [], ◌∷◌, ◌++◌, append_assoc}
use native.Mathlib.Omega.{arith}
use borrow.Author.Tests.{eqb-true, eqb-false, ne_eqb, eq-eqb}
use lib.Dec.{eqb}
use lib.ListN.{length, take, drop, take-append-drop}
use lib.Seq.{length-take-le, drop-append-le}
use Rattle.text.specs.Lines.{onto, lines_of, passed_by}
use Rattle.text.proofs.Lines.{free, lines_cons}
use Rattle.text.proofs.Sequences.{lines_split, passed_by_within}
use Rattle.held.specs.Wholes.{whole_of}

-- how `whole_of` goes on: no line feed follows and this byte is one, or none, or one follows
data Case (b : ℕ) (s : List ℕ) : Type 0 where
  here : whole_of s ≡ 0 → b ≡ 10 → whole_of (b ∷ s) ≡ 1 → Case b s
  none : whole_of s ≡ 0 → (b ≡ 10 → ⊥) → whole_of (b ∷ s) ≡ 0 → Case b s
  later : (whole_of s ≡ 0 → ⊥) → whole_of (b ∷ s) ≡ suc (whole_of s) → Case b s

cases : (b : ℕ) (s : List ℕ) → Case b s
unfolding whole_of
cases b s = by (eqb (whole_of s) 0) (eqb b 10) refl refl
  where
    by : (t u : Bool) → eqb (whole_of s) 0 ≡ t → eqb b 10 ≡ u → Case b s
    by true true e f = here (eqb-true _ _ e) (eqb-true _ _ f) (rw (e, f))
    by true false e f = none (eqb-true _ _ e) (eqb-false _ _ f) (rw (e, f))
    by false u e f = later (eqb-false _ _ e) (rw e)

one_feed : (b : ℕ) → b ≡ 10 → whole_of (b ∷ []) ≡ 1
unfolding whole_of
one_feed b e = rw (eq-eqb b 10 e)

none_none : whole_of [] ≡ 0
unfolding whole_of
none_none = refl

feed_later : (b : ℕ) (s : List ℕ) → (whole_of s ≡ 0 → ⊥) → whole_of (b ∷ s) ≡ suc (whole_of s)
unfolding whole_of
feed_later b s h = rw (ne_eqb (whole_of s) 0 h)

-- the whole lines are whole, and no line feed follows them
pub record Cut (s : List ℕ) : Type 0 where
  pub within : whole_of s ≤ length s
  pub whole : whole_of (take (whole_of s) s) ≡ whole_of s
  pub rest : whole_of (drop (whole_of s) s) ≡ 0

cut_cons : (b : ℕ) (s : List ℕ) → Cut s → Case b s → Cut (b ∷ s)
cut_cons b s c (here e f w) = record { within = omega arith; whole = rw w (one_feed b f); rest = rw w e }
cut_cons b s c (none e f w) = record { within = omega arith; whole = rw w none_none; rest = rw w w }
cut_cons b s c (later e w) =
    record {
      within = let h = c.within in omega arith;
      whole = rw w (feed_later b (take (whole_of s) s) (λ z. e (sym c.whole ∙ z)) ∙ ap suc c.whole);
      rest = rw w c.rest;
    }

pub cut : (s : List ℕ) → Cut s
unfolding whole_of
cut [] = record { within = omega arith; whole = refl; rest = refl }
cut (b ∷ s) = cut_cons b s (cut s) (cases b s)

-- from any place on, whole lines are whole
rest_whole : (b : ℕ) (s : List ℕ) → whole_of (b ∷ s) ≡ length (b ∷ s) → Case b s → whole_of s ≡ length s
rest_whole b s h (here e f w) = omega arith
rest_whole b s h (none e f w) = absurd (omega arith)
rest_whole b s h (later e w) = omega arith

pub whole_drop : (n : ℕ) (s : List ℕ) → whole_of s ≡ length s → whole_of (drop n s) ≡ length (drop n s)
whole_drop zero s h = h
whole_drop (suc n) [] h = h
whole_drop (suc n) (b ∷ s) h = whole_drop n s (rest_whole b s h (cases b s))

-- ---- lines after whole lines

onto_append : (t : Bool) (x : ℕ) (l : List (List ℕ)) (p : List ℕ) (ps q : List (List ℕ)) → l ≡ p ∷ ps
    → pick t ([] ∷ (l ++ q)) (onto x (l ++ q)) ≡ pick t ([] ∷ l) (onto x l) ++ q
onto_append true x l p ps q e = refl
onto_append false x l p ps q e = rw e

pub lines_whole : (a b : List ℕ) → whole_of a ≡ length a → lines_of (a ++ b) ≡ lines_of a ++ lines_of b
unfolding lines_of
lines_whole [] b h = refl
lines_whole (x ∷ []) b h = one (cases x [])
  where
    one : Case x [] → lines_of (x ∷ b) ≡ lines_of (x ∷ []) ++ lines_of b
    one (here e f w) = rw (eq-eqb x 10 f)
    one (none e f w) = absurd (omega arith)
    one (later e w) = absurd (e none_none)
lines_whole (x ∷ y ∷ a) b h = more (cases x (y ∷ a)) (λ e. lines_whole (y ∷ a) b e)
  where
    more : Case x (y ∷ a) → (whole_of (y ∷ a) ≡ length (y ∷ a) → lines_of (y ∷ (a ++ b)) ≡ lines_of (y ∷ a) ++ lines_of b)
        → lines_of (x ∷ (y ∷ (a ++ b))) ≡ lines_of (x ∷ (y ∷ a)) ++ lines_of b
    more (here e f w) i = absurd (omega arith)
    more (none e f w) i = absurd (omega arith)
    more (later e w) i =
        ap (λ (l : List (List ℕ)). pick (eqb x 10) ([] ∷ l) (onto x l)) (i (omega arith))
        ∙ onto_append (eqb x 10) x (lines_of (y ∷ a)) _ _ (lines_of b) (lines_cons a y)

-- bytes with no line feed
pub no_feed : (s : List ℕ) → whole_of s ≡ 0 → free 10 s ≡ true
unfolding free
no_feed [] h = refl
no_feed (b ∷ s) h = by (cases b s) (λ e. no_feed s e)
  where
    by : Case b s → (whole_of s ≡ 0 → free 10 s ≡ true) → not (eqb b 10) && free 10 s ≡ true
    by (here e f w) i = absurd (omega arith)
    by (none e f w) i = rw (ne_eqb b 10 f, i e)
    by (later e w) i = absurd (omega arith)

-- ---- some of the whole lines, and what is left with what follows

lines_after : (a x : List ℕ) (most : ℕ) → whole_of a ≡ length a
    → lines_of (a ++ x) ≡ take most (lines_of a) ++ lines_of (drop (passed_by most a) a ++ x)
lines_after a x most h =
    lines_whole a x h
    ∙ ap (λ (ls : List (List ℕ)). ls ++ lines_of x) (lines_split most a)
    ∙ append_assoc (take most (lines_of a)) _ _
    ∙ ap (λ (ls : List (List ℕ)). take most (lines_of a) ++ ls) (sym (lines_whole (drop (passed_by most a) a) x (whole_drop (passed_by most a) a h)))

module _ (s r : List ℕ) (most : ℕ) where
  abbrev a : List ℕ
  a = take (whole_of s) s

  abbrev b : List ℕ
  b = drop (whole_of s) s

  abbrev n : ℕ
  n = passed_by most a

  left : drop n a ++ (b ++ r) ≡ drop n s ++ r
  left =
      sym (append_assoc (drop n a) b r)
      ∙ ap (λ (x : List ℕ). x ++ r) (sym (drop-append-le n a b (passed_by_within most a)) ∙ ap (drop n) (take-append-drop (whole_of s) s))

  pub lines_turn : lines_of (s ++ r) ≡ take most (lines_of a) ++ lines_of (drop n s ++ r)
  lines_turn =
      let c = cut s in
      ap (λ (x : List ℕ). lines_of (x ++ r)) (sym (take-append-drop (whole_of s) s))
      ∙ ap lines_of (append_assoc a b r)
      ∙ lines_after a (b ++ r) most (c.whole ∙ sym (length-take-le (whole_of s) s c.within))
      ∙ ap (λ (x : List ℕ). take most (lines_of a) ++ lines_of x) left
