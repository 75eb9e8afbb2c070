-- What the functions of a turn give each other. Assumes nothing.
use Prim.Native.Nat.{ℕ, ◌-◌, ◌≤◌, min}
use mathlib.Core.Path.{◌≡◌, refl, sym, ap, ◌∙◌}
use mathlib.Core.Bool.{Bool, true, false, cond as pick}
use mathlib.Core.List.{List}
use native.Mathlib.Omega.{arith}
use borrow.Author.Tests.{eqb-false}
use lib.Dec.{eqb}
use lib.ListN.{length, take, drop, length-take, length-drop}
use lib.Seq.{sets, sets-eq, take-append_seam, take_all, take-take}
use Rattle.text.specs.Lines.{passed_by}
use Rattle.lines.specs.declared.kept.Kept.{Kept}
use Rattle.lines.specs.declared.kept.Advanced.{Advanced}
use Rattle.trace.specs.declared.turning.Turned.{Turned}
use Rattle.lines.specs.Chunks.{Lent, most_lines, advanced, lent_after}
use Rattle.trace.specs.Arrivals.{ready_in, clipped, held_after, turned}
use Rattle.held.proofs.Fronts.{take_least, between}
use Rattle.held.specs.Moves.{piece}
use Rattle.held.specs.Wholes.{whole_of}
use Rattle.lines.proofs.Sizes.{read_within, written_fits}

-- ---- what is held

held_short : (s : List ℕ) → length (clipped s) ≤ length s
unfolding clipped
held_short s = by (eqb (whole_of s) 0)
  where
    by : (t : Bool) → length (pick t (take 97 s) s) ≤ length s
    by true = let l = length-take 97 s in omega arith
    by false = omega arith

-- it stands at the front
clipped_front : (s : List ℕ) → take (length (clipped s)) s ≡ clipped s
unfolding clipped
clipped_front s = by (eqb (whole_of s) 0)
  where
    by : (t : Bool) → take (length (pick t (take 97 s) s)) s ≡ pick t (take 97 s) s
    by true = take_least 97 (length (take 97 s)) s (length-take 97 s)
    by false = take_all (length s) s (omega arith)

-- what `hold` moves
pub moved : (d : List ℕ) (from to : ℕ) → from ≤ to → to ≤ length d
    → piece from (length (clipped (take (to - from) (drop from d)))) d ≡ clipped (drop from (take to d))
unfolding piece
moved d from to h k =
    let x : List ℕ = take (to - from) (drop from d) in
    let s = held_short x in
    let l = length-take (to - from) (drop from d) in
    sym (take-take (length (clipped x)) (to - from) (drop from d) (omega arith)) ∙ clipped_front x ∙ ap clipped (sym (between d from to h k))

-- ---- a turn

ready_short : (last : Bool) (s : List ℕ) → length (ready_in last s) ≤ length s
ready_short true s = omega arith
ready_short false s = omega (arith, length-take (whole_of s) s)

module _ (k : Kept) (d : List ℕ) (held to : ℕ) (last : Bool) (l : Lent) (r : Advanced) (e : r ≡ advanced k (ready_in last (take to d)) l) where
  -- the lines answered lie among the bytes held
  pub read_fits : r.read ≤ to
  read_fits =
      let w = read_within k (ready_in last (take to d)) l in
      let s = ready_short last (take to d) in
      let m = length-take to d in
      let x : r.read ≡ (advanced k (ready_in last (take to d)) l).read = ap (λ (a : Advanced). a.read) e in
      omega arith

  module _ (t : to ≡ min held (length d)) where
    all_held : take to d ≡ take held d
    all_held = take_least held to d t

    held_is : clipped (drop r.read (take to d)) ≡ held_after (most_lines k l) last (take held d)
    unfolding advanced held_after
    held_is = rw (e, all_held) refl

    returned : (left : ℕ) → left ≡ length (held_after (most_lines k l) last (take held d))
        → record { kept = r.kept; held = left; written = r.written } ≡ turned k (take held d) last l
    unfolding advanced turned
    returned left g = rw (g, e, all_held) refl

    pub turn_is : (left : ℕ) (l' : Lent) (d' : List ℕ) → l' ≡ lent_after k (ready_in last (take to d)) l → left ≡ length (clipped (drop r.read (take to d)))
        → d' ≡ sets d 0 (clipped (drop r.read (take to d)))
        → (record { kept = r.kept; held = left; written = r.written } ≡ turned k (take held d) last l)
        × (l' ≡ lent_after k (ready_in last (take held d)) l)
        × (d' ≡ sets d 0 (held_after (most_lines k l) last (take held d)))
    turn_is left l' d' x y z =
        (returned left (y ∙ ap length held_is), x ∙ ap (λ (s : List ℕ). lent_after k (ready_in last s) l) all_held, z ∙ ap (sets d 0) held_is)

-- ---- what the caller of a turn needs

-- with no whole line among them, no more than 97 bytes are held
held_unfinished : (s : List ℕ) → whole_of (clipped s) ≡ 0 → length (clipped s) ≤ 97
unfolding clipped
held_unfinished s = by (eqb (whole_of s) 0) refl
  where
    by : (t : Bool) → eqb (whole_of s) 0 ≡ t → whole_of (pick t (take 97 s) s) ≡ 0 → length (pick t (take 97 s) s) ≤ 97
    by true e w = let l = length-take 97 s in omega arith
    by false e w = absurd (eqb-false _ _ e w)

-- the lists have room for what a turn returns, and there is room for a read where one is due
pub record Fits (d d' : List ℕ) (l : Lent) (r : Turned) : Type 0 where
  pub written : r.written ≤ length l.out
  pub held : r.held ≤ length d
  pub unfinished : whole_of (take r.held d') ≡ 0 → r.held ≤ 97

pub fits : (k : Kept) (d : List ℕ) (n : ℕ) (last : Bool) (l : Lent) (r : Turned) (d' : List ℕ)
    → r ≡ turned k (take n d) last l → d' ≡ sets d 0 (held_after (most_lines k l) last (take n d)) → Fits d d' l r
unfolding turned held_after
fits k d n last l r d' e f =
    let s = take n d in
    let x = drop (passed_by (most_lines k l) (ready_in last s)) s in
    let w = written_fits k (ready_in last s) l in
    let a = held_short x in
    let b = length-drop (passed_by (most_lines k l) (ready_in last s)) s in
    let c = length-take n d in
    let h : length (clipped x) ≤ length d = omega arith in
    let g : take (length (clipped x)) (sets d 0 (clipped x)) ≡ clipped x =
    ap (take (length (clipped x))) (sets-eq (clipped x) d 0 (omega arith)) ∙ take-append_seam (clipped x) _ in
    rw (e, f) (record { written = w; held = h; unfinished = λ z. held_unfinished x (ap whole_of (sym g) ∙ z) })
