-- A file on its way: what it still gives, whatever parts it comes in. Assumes nothing.
use Prim.Native.Nat.{ℕ, suc, ◌+◌, ◌≤◌, ◌<◌}
use mathlib.Core.Path.{◌≡◌, refl, sym, ap, subst, ◌∙◌}
use mathlib.Core.Bool.{Bool, true, false, ◌&&◌, cond as pick}
use mathlib.Core.List.{List, [], ◌∷◌, ◌++◌, flatten, append_assoc, append-nil}
use mathlib.Core.Logic.{⊎_elim}
use mathlib.Core.Option.{Option, none, some}
use native.Mathlib.Omega.{arith}
use borrow.Author.Tests.{eqb-true, leb-true}
use lib.Dec.{eqb, leb, ltb}
use lib.ListN.{length, take, drop, length-append, length-take, take-append-drop}
use lib.Seq.{length-take-le, drop_at}
use Rattle.text.specs.Lines.{lines_of, passed_by}
use Rattle.text.specs.Nines.{nine_in}
use Rattle.text.proofs.Sequences.{lines_split}
use Rattle.held.specs.Wholes.{whole_of}
use Rattle.held.proofs.Wholes.{cut, lines_whole, lines_turn, no_feed}
use Rattle.probes.specs.Records.{time_of}
use Rattle.lanes.specs.Files.{Read, stopped, begun, read_line, read_lines}
use Rattle.lanes.specs.Parts.{ready_part, read_in, part_read, unread}
use Rattle.lanes.specs.Arrivals.{Way, Comes, reads, loads}
use Rattle.lanes.proofs.Prefixes.{onto, two_goes, stops_next, long_part, long_refused}

-- no more records are read than there are lines
short_line : (o : Option (List ℕ)) (ls : List (List ℕ)) (t : ℕ) → ((u : ℕ) → length (read_lines ls u).records ≤ length ls)
    → length (read_line o t (read_lines ls)).records ≤ suc (length ls)
unfolding read_line
short_line none ls t i = omega arith
short_line (some x) ls t i = by (ltb (time_of x) t)
  where
    by : (b : Bool) → length (pick b (stopped 24 t) (begun x (read_lines ls (time_of x)))).records ≤ suc (length ls)
    by true = omega arith
    by false = let h = i (time_of x) in omega arith

pub read_short : (ls : List (List ℕ)) (t : ℕ) → length (read_lines ls t).records ≤ length ls
unfolding read_lines
read_short [] t = omega arith
read_short (l ∷ ls) t = short_line (nine_in l) ls t (λ u. read_short ls u)

-- ---- a part is loaded, and r is to come

-- what is loaded and then what is left give what there was; a line that is known to be refused is the next
pub record Rests (t : ℕ) (h r : List ℕ) (p : Read) (h' : List ℕ) : Type 0 where
  pub rest : read_lines (lines_of (h ++ r)) t ≡ onto p.records (read_lines (lines_of (h' ++ r)) p.time)
  pub stop : (p.number ≡ 0 → ⊥) → read_lines (lines_of (h' ++ r)) p.time ≡ stopped p.number p.time

module _ (t k : ℕ) (h r : List ℕ) where
  -- of the lines of s, and others after them, as many are passed as are read
  module _ (s h' : List ℕ) (ms : List (List ℕ)) (e : lines_of (h ++ r) ≡ lines_of s ++ ms)
      (f : lines_of (h ++ r) ≡ take (length (read_in k s t).records) (lines_of s) ++ lines_of (h' ++ r)) where
    abbrev p : Read
    p = read_in k s t

    abbrev j : ℕ
    j = length p.records

    within : j ≤ length (lines_of s)
    within = let a = read_short (take k (lines_of s)) t in let b = length-take k (lines_of s) in omega arith

    whole : lines_of (h ++ r) ≡ take j (lines_of s) ++ (drop j (lines_of s) ++ ms)
    whole = e ∙ ap (λ (ls : List (List ℕ)). ls ++ ms) (sym (take-append-drop j (lines_of s))) ∙ append_assoc (take j (lines_of s)) _ _

    left : lines_of (h' ++ r) ≡ drop j (lines_of s) ++ ms
    left =
        let n = length-take-le j (lines_of s) within in
        sym (drop_at (take j (lines_of s)) (lines_of (h' ++ r)) j n) ∙ ap (drop j) (sym f ∙ whole) ∙ drop_at (take j (lines_of s)) _ j n

    pub rests : Rests t h r p h'
    rests =
        record {
          rest = ap (λ (ls : List (List ℕ)). read_lines ls t) f ∙ two_goes (lines_of (h' ++ r)) (lines_of s) k t;
          stop = λ z. ap (λ (ls : List (List ℕ)). read_lines ls p.time) left ∙ stops_next ms (lines_of s) k t z;
        }

module _ (t k : ℕ) (h : List ℕ) where
  -- what is read of s, and what is left of all
  abbrev Part-of : List ℕ → List ℕ → Type 0
  Part-of r s = Rests t h r (read_in k s t) (drop (passed_by (length (read_in k s t).records) s) h)

  -- at the end of the file
  last_rests : Part-of [] h
  last_rests =
      let x = drop (passed_by (length (read_in k h t).records) h) h in
      rests t k h [] h x []
      (ap lines_of (append-nil h) ∙ sym (append-nil (lines_of h)))
      (ap lines_of (append-nil h) ∙ lines_split (length (read_in k h t).records) h ∙ ap (λ (s : List ℕ). take (length (read_in k h t).records) (lines_of h) ++ lines_of s) (sym (append-nil x)))

  module _ (r : List ℕ) where
    -- whole lines
    whole_rests : Part-of r (take (whole_of h) h)
    whole_rests =
        let a = take (whole_of h) h in
        let b = drop (whole_of h) h in
        let c = cut h in
        rests t k h r a (drop (passed_by (length (read_in k a t).records) a) h) (lines_of (b ++ r))
        (ap (λ (s : List ℕ). lines_of (s ++ r)) (sym (take-append-drop (whole_of h) h))
        ∙ ap lines_of (append_assoc a b r)
        ∙ lines_whole a (b ++ r) (c.whole ∙ sym (length-take-le (whole_of h) h c.within)))
        (lines_turn h r (length (read_in k a t).records))

    -- an unfinished line that fills the room
    full_rests : whole_of h ≡ 0 → 98 < length h → Part-of r h
    unfolding passed_by
    full_rests z n =
        let f = no_feed h z in
        ⊎_elim
        (λ e. rw e (record { rest = refl; stop = λ y. absurd (y refl) }))
        (λ e. rw e (record { rest = refl; stop = λ y. long_refused h r t f n }))
        (long_part h k t f n)

    pub load_rests : (last : Bool) (room : ℕ) → (last ≡ true → r ≡ []) → 98 < room → Rests t h r (part_read t h last room k) (unread t h last room k)
    unfolding part_read unread ready_part
    load_rests true room l n = subst (λ (x : List ℕ). Part-of x h) (sym (l refl)) last_rests
    load_rests false room l n = by (eqb (whole_of h) 0) (leb room (length h)) refl refl
      where
        by : (b c : Bool) → eqb (whole_of h) 0 ≡ b → leb room (length h) ≡ c → Part-of r (pick (b && c) h (take (whole_of h) h))
        by true true e f = full_rests (eqb-true _ _ e) (let g = leb-true room (length h) f in omega arith)
        by true false e f = whole_rests
        by false c e f = whole_rests

-- ---- what a file still gives

-- what its lines still give
abbrev pub to_come : Way → Read
to_come w = read_lines (lines_of (w.held ++ flatten w.parts)) w.time

-- what it gives with the records that are left
abbrev pub still_gives : Way → Read
still_gives w = onto w.records (to_come w)

-- how many lines it has before one is refused
abbrev pub all_lines : Way → ℕ
all_lines w = w.lines + length (to_come w).records

-- a line that is known to be refused is the next
abbrev pub Sound : Way → Type 0
Sound w = (w.number ≡ 0 → ⊥) → to_come w ≡ stopped w.number w.time

-- as it comes on, it gives the same
pub record Keeps (w w' : Way) : Type 0 where
  pub gives : still_gives w' ≡ still_gives w
  pub counts : all_lines w' ≡ all_lines w
  pub sound : Sound w → Sound w'

pub comes : (w w' : Way) → Comes w w' → Keeps w w'
unfolding flatten
comes w w' (reads w₀ p ps e) =
    let a : (w₀.held ++ p) ++ flatten ps ≡ w₀.held ++ flatten w₀.parts = append_assoc w₀.held p (flatten ps) ∙ rw e in
    let f = ap (λ (s : List ℕ). read_lines (lines_of s) w₀.time) a in
    record { gives = ap (onto w₀.records) f; counts = ap (λ (x : Read). w₀.lines + length x.records) f; sound = λ s z. f ∙ s z }
comes w w' (loads w₀ last room k e z l n) =
    let g = load_rests w₀.time k w₀.held (flatten w₀.parts) last room (λ y. ap flatten (l y)) n in
    let c = ap (λ (x : Read). length x.records) g.rest ∙ length-append (part_read w₀.time w₀.held last room k).records _ in
    record {
      gives = sym g.rest ∙ rw e refl;
      counts = omega (arith, c);
      sound = λ _. g.stop;
    }
