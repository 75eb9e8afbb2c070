-- For every two files in parts there are turns. Assumes nothing.
use Prim.Native.Nat.{ℕ, suc, ◌+◌}
use mathlib.Core.Path.{◌≡◌, refl, sym, ap, ◌∙◌}
use mathlib.Core.Bool.{Bool, true, false, cond as pick}
use mathlib.Core.List.{List, [], ◌∷◌, ◌++◌}
use mathlib.Core.Option.{Option, none, some}
use mathlib.Core.Logic.{◌⊎◌, inl, inr, ⊎_elim}
use native.Mathlib.Omega.{arith}
use borrow.Author.Tests.{eqb-true, eqb-false}
use lib.Dec.{eqb, ltb}
use lib.ListN.{length, drop, length-append}
use lib.Seq.{take-length, drop-length}
use Rattle.text.specs.Lines.{lines_of, passed_by}
use Rattle.text.specs.Nines.{nine_in}
use Rattle.text.proofs.Lines.{lines_cons}
use Rattle.text.proofs.Sequences.{lines_split}
use Rattle.probes.specs.Records.{time_of}
use Rattle.probes.specs.Joins.{joined}
use Rattle.probes.proofs.Merging.{used_up}
use Rattle.lanes.specs.Files.{stopped, begun, read_line, read_lines}
use Rattle.lanes.specs.Program.{Refused}
use Rattle.lanes.specs.Parts.{ready_part, part_read, unread, Part, part_of}
use Rattle.lanes.specs.Arrivals.{Way, fresh, read, load, Comes, reads, loads, leave, Ended, Ready, has, ends, Joining, first_comes, second_comes, turn, first_stops, second_stops, both_end}

-- ---- all lines are loaded

-- where no line is refused, each gives a record
each_line : (o : Option (List ℕ)) (ls : List (List ℕ)) (t : ℕ) → ((u : ℕ) → (read_lines ls u).number ≡ 0 → length (read_lines ls u).records ≡ length ls)
    → (read_line o t (read_lines ls)).number ≡ 0 → length (read_line o t (read_lines ls)).records ≡ suc (length ls)
unfolding read_line
each_line none ls t i z = absurd (omega arith)
each_line (some x) ls t i z = by (ltb (time_of x) t) z
  where
    by : (b : Bool) → (pick b (stopped 24 t) (begun x (read_lines ls (time_of x)))).number ≡ 0
        → length (pick b (stopped 24 t) (begun x (read_lines ls (time_of x)))).records ≡ suc (length ls)
    by true y = absurd (omega arith)
    by false y = ap suc (i (time_of x) y)

-- and so all lines do
pub all_lines_lem : (ls : List (List ℕ)) (t : ℕ) → (read_lines ls t).number ≡ 0 → length (read_lines ls t).records ≡ length ls
unfolding read_lines
all_lines_lem [] t z = refl
all_lines_lem (l ∷ ls) t z = each_line (nine_in l) ls t (λ u. all_lines_lem ls u) z

-- bytes with no line are none
no_line : (s : List ℕ) → length (lines_of s) ≡ 0 → s ≡ []
no_line [] h = refl
no_line (b ∷ s) h = absurd (let e = ap length (lines_cons s b) in omega arith)

-- the bytes of all lines are all
all_passed : (s : List ℕ) → drop (passed_by (length (lines_of s)) s) s ≡ []
all_passed s =
    let n = length (lines_of s) in
    let r = drop (passed_by n s) s in
    let e = ap length (lines_split n s ∙ ap (λ (ls : List (List ℕ)). ls ++ lines_of r) (take-length (lines_of s))) ∙ length-append (lines_of s) (lines_of r) in
    no_line r (omega arith)

-- so nothing is left of the last bytes, unless a line is refused
none_held : (t : ℕ) (s : List ℕ) (room : ℕ) → (part_read t s true room (length (lines_of s))).number ≡ 0 → unread t s true room (length (lines_of s)) ≡ []
unfolding part_read unread ready_part
none_held t s room z =
    let e = take-length (lines_of s) in
    let n = all_lines_lem (lines_of s) t (sym (ap (λ (ls : List (List ℕ)). (read_lines ls t).number) e) ∙ z) in
    ap (λ (ls : List (List ℕ)). drop (passed_by (length (read_lines ls t).records) s) s) e
    ∙ ap (λ (k : ℕ). drop (passed_by k s) s) n
    ∙ all_passed s

-- ---- files that are loaded whole

-- no part is to come, and nothing is held, unless a line is refused
record Whole (w : Way) : Type 0 where
  no_parts : w.parts ≡ []
  none_left : w.number ≡ 0 → w.held ≡ []

-- turns of two files
abbrev Goes : Way → Way → Type 0
Goes a b = (out : List (List ℕ)) × (t : Option Refused) × Joining a b out t

-- it is at its end
at_end_lem : (w : Way) → Whole w → w.records ≡ [] → w.number ≡ 0 → Ended w
at_end_lem w g e z = record { no_records = e; no_bytes = g.none_left z; no_parts = g.no_parts; no_number = z }

-- a file whose next line is refused, and one with none
by_number : (w : Way) (A : Type 0) → ((w.number ≡ 0 → ⊥) → A) → (w.number ≡ 0 → A) → A
by_number w A p q = by (eqb w.number 0) refl
  where
    by : (b : Bool) → eqb w.number 0 ≡ b → A
    by true e = q (eqb-true _ _ e)
    by false e = p (eqb-false _ _ e)

-- a turn, and what comes after it
then : (a b : Way) → Ready a → Ready b → Goes (leave a (part_of a.records b.records).first) (leave b (part_of a.records b.records).second) → Goes a b
then a b p q r = (_, r.1, turn a b r.0 r.1 p q r.2)

-- of such a file other records are left
left_whole : (w : Way) (rs : List (List ℕ)) → Whole w → Whole (leave w rs)
left_whole w rs g = record { no_parts = g.no_parts; none_left = g.none_left }

-- neither has a record
no_more : (a b : Way) → Whole a → Whole b → a.records ≡ [] → b.records ≡ [] → Goes a b
no_more a b g h e f =
    by_number a (Goes a b) (λ z. (_, _, first_stops a b (record { no_records = e; some_number = z })))
    (λ y. let s = at_end_lem a g e y in
    by_number b (Goes a b) (λ z. (_, _, second_stops a b (ends s) (record { no_records = f; some_number = z })))
    (λ z. (_, _, both_end a b s (at_end_lem b h f z))))

-- a turn uses up one of two lists
one_used : (xs ys : List (List ℕ)) → ((part_of xs ys).first ≡ []) ⊎ ((part_of xs ys).second ≡ [])
unfolding part_of
one_used [] ys = inl refl
one_used (x ∷ xs) [] = inl refl
one_used (x ∷ xs) (y ∷ ys) = by (joined (x ∷ xs) (y ∷ ys)).first_done (used_up (x ∷ xs) (y ∷ ys))
  where
    by : (d : Bool) → pick d (joined (x ∷ xs) (y ∷ ys)).firsts (joined (x ∷ xs) (y ∷ ys)).seconds ≡ pick d (length (x ∷ xs)) (length (y ∷ ys))
        → (drop (joined (x ∷ xs) (y ∷ ys)).firsts (x ∷ xs) ≡ []) ⊎ (drop (joined (x ∷ xs) (y ∷ ys)).seconds (y ∷ ys) ≡ [])
    by true e = inl (rw e (drop-length (x ∷ xs)))
    by false e = inr (rw e (drop-length (y ∷ ys)))

-- and both where one has no record
both_used : (xs ys : List (List ℕ)) → (xs ≡ []) ⊎ (ys ≡ []) → ((part_of xs ys).first ≡ []) × ((part_of xs ys).second ≡ [])
unfolding part_of
both_used [] ys h = (refl, refl)
both_used (x ∷ xs) [] h = (refl, refl)
both_used (x ∷ xs) (y ∷ ys) h = absurd (⊎_elim (λ e. let n = ap length e in omega arith) (λ e. let n = ap length e in omega arith) h)

module _ (a b : Way) (g : Whole a) (h : Whole b) where
  abbrev left : Part
  left = part_of a.records b.records

  a_left : Whole (leave a left.first)
  a_left = left_whole a left.first g

  b_left : Whole (leave b left.second)
  b_left = left_whole b left.second h

  -- the last turn
  last_turn : Ready a → Ready b → (a.records ≡ []) ⊎ (b.records ≡ []) → Goes a b
  last_turn p q u =
      let n = both_used a.records b.records u in
      then a b p q (no_more (leave a left.first) (leave b left.second) a_left b_left n.0 n.1)

  -- the first has none
  first_none : a.records ≡ [] → Goes a b
  first_none e = by b.records refl
    where
      by : (ys : List (List ℕ)) → b.records ≡ ys → Goes a b
      by [] f = no_more a b g h e f
      by (y ∷ ys) f =
          by_number a (Goes a b) (λ z. (_, _, first_stops a b (record { no_records = e; some_number = z })))
          (λ z. last_turn (ends (at_end_lem a g e z)) (has y ys f) (inl e))

  -- the second has none
  second_none : b.records ≡ [] → Goes a b
  second_none f = by a.records refl
    where
      by : (xs : List (List ℕ)) → a.records ≡ xs → Goes a b
      by [] e = no_more a b g h e f
      by (x ∷ xs) e =
          by_number b (Goes a b) (λ z. (_, _, second_stops a b (has x xs e) (record { no_records = f; some_number = z })))
          (λ z. last_turn (has x xs e) (ends (at_end_lem b h f z)) (inr f))

-- at most two turns
two_turns : (a b : Way) → Whole a → Whole b → Goes a b
two_turns a b g h = by a.records b.records refl refl
  where
    by : (xs ys : List (List ℕ)) → a.records ≡ xs → b.records ≡ ys → Goes a b
    by [] ys e f = first_none a b g h e
    by (x ∷ xs) [] e f = second_none a b g h f
    by (x ∷ xs) (y ∷ ys) e f =
        let l = part_of a.records b.records in
        let a' = leave a l.first in
        let b' = leave b l.second in
        let g' = left_whole a l.first g in
        let h' = left_whole b l.second h in
        then a b (has x xs e) (has y ys f) (⊎_elim (first_none a' b' g' h') (second_none a' b' g' h') (one_used a.records b.records))

-- ---- a file is read, and then loaded whole

module _ (P : Way → Type 0) (step : (w w' : Way) → Comes w w' → P w' → P w) (p : (w : Way) → Whole w → P w) where
  -- what holds of a file loaded whole, and of each step to it, holds of the file
  comes_whole : (ps : List (List ℕ)) (w : Way) → w.parts ≡ ps → w.records ≡ [] → w.number ≡ 0 → P w
  comes_whole [] w e r z =
      let room = length w.held + 99 in
      let k = length (lines_of w.held) in
      step w (load w true room k) (loads w true room k r z (λ _. e) (omega arith))
      (p (load w true room k) (record { no_parts = e; none_left = none_held w.time w.held room }))
  comes_whole (q ∷ ps) w e r z = step w (read w q ps) (reads w q ps e) (comes_whole ps (read w q ps) refl r z)

-- For every two files in parts there are turns, and so something is printed and told.
pub some_joining : (ps qs : List (List ℕ)) → (out : List (List ℕ)) × (t : Option Refused) × Joining (fresh ps) (fresh qs) out t
some_joining ps qs =
    comes_whole (λ a. Goes a (fresh qs)) (λ a a' c r. (r.0, r.1, first_comes a a' (fresh qs) r.0 r.1 c r.2))
    (λ a g.
    comes_whole (λ b. Goes a b) (λ b b' c r. (r.0, r.1, second_comes a b b' r.0 r.1 c r.2)) (λ b h. two_turns a b g h) qs (fresh qs) refl refl refl)
    ps (fresh ps) refl refl refl
