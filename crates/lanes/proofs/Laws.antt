-- What turns print and tell: what the program does with both files, however they arrive. Assumes nothing.
use Prim.Native.Nat.{ℕ, ◌+◌, ◌≤◌}
use mathlib.Core.Path.{◌≡◌, refl, sym, ap, subst, ◌∙◌}
use mathlib.Core.Bool.{Bool, true, false, cond as pick}
use mathlib.Core.List.{List, [], ◌∷◌, ◌++◌, flatten, append_assoc}
use mathlib.Core.Option.{Option, none, some}
use native.Mathlib.Omega.{arith}
use native.Mathlib.Nat.{zero-add}
use borrow.Author.Tests.{ne_eqb}
use lib.Dec.{eqb}
use lib.ListN.{length, drop}
use lib.Seq.{drop-drop, drop-append-le}
use Rattle.text.specs.Lines.{lines_of}
use Rattle.probes.specs.Joins.{Joined, ahead, joined}
use Rattle.probes.proofs.Portions.{in_parts}
use Rattle.lanes.specs.Files.{Read, stopped, read_lines, file_of}
use Rattle.lanes.specs.Program.{printed_of, Refused, refused_after, or_else, told_of, printed_for, text_of, printed, told}
use Rattle.lanes.specs.Parts.{part_of}
use Rattle.lanes.specs.Arrivals.{Way, fresh, Ended, Stopped, Ready, has, ends, Joining, first_comes, second_comes, turn, first_stops, second_stops, both_end}
use Rattle.lanes.proofs.Prefixes.{onto}
use Rattle.lanes.proofs.Leaving.{taken_in}
use Rattle.lanes.proofs.Ways.{to_come, still_gives, all_lines, Sound, comes}

-- what is told for what two files give, after so many lines of each
abbrev tells : Read → ℕ → Read → ℕ → Option Refused
tells x l y m = told_of (joined x.records y.records).first_done (refused_after false l x.number) (refused_after true m y.number)

-- ---- a turn

or_none : (o : Option Refused) → or_else o none ≡ o
or_none none = refl
or_none (some r) = refl

-- nothing is left to print, whatever the number
none_either : (b : Bool) → pick {A = List (List ℕ)} b [] [] ≡ []
none_either true = refl
none_either false = refl

-- what is printed and left by a turn gives what there was
record Turns (xs ys : List (List ℕ)) (a b : Read) (l m : ℕ) : Type 0 where
  printed_first : (part_of xs ys).printed ++ printed_for (onto (part_of xs ys).first a) (onto (part_of xs ys).second b) ≡ printed_for (onto xs a) (onto ys b)
  told_same : tells (onto (part_of xs ys).first a) l (onto (part_of xs ys).second b) m ≡ tells (onto xs a) l (onto ys b) m

module _ (l m : ℕ) where
  -- the first file is at its end
  no_first : (ys : List (List ℕ)) (b : Read) (t : ℕ) → Turns [] ys (stopped 0 t) b l m
  unfolding part_of printed_of joined
  no_first ys b t = record { printed_first = refl; told_same = refl }

  -- the second is
  rest_alone : (xs : List (List ℕ)) (n : ℕ) → printed_of xs n [] 0 ≡ xs
  unfolding printed_of joined ahead
  rest_alone [] n = none_either (eqb n 0)
  rest_alone (x ∷ xs) n = refl

  told_alone : (xs : List (List ℕ)) (o : Option Refused) → told_of (joined xs []).first_done o none ≡ o
  unfolding joined ahead
  told_alone [] o = or_none o
  told_alone (x ∷ xs) o = refl

  no_second : (x : List ℕ) (xs : List (List ℕ)) (a : Read) (t : ℕ) → Turns (x ∷ xs) [] a (stopped 0 t) l m
  unfolding part_of refused_after
  no_second x xs a t =
      record {
        printed_first = ap (λ (r : List (List ℕ)). (x ∷ xs) ++ r) (rest_alone a.records a.number) ∙ sym (rest_alone (x ∷ (xs ++ a.records)) a.number);
        told_same = told_alone a.records (refused_after false l a.number) ∙ sym (told_alone (x ∷ (xs ++ a.records)) (refused_after false l a.number));
      }

  -- both have records
  module _ (xs ys : List (List ℕ)) (a b : Read) where
    abbrev j : Joined
    j = joined xs ys

    abbrev later : Joined
    later = joined (drop j.firsts xs ++ a.records) (drop j.seconds ys ++ b.records)

    further : (n k : ℕ) (zs rs : List (List ℕ)) → n ≤ length zs → drop (n + k) (zs ++ rs) ≡ drop k (drop n zs ++ rs)
    further n k zs rs h = sym (drop-drop k n (zs ++ rs)) ∙ ap (drop k) (drop-append-le n zs rs h)

    both_turn : (j.written ++ printed_for (onto (drop j.firsts xs) a) (onto (drop j.seconds ys) b) ≡ printed_for (onto xs a) (onto ys b))
        × (tells (onto (drop j.firsts xs) a) l (onto (drop j.seconds ys) b) m ≡ tells (onto xs a) l (onto ys b) m)
    unfolding printed_of
    both_turn =
        let e = in_parts xs a.records ys b.records in
        let n = taken_in xs ys in (
          sym (rw (e, further j.firsts later.firsts xs a.records n.0, further j.seconds later.seconds ys b.records n.1)
              (append_assoc j.written later.written _)),
          sym (rw e refl),
        )

  -- a list with no record is of a file at its end
  turns : (xs ys : List (List ℕ)) (a b : Read) (t u : ℕ) → (xs ≡ [] → a ≡ stopped 0 t) → (ys ≡ [] → b ≡ stopped 0 u) → Turns xs ys a b l m
  unfolding part_of
  turns [] ys a b t u f g = subst (λ (x : Read). Turns [] ys x b l m) (sym (f refl)) (no_first ys b t)
  turns (x ∷ xs) [] a b t u f g = subst (λ (y : Read). Turns (x ∷ xs) [] a y l m) (sym (g refl)) (no_second x xs a u)
  turns (x ∷ xs) (y ∷ ys) a b t u f g = let h = both_turn (x ∷ xs) (y ∷ ys) a b in record { printed_first = h.0; told_same = h.1 }

-- ---- files at their end, and files whose next line is refused

ended_rest : (w : Way) → Ended w → to_come w ≡ stopped 0 w.time
unfolding flatten lines_of read_lines
ended_rest w e = rw (e.no_bytes, e.no_parts)

ready_rest : (w : Way) → Ready w → w.records ≡ [] → to_come w ≡ stopped 0 w.time
ready_rest w (has x xs e) z = absurd (let n = ap length (sym z ∙ e) in omega arith)
ready_rest w (ends e) z = ended_rest w e

-- what is printed and told is what both files still give
record Gives (a b : Way) (out : List (List ℕ)) (t : Option Refused) : Type 0 where
  prints_all : out ≡ printed_for (still_gives a) (still_gives b)
  tells_end : t ≡ tells (still_gives a) (all_lines a) (still_gives b) (all_lines b)

-- a file whose next line is refused gives no record
stopped_ahead : (w : Way) → Stopped w → Sound w → (still_gives w ≡ stopped w.number w.time) × (all_lines w ≡ w.lines)
stopped_ahead w s d =
    let e = d s.some_number in
    let n = ap (λ (x : Read). length x.records) e in
    (rw s.no_records e, omega arith)

gives_at : (a b : Way) (x y : Read) (l m : ℕ) (out : List (List ℕ)) (t : Option Refused) → still_gives a ≡ x → all_lines a ≡ l → still_gives b ≡ y → all_lines b ≡ m
    → out ≡ printed_for x y → t ≡ tells x l y m → Gives a b out t
gives_at a b x y l m out t e f g h p q =
    record {
      prints_all = p ∙ ap (λ (z : Read). printed_for z y) (sym e) ∙ ap (λ (z : Read). printed_for (still_gives a) z) (sym g);
      tells_end =
          q
          ∙ ap (λ (z : Read). tells z l y m) (sym e)
          ∙ ap (λ (z : ℕ). tells (still_gives a) z y m) (sym f)
          ∙ ap (λ (z : Read). tells (still_gives a) (all_lines a) z m) (sym g)
          ∙ ap (λ (z : ℕ). tells (still_gives a) (all_lines a) (still_gives b) z) (sym h);
    }

-- the first file's next line is refused
first_stopped : (a b : Way) → Stopped a → Sound a → Gives a b [] (some (record { second = false; line = a.lines + 1; number = a.number }))
unfolding printed_of joined refused_after
first_stopped a b s d =
    let e = stopped_ahead a s d in
    let n = ne_eqb a.number 0 s.some_number in
    gives_at a b (stopped a.number a.time) (still_gives b) a.lines (all_lines b) _ _ e.0 e.1 refl refl (rw n) (rw n)

-- the second's is, and the first has records, or is at its end
second_stopped : (a b : Way) → Ready a → Stopped b → Sound b → Gives a b [] (some (record { second = true; line = b.lines + 1; number = b.number }))
unfolding printed_of joined ahead refused_after
second_stopped a b (has x xs r) s d =
    let e = stopped_ahead b s d in
    let n = ne_eqb b.number 0 s.some_number in
    gives_at a b (onto (x ∷ xs) (to_come a)) (stopped b.number b.time) (all_lines a) b.lines _ _
    (ap (λ (rs : List (List ℕ)). onto rs (to_come a)) r) refl e.0 e.1 (rw n) (rw n)
second_stopped a b (ends en) s d =
    let e = stopped_ahead b s d in
    let n = ne_eqb b.number 0 s.some_number in
    gives_at a b (stopped 0 a.time) (stopped b.number b.time) (all_lines a) b.lines _ _ (rw en.no_records (ended_rest a en)) refl e.0 e.1
    refl (rw n)

both_ended : (a b : Way) → Ended a → Ended b → Gives a b [] none
unfolding printed_of joined refused_after
both_ended a b e f =
    gives_at a b (stopped 0 a.time) (stopped 0 b.time) (all_lines a) (all_lines b) _ _ (rw e.no_records (ended_rest a e)) refl
    (rw f.no_records (ended_rest b f)) refl refl refl

-- ---- how the files arrive decides nothing

any_joining : (a b : Way) (out : List (List ℕ)) (t : Option Refused) → Joining a b out t → Sound a → Sound b → Gives a b out t
any_joining a b out t (first_comes a₀ a' b₀ o u c rest) s d =
    let k = comes a₀ a' c in
    let i = any_joining a' b₀ o u rest (k.sound s) d in
    gives_at a₀ b₀ (still_gives a') (still_gives b₀) (all_lines a') (all_lines b₀) o u (sym k.gives) (sym k.counts) refl refl i.prints_all i.tells_end
any_joining a b out t (second_comes a₀ b₀ b' o u c rest) s d =
    let k = comes b₀ b' c in
    let i = any_joining a₀ b' o u rest s (k.sound d) in
    gives_at a₀ b₀ (still_gives a₀) (still_gives b') (all_lines a₀) (all_lines b') o u refl refl (sym k.gives) (sym k.counts) i.prints_all i.tells_end
any_joining a b out t (turn a₀ b₀ o u ra rb rest) s d =
    let i = any_joining _ _ o u rest s d in
    let g = turns (all_lines a₀) (all_lines b₀) a₀.records b₀.records (to_come a₀) (to_come b₀) a₀.time b₀.time (ready_rest a₀ ra) (ready_rest b₀ rb) in
    record {
      prints_all = ap (λ (z : List (List ℕ)). (part_of a₀.records b₀.records).printed ++ z) i.prints_all ∙ g.printed_first;
      tells_end = i.tells_end ∙ g.told_same;
    }
any_joining a b out t (first_stops a₀ b₀ e) s d = first_stopped a₀ b₀ e s
any_joining a b out t (second_stops a₀ b₀ r e) s d = second_stopped a₀ b₀ r e d
any_joining a b out t (both_end a₀ b₀ e f) s d = both_ended a₀ b₀ e f

-- What turns print and tell for two files in parts is what the program printed_for and tells for the files.
pub arrives : (ps qs : List (List ℕ)) (out : List (List ℕ)) (t : Option Refused) → Joining (fresh ps) (fresh qs) out t
    → (text_of out ≡ printed (flatten ps) (flatten qs)) × (t ≡ told (flatten ps) (flatten qs))
arrives ps qs out t j =
    let g = any_joining (fresh ps) (fresh qs) out t j (λ z. absurd (z refl)) (λ z. absurd (z refl)) in
    let a = file_of (flatten ps) in
    let b = file_of (flatten qs) in (
      ap text_of g.prints_all,
      g.tells_end
          ∙ ap (λ (l : ℕ). tells a l b (0 + length b.records)) (zero-add (length a.records))
          ∙ ap (λ (m : ℕ). tells a (length a.records) b m) (zero-add (length b.records)),
    )
