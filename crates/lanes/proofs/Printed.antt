-- What the program prints: every record of both files, by time, as it stood. Assumes nothing.
use Prim.Native.Nat.{ℕ, ◌+◌}
use mathlib.Core.Path.{◌≡◌, refl, ap, subst, ◌∙◌}
use mathlib.Core.Bool.{Bool, true, false, cond as pick}
use mathlib.Core.List.{List, [], ◌∷◌, ◌++◌}
use mathlib.Core.Option.{Option, none, some}
use native.Mathlib.Omega.{arith}
use borrow.Author.Tests.{eqb-true}
use lib.Dec.{eqb}
use lib.ListN.{take}
use lib.Seq.{take-length}
use Rattle.text.specs.Lines.{lines_of}
use Rattle.probes.specs.Records.{time_of, falls_after, falls}
use Rattle.probes.specs.Joins.{joined}
use Rattle.probes.specs.Orders.{rest_of, Interleaves, EqualFirst}
use Rattle.probes.proofs.Merging.{interleaves}
use Rattle.probes.proofs.Rising.{rise, risen, never_falls as join_rises}
use Rattle.probes.proofs.Firsts.{equal_first as join_equal_first}
use Rattle.lanes.specs.Files.{Read, file_of}
use Rattle.lanes.specs.Program.{printed_of, Refused, refused_after, or_else, told_of, printed_for, text_of, fed, told}
use Rattle.lanes.proofs.Links.{loaded_rises}
use Rattle.lanes.proofs.Stood.{as_they_stood}
use Rattle.lanes.proofs.Exists.{all_lines_lem}

-- ---- no time falls

-- in the first records of a list in which no time falls none falls
first_rise : (t : ℕ) (xs ys : List (List ℕ)) → falls_after t (xs ++ ys) ≡ false → falls_after t (xs ++ []) ≡ false
unfolding falls_after
first_rise t [] ys h = refl
first_rise t (x ∷ xs) ys h = let m = risen t x (xs ++ ys) h in rise t x (xs ++ []) m.0 (first_rise (time_of x) xs ys m.1)

-- nor where a test leaves out the rest
rest_rise : (t : ℕ) (ws xs ys : List (List ℕ)) (d p q : Bool) → falls_after t (ws ++ pick d ys xs) ≡ false
    → falls_after t (ws ++ pick d (pick p ys []) (pick q xs [])) ≡ false
rest_rise t ws xs ys true true q h = h
rest_rise t ws xs ys true false q h = first_rise t ws ys h
rest_rise t ws xs ys false p true h = h
rest_rise t ws xs ys false p false h = first_rise t ws xs h

-- so none falls in what is printed
printed_rise : (xs ys : List (List ℕ)) (m n : ℕ) → falls xs ≡ false → falls ys ≡ false → falls (printed_of xs m ys n) ≡ false
unfolding printed_of
printed_rise xs ys m n h k = rest_rise 0 (joined xs ys).written _ _ (joined xs ys).first_done (eqb m 0) (eqb n 0) (join_rises xs ys 0 h k)

-- ---- nothing is told

-- a file of which no line is refused has the number 0
none_refused : (second : Bool) (lines number : ℕ) → refused_after second lines number ≡ none → number ≡ 0
unfolding refused_after
none_refused second lines number e = by (eqb number 0) refl e
  where
    by : (b : Bool) → eqb number 0 ≡ b → pick {A = Option Refused} b none (some (record { second = second; line = lines + 1; number = number })) ≡ none → number ≡ 0
    by true p q = eqb-true _ _ p
    by false p q = absurd (let z : ◌≡◌ {A = ℕ} 0 1 = cc in omega arith)

-- where the first of two is none, both are
neither : (p q : Option Refused) → or_else p q ≡ none → (p ≡ none) × (q ≡ none)
neither none q e = (refl, e)
neither (some r) q e = absurd (let z : ◌≡◌ {A = ℕ} 0 1 = cc in omega arith)

-- where nothing is told, neither file has such a line
none_told : (d : Bool) (p q : Option Refused) → told_of d p q ≡ none → (p ≡ none) × (q ≡ none)
none_told true p q e = neither p q e
none_told false p q e = let n = neither q p e in (n.1, n.0)

-- where no line is refused, all is printed
all_printed : (xs ys : List (List ℕ)) (m n : ℕ) → m ≡ 0 → n ≡ 0 → (joined xs ys).written ++ rest_of xs ys (joined xs ys) ≡ printed_of xs m ys n
unfolding printed_of
all_printed xs ys m n e f = rw (e, f)

-- ---- two files

module _ (first second : List ℕ) where
  -- what they give
  abbrev a : Read
  a = file_of first

  abbrev b : Read
  b = file_of second

  -- In what is printed no time falls.
  pub never_falls : falls (printed_for a b) ≡ false
  never_falls = printed_rise a.records b.records a.number b.number (loaded_rises (lines_of first) 0) (loaded_rises (lines_of second) 0)

  module _ (e : told first second ≡ none) where
    -- Where nothing is told, no line of either file is refused,
    pub both_whole : (a.number ≡ 0) × (b.number ≡ 0)
    both_whole = let n = none_told (joined a.records b.records).first_done _ _ e in (none_refused _ _ _ n.0, none_refused _ _ _ n.1)

    -- what the join writes and then the rest
    all : (joined a.records b.records).written ++ rest_of a.records b.records (joined a.records b.records) ≡ printed_for a b
    all = all_printed a.records b.records a.number b.number both_whole.0 both_whole.1

    -- every record of both is printed and no other, those of each file in their order,
    pub every_record : Interleaves a.records b.records (printed_for a b)
    every_record = subst (Interleaves a.records b.records) all (interleaves a.records b.records)

    -- and at equal times the first file's come first.
    pub equal_first : EqualFirst a.records b.records (printed_for a b)
    equal_first =
        subst (EqualFirst a.records b.records) all
        (join_equal_first a.records b.records (loaded_rises (lines_of first) 0) (loaded_rises (lines_of second) 0))

-- Where no line of a file is refused, its records, as text, are its lines, as they stood.
pub every_line : (s : List ℕ) → (file_of s).number ≡ 0 → text_of (file_of s).records ≡ fed (lines_of s)
every_line s z =
    as_they_stood (lines_of s) 0
    ∙ ap fed (ap (λ (n : ℕ). take n (lines_of s)) (all_lines_lem (lines_of s) 0 z) ∙ take-length (lines_of s))
