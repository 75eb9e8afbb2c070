-- What lines give when they are read in two goes. Assumes nothing.
use Prim.Native.Nat.{ℕ, zero, suc, ◌<◌}
use mathlib.Core.Path.{◌≡◌, refl, sym, ap, ◌∙◌}
use mathlib.Core.Bool.{Bool, true, false, cond as pick}
use mathlib.Core.List.{List, [], ◌∷◌, ◌++◌, append-nil}
use mathlib.Core.Logic.{◌⊎◌, inl, inr}
use mathlib.Core.Option.{Option, none, some}
use native.Mathlib.Omega.{arith}
use borrow.Author.Tests.{eqb-true}
use lib.Dec.{eqb, ltb}
use lib.ListN.{length, take, drop, length-append}
use Rattle.text.specs.Lines.{lines_of, first_line}
use Rattle.text.specs.Reading.{fields_of, values_of, exactly}
use Rattle.text.specs.Nines.{nine_in}
use Rattle.text.proofs.Lines.{free, lines_free}
use Rattle.text.proofs.Lengths.{short_line}
use Rattle.probes.specs.Records.{time_of}
use Rattle.lanes.specs.Files.{Read, stopped, begun, read_line, read_lines}

-- records, and then what r says
abbrev pub onto : List (List ℕ) → Read → Read
onto xs r = record { records = xs ++ r.records; time = r.time; number = r.number }

-- what at most k lines give
abbrev goes : List (List ℕ) → ℕ → ℕ → Read
goes ls k t = read_lines (take k ls) t

-- ---- the records of the first lines, and then what other lines give

module _ (ms : List (List ℕ)) where
  -- a line, by what it was read as
  two_line : (o : Option (List ℕ)) (l : List ℕ) (ls : List (List ℕ)) (k t : ℕ) → nine_in l ≡ o
      → ((u : ℕ) → read_lines (take (length (goes ls k u).records) ls ++ ms) u ≡ onto (goes ls k u).records (read_lines ms (goes ls k u).time))
      → read_lines (take (length (read_line o t (goes ls k)).records) (l ∷ ls) ++ ms) t
      ≡ onto (read_line o t (goes ls k)).records (read_lines ms (read_line o t (goes ls k)).time)
  unfolding read_line read_lines
  two_line none l ls k t e i = refl
  two_line (some x) l ls k t e i = by (ltb (time_of x) t) refl
    where
      by : (b : Bool) → ltb (time_of x) t ≡ b
          → read_lines (take (length (pick b (stopped 24 t) (begun x (goes ls k (time_of x)))).records) (l ∷ ls) ++ ms) t
          ≡ onto (pick b (stopped 24 t) (begun x (goes ls k (time_of x)))).records (read_lines ms (pick b (stopped 24 t) (begun x (goes ls k (time_of x)))).time)
      by true f = refl
      by false f = rw (e, f, i (time_of x))

  pub two_goes : (ls : List (List ℕ)) (k t : ℕ)
      → read_lines (take (length (goes ls k t).records) ls ++ ms) t ≡ onto (goes ls k t).records (read_lines ms (goes ls k t).time)
  unfolding read_lines
  two_goes [] zero t = refl
  two_goes [] (suc k) t = refl
  two_goes (l ∷ ls) zero t = refl
  two_goes (l ∷ ls) (suc k) t = two_line (nine_in l) l ls k t refl (λ u. two_goes ls k u)

-- ---- a line that is refused stands first after the records

module _ (ms : List (List ℕ)) where
  stop_line : (o : Option (List ℕ)) (l : List ℕ) (ls : List (List ℕ)) (k t : ℕ) → nine_in l ≡ o
      → ((u : ℕ) → ((goes ls k u).number ≡ 0 → ⊥) → read_lines (drop (length (goes ls k u).records) ls ++ ms) (goes ls k u).time ≡ stopped (goes ls k u).number (goes ls k u).time)
      → ((read_line o t (goes ls k)).number ≡ 0 → ⊥)
      → read_lines (drop (length (read_line o t (goes ls k)).records) (l ∷ ls) ++ ms) (read_line o t (goes ls k)).time
      ≡ stopped (read_line o t (goes ls k)).number (read_line o t (goes ls k)).time
  unfolding read_line read_lines
  stop_line none l ls k t e i z = rw e
  stop_line (some x) l ls k t e i z = by (ltb (time_of x) t) refl z
    where
      by : (b : Bool) → ltb (time_of x) t ≡ b → ((pick b (stopped 24 t) (begun x (goes ls k (time_of x)))).number ≡ 0 → ⊥)
          → read_lines (drop (length (pick b (stopped 24 t) (begun x (goes ls k (time_of x)))).records) (l ∷ ls) ++ ms) (pick b (stopped 24 t) (begun x (goes ls k (time_of x)))).time
          ≡ stopped (pick b (stopped 24 t) (begun x (goes ls k (time_of x)))).number (pick b (stopped 24 t) (begun x (goes ls k (time_of x)))).time
      by true f y = rw (e, f)
      by false f y = i (time_of x) y

  pub stops_next : (ls : List (List ℕ)) (k t : ℕ) → ((goes ls k t).number ≡ 0 → ⊥)
      → read_lines (drop (length (goes ls k t).records) ls ++ ms) (goes ls k t).time ≡ stopped (goes ls k t).number (goes ls k t).time
  unfolding read_lines
  stops_next [] zero t z = absurd (z refl)
  stops_next [] (suc k) t z = absurd (z refl)
  stops_next (l ∷ ls) zero t z = absurd (z refl)
  stops_next (l ∷ ls) (suc k) t z = stop_line (nine_in l) l ls k t refl (λ u. stops_next ls k u) z

-- ---- a line that is too long

not_exactly : (k : ℕ) (o : Option (List ℕ)) → ((ns : List ℕ) → o ≡ some ns → length ns ≡ k → ⊥) → exactly k o ≡ none
not_exactly k none h = refl
not_exactly k (some ns) h = by (eqb (length ns) k) refl
  where
    by : (b : Bool) → eqb (length ns) k ≡ b → pick b (some ns) none ≡ none
    by true e = absurd (h ns refl (eqb-true _ _ e))
    by false e = refl

-- nine numbers have at most 98 bytes
too_long : (l : List ℕ) → 98 < length l → nine_in l ≡ none
unfolding nine_in
too_long l h = not_exactly 9 (values_of (fields_of l)) (λ ns e n. let s = short_line l ns e in omega arith)

-- an unfinished line that long is refused, whatever follows it
pub long_refused : (s r : List ℕ) (t : ℕ) → free 10 s ≡ true → 98 < length s → read_lines (lines_of (s ++ r)) t ≡ stopped 22 t
unfolding read_lines read_line
long_refused s r t f h =
    let l = length-append s r in
    let m = length-append s (first_line r) in
    rw (lines_free s r (omega arith) f, too_long (s ++ first_line r) (omega arith))

-- of such a line alone nothing is read, or it is refused
pub long_part : (s : List ℕ) (k t : ℕ) → free 10 s ≡ true → 98 < length s
    → (read_lines (take k (lines_of s)) t ≡ stopped 0 t) ⊎ (read_lines (take k (lines_of s)) t ≡ stopped 22 t)
unfolding read_lines read_line
long_part s zero t f h = inl refl
long_part s (suc k) t f h =
    let l = length-append s [] in
    let m = length-append s (first_line []) in
    inr (rw (sym (ap lines_of (append-nil s)) ∙ lines_free s [] (omega arith) f, too_long (s ++ first_line []) (omega arith)))
