-- What turns print: what the program does, however the input arrives. Assumes nothing.
use Prim.Native.Nat.{ℕ, zero, suc, ◌<◌}
use mathlib.Core.Path.{◌≡◌, refl, sym, ap, subst, ◌∙◌}
use mathlib.Core.Bool.{Bool, true, false, not}
use mathlib.Core.List.{List, [], ◌∷◌, ◌++◌, flatten, append_assoc, append-nil}
use mathlib.Core.Option.{none}
use native.Mathlib.Omega.{arith}
use borrow.Author.Tests.{lt-leb, leb-true, leb-false, eqb-true}
use lib.Dec.{leb, eqb}
use lib.ListN.{length, take, drop, length-append}
use lib.Seq.{sets-eq, drop-length, take-append_seam, take_all, length-take-le}
use Rattle.text.specs.Lines.{lines_of, first_line, passed_by}
use Rattle.text.specs.Reading.{numbers_of}
use Rattle.text.proofs.Sequences.{lines_split, passed_all}
use Rattle.text.proofs.Bools.{and_both}
use Rattle.text.proofs.Lines.{free, lines_free}
use Rattle.lines.specs.declared.kept.Kept.{Kept}
use Rattle.lines.specs.Program.{nothing_kept, line_does, kept_after, kept_by, printed_by, program}
use Rattle.trace.specs.Arrivals.{ready_in, clipped, answered_in, held_after, turned, Prints, ended, part, last}
use Rattle.lines.specs.Chunks.{Lent, most_lines, lent_after}
use Rattle.lines.proofs.Lists.{printed_append}
use Rattle.held.specs.Wholes.{whole_of}
use Rattle.held.proofs.Wholes.{lines_turn, no_feed}
use Rattle.lines.proofs.Sizes.{written_fits}

-- some lines first, then the others
pub in_turn : (n : ℕ) (s : List ℕ) (k : Kept)
    → printed_by k (lines_of s) ≡ printed_by k (take n (lines_of s)) ++ printed_by (kept_by k (take n (lines_of s))) (lines_of (drop (passed_by n s) s))
in_turn n s k = ap (printed_by k) (lines_split n s) ∙ printed_append (take n (lines_of s)) _ k

-- empty input prints nothing
pub empty : program [] ≡ []
unfolding program lines_of printed_by
empty = refl

-- ---- a line of which 97 bytes are known

too_long : (l : List ℕ) → 96 < length l → numbers_of l ≡ none
unfolding numbers_of
too_long l h = rw (lt-leb (length l) 96 h)

-- two lines that long, and the same lines after them
long_same : (k : Kept) (a b : List ℕ) (ls : List (List ℕ)) → 96 < length a → 96 < length b → printed_by k (a ∷ ls) ≡ printed_by k (b ∷ ls)
unfolding printed_by kept_after line_does
long_same k a b ls p q = rw (too_long a p, too_long b q)

free_take : (n : ℕ) (s : List ℕ) → free 10 s ≡ true → free 10 (take n s) ≡ true
unfolding free
free_take zero s p = refl
free_take (suc n) [] p = refl
free_take (suc n) (b ∷ s) p =
    let h = and_both (not (eqb b 10)) (free 10 s) p in
    rw h.0 (free_take n s h.1)

-- 97 bytes stand for all of an unfinished line
unfinished : (k : Kept) (c r : List ℕ) (t : Bool) → leb (length c) 97 ≡ t → free 10 c ≡ true
    → printed_by k (lines_of (take 97 c ++ r)) ≡ printed_by k (lines_of (c ++ r))
unfinished k c r true e p = rw (take_all 97 c (leb-true _ _ e))
unfinished k c r false e p =
    let h = leb-false (length c) 97 e in
    let l = length-take-le 97 c (omega arith) in
    rw (
      lines_free (take 97 c) r (simp length-append (omega arith)) (free_take 97 c p),
      lines_free c r (simp length-append (omega arith)) p,
    )
    (long_same k (take 97 c ++ first_line r) (c ++ first_line r) _ (simp length-append (omega arith)) (simp length-append (omega arith)))

-- what is held stands for what was there
as_clipped : (k : Kept) (s r : List ℕ) → printed_by k (lines_of (clipped s ++ r)) ≡ printed_by k (lines_of (s ++ r))
unfolding clipped
as_clipped k s r = by (eqb (whole_of s) 0) refl
  where
    by : (t : Bool) → eqb (whole_of s) 0 ≡ t → printed_by k (lines_of (clipped s ++ r)) ≡ printed_by k (lines_of (s ++ r))
    by true e = rw e (unfinished k s r (leb (length s) 97) refl (no_feed s (eqb-true _ _ e)))
    by false e = rw e

-- ---- how the input arrives decides nothing

-- a turn on the whole lines, with what follows
module _ (k : Kept) (s r : List ℕ) (most : ℕ) where
  abbrev a : List ℕ
  a = take (whole_of s) s

  abbrev n : ℕ
  n = passed_by most a

  turn_part : printed_by k (answered_in most false s) ++ printed_by (kept_by k (answered_in most false s)) (lines_of (held_after most false s ++ r))
      ≡ printed_by k (lines_of (s ++ r))
  unfolding held_after
  turn_part =
      ap (λ (x : List ℕ). printed_by k (take most (lines_of a)) ++ x) (as_clipped (kept_by k (take most (lines_of a))) (drop n s) r)
      ∙ sym (ap (printed_by k) (lines_turn s r most) ∙ printed_append (take most (lines_of a)) _ k)

-- a turn at the end of input
turn_last : (k : Kept) (s : List ℕ) (most : ℕ)
    → printed_by k (answered_in most true s) ++ printed_by (kept_by k (answered_in most true s)) (lines_of (held_after most true s))
    ≡ printed_by k (lines_of s)
unfolding held_after
turn_last k s most =
    let k' = kept_by k (take most (lines_of s)) in
    let x = drop (passed_by most s) s in
    ap (λ (y : List ℕ). printed_by k (take most (lines_of s)) ++ y)
    (ap (λ (y : List ℕ). printed_by k' (lines_of y)) (sym (append-nil (clipped x)))
    ∙ as_clipped k' x []
    ∙ ap (λ (y : List ℕ). printed_by k' (lines_of y)) (append-nil x))
    ∙ sym (in_turn most s k)

any_arrival : (k : Kept) (h : List ℕ) (ps : List (List ℕ)) (out : List ℕ) → Prints k h ps out → out ≡ printed_by k (lines_of (h ++ flatten ps))
unfolding flatten lines_of printed_by
any_arrival k h ps out (ended k') = refl
any_arrival k h ps out (part k' h' p ps' out' most rest) =
    rw (any_arrival _ _ ps' out' rest)
    (turn_part k' (h' ++ p) (flatten ps') most ∙ ap (λ (x : List ℕ). printed_by k' (lines_of x)) (append_assoc h' p (flatten ps')))
any_arrival k h ps out (last k' h' out' most rest) =
    rw (any_arrival _ _ [] out' rest, append-nil h', append-nil (held_after most true h')) (turn_last k' h' most)

-- what turns print for an input in parts is what the program prints for the input
pub arrives : (ps : List (List ℕ)) (out : List ℕ) → Prints nothing_kept [] ps out → out ≡ program (flatten ps)
unfolding program
arrives ps out p = any_arrival nothing_kept [] ps out p

-- the bytes that a turn says it has written are what those turns print
pub sent : (k : Kept) (s : List ℕ) (end : Bool) (l : Lent)
    → take (turned k s end l).written (lent_after k (ready_in end s) l).out ≡ printed_by k (answered_in (most_lines k l) end s)
unfolding turned lent_after
sent k s end l =
    let p = printed_by k (answered_in (most_lines k l) end s) in
    let w = written_fits k (ready_in end s) l in
    ap (take (length p)) (sets-eq p l.out 0 (omega arith)) ∙ take-append_seam p _

-- ---- for every input in parts there are turns

all_answered : (h : List ℕ) → held_after (length h) true h ≡ []
unfolding held_after clipped whole_of
all_answered h = rw (passed_all (length h) h (omega arith), drop-length h) refl

pub some_turns : (ps : List (List ℕ)) (k : Kept) (h : List ℕ) → (out : List ℕ) × Prints k h ps out
some_turns [] k h =
    let k' = kept_by k (answered_in (length h) true h) in
    (_, last k h [] (length h) (subst (λ (x : List ℕ). Prints k' x [] []) (sym (all_answered h)) (ended k')))
some_turns (p ∷ ps) k h =
    let r = some_turns ps (kept_by k (answered_in 0 false (h ++ p))) (held_after 0 false (h ++ p)) in
    (_, part k h p ps r.0 0 r.1)
