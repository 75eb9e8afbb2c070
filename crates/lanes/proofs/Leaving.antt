-- What a join of two parts leaves, and where it stands. Assumes nothing.
use Prim.Native.Nat.{ℕ, zero, suc, ◌+◌, ◌-◌, ◌*◌, ◌/◌, ◌%◌, ◌≤◌, ◌<◌}
use mathlib.Core.Path.{◌≡◌, refl, sym, ap, ◌∙◌}
use mathlib.Core.Bool.{true, false}
use mathlib.Core.List.{List, [], ◌∷◌}
use native.Mathlib.Omega.{arith}
use borrow.Author.Tests.{le-leb, lt-leb}
use lib.Dec.{leb}
use lib.ListN.{length, get_or, take, drop, length-drop}
use lib.Seq.{sets, drop-length, get_or-drop, take-add, take-length}
use Rattle.std.proofs.lemmas.List.{nil_from_length}
use Rattle.held.specs.Moves.{piece}
use Rattle.held.proofs.Copies.{Moved}
use Rattle.held.proofs.Fronts.{between}
use Rattle.probes.specs.Records.{records, records_of, words_of, time_of}
use Rattle.probes.specs.Joins.{joined, number_of}
use Rattle.probes.specs.Orders.{last_after, last_time, first_ends}
use Rattle.probes.proofs.Chunks.{time_at}
use Rattle.probes.proofs.Merging.{by_steps, used_up}
use Rattle.probes.proofs.Ends.{whose_rest}
use Rattle.probes.proofs.Refusals.{accepted}
use Rattle.probes.proofs.Words.{drop_records, so_many}
use Rattle.lanes.specs.Parts.{Part, part_by, part_of}
use Rattle.lanes.specs.Steps.{kept_first, kept_second, Leaves, MovesUp}

-- ---- words and records

words_first : (k : ℕ) (s : List ℕ) → 9 * k ≤ length s → words_of (records k s) ≡ take (9 * k) s
unfolding words_of records
words_first zero s h = refl
words_first (suc k) s h =
    let e : 9 * suc k ≡ 9 + 9 * k = omega arith in
    rw (words_first k (drop 9 s) (let l = length-drop 9 s in omega arith), e) (sym (take-add 9 (9 * k) s))

-- the words of a list's records
pub words_all : (s : List ℕ) → length s % 9 ≡ 0 → words_of (records_of s) ≡ s
unfolding records_of
words_all s h =
    let e : 9 * (length s / 9) ≡ length s = omega arith in
    words_first (length s / 9) s (omega arith) ∙ ap (λ (n : ℕ). take n s) e ∙ take-length s

-- the words of the records from one on
pub words_from : (s : List ℕ) (k : ℕ) → length s % 9 ≡ 0 → 9 * k ≤ length s → words_of (drop k (records_of s)) ≡ drop (9 * k) s
words_from s k h l =
    ap words_of (drop_records k s) ∙ words_all (drop (9 * k) s) (let e = length-drop (9 * k) s in omega arith)

-- these words are the end of the list
end_of : (s : List ℕ) (k left : ℕ) → length s % 9 ≡ 0 → k ≤ length (records_of s) → left ≡ length (words_of (drop k (records_of s)))
    → (left ≤ length s) × (words_of (drop k (records_of s)) ≡ drop (length s - left) s)
end_of s k left h l e =
    let o = so_many s in
    let w = words_from s k h (omega arith) in
    let n = ap length w ∙ length-drop (9 * k) s in
    let x : 9 * k ≡ length s - left = omega arith in
    (omega arith, w ∙ ap (λ (j : ℕ). drop j s) x)

last_of : (k t : ℕ) (s : List ℕ) → 9 * suc k ≤ length s → last_after t (records (suc k) s) ≡ get_or s (9 * k) 0
unfolding last_after records
last_of zero t s h = time_at s 0 (omega arith)
last_of (suc k) t s h =
    let e : 9 * suc k ≡ 9 + 9 * k = omega arith in
    last_of k (time_of (take 9 s)) (drop 9 s) (let l = length-drop 9 s in omega arith) ∙ get_or-drop 9 s (9 * k) 0 ∙ ap (λ (i : ℕ). get_or s i 0) (sym e)

-- the time of the last record
pub last_time_lem : (s : List ℕ) → length s % 9 ≡ 0 → 9 ≤ length s → last_time (records_of s) ≡ get_or s (length s - 9) 0
unfolding records_of
last_time_lem s h l =
    let e : length s / 9 ≡ suc (length s / 9 - 1) = omega arith in
    let f : 9 * (length s / 9 - 1) ≡ length s - 9 = omega arith in
    ap (λ (k : ℕ). last_after 0 (records k s)) e ∙ last_of (length s / 9 - 1) 0 s (omega arith) ∙ ap (λ (i : ℕ). get_or s i 0) f

-- ---- two lists of records

pub part_some : (xs ys : List (List ℕ)) → 0 < length xs → 0 < length ys → part_of xs ys ≡ part_by (joined xs ys) xs ys
unfolding part_of
part_some [] ys h k = absurd (omega arith)
part_some (x ∷ xs) [] h k = absurd (omega arith)
part_some (x ∷ xs) (y ∷ ys) h k = refl

-- what is left is of two lists that both have records
both_some : (xs ys : List (List ℕ)) → (length (words_of (part_of xs ys).first) + length (words_of (part_of xs ys).second) ≡ 0 → ⊥)
    → (0 < length xs) × (0 < length ys)
unfolding part_of words_of
both_some [] ys z = absurd (z refl)
both_some (x ∷ xs) [] z = absurd (z refl)
both_some (x ∷ xs) (y ∷ ys) z = (omega arith, omega arith)

-- no more is taken of a list than it has
pub taken_in : (xs ys : List (List ℕ)) → ((joined xs ys).firsts ≤ length xs) × ((joined xs ys).seconds ≤ length ys)
taken_in =
    by_steps (λ xs ys j. (j.firsts ≤ length xs) × (j.seconds ≤ length ys)) (λ ys. (omega arith, omega arith)) (λ x xs. (omega arith, omega arith))
    (λ x y xs ys j _ h. (omega arith, omega arith)) (λ x y xs ys j _ h. (omega arith, omega arith))

ends_some : (xs ys : List (List ℕ)) → 0 < length xs → 0 < length ys → first_ends xs ys ≡ leb (last_time xs) (last_time ys)
unfolding first_ends
ends_some [] ys h k = absurd (omega arith)
ends_some (x ∷ xs) [] h k = absurd (omega arith)
ends_some (x ∷ xs) (y ∷ ys) h k = refl

-- ---- two lists of words that are joined with no refusal

module _ (a b : List ℕ) (room : ℕ) (h : number_of a b room ≡ 0) where
  abbrev xs : List (List ℕ)
  xs = records_of a

  abbrev ys : List (List ℕ)
  ys = records_of b

  abbrev left : ℕ
  left = length (kept_first a b) + length (kept_second a b)

  module _ (z : left ≡ 0 → ⊥) where
    some : (0 < length xs) × (0 < length ys)
    some = both_some xs ys z

    pub enough : (9 ≤ length a) × (9 ≤ length b)
    enough = let s = some in let p = so_many a in let q = so_many b in (omega arith, omega arith)

    part : part_of xs ys ≡ part_by (joined xs ys) xs ys
    part = let s = some in part_some xs ys s.0 s.1

    done : (joined xs ys).first_done ≡ leb (get_or a (length a - 9) 0) (get_or b (length b - 9) 0)
    done =
        let n = accepted a b room h in
        let s = some in
        let l = enough in
        whose_rest xs ys n.first_rises n.second_rises
        ∙ ends_some xs ys s.0 s.1
        ∙ rw (last_time_lem a n.first_even l.0, last_time_lem b n.second_even l.1)

    -- the first is used up: all that is left is the end of the second
    pub second_left : get_or a (length a - 9) 0 ≤ get_or b (length b - 9) 0 → (kept_first a b ≡ []) × (left ≤ length b) × (kept_second a b ≡ drop (length b - left) b)
    unfolding words_of
    second_left l =
        let d : (joined xs ys).first_done ≡ true = done ∙ le-leb _ _ l in
        let f : (joined xs ys).firsts ≡ length xs = rw d at (used_up xs ys) in
        let p : kept_first a b ≡ [] = rw (part, f, drop-length xs) in
        let q = ap (λ (x : Part). words_of x.second) part in
        let n : left ≡ length (kept_second a b) = let u = ap length p in omega arith in
        let e = end_of b (joined xs ys).seconds left (accepted a b room h).second_even (taken_in xs ys).1 (n ∙ ap length q) in
        (p, e.0, q ∙ e.1)

    -- the second is used up: all that is left is the end of the first
    pub first_left : get_or b (length b - 9) 0 < get_or a (length a - 9) 0 → (kept_second a b ≡ []) × (left ≤ length a) × (kept_first a b ≡ drop (length a - left) a)
    unfolding words_of
    first_left l =
        let d : (joined xs ys).first_done ≡ false = done ∙ lt-leb _ _ l in
        let f : (joined xs ys).seconds ≡ length ys = rw d at (used_up xs ys) in
        let p : kept_second a b ≡ [] = rw (part, f, drop-length ys) in
        let q = ap (λ (x : Part). words_of x.first) part in
        let n : left ≡ length (kept_first a b) = let z = ap length p in omega arith in
        let e = end_of a (joined xs ys).firsts left (accepted a b room h).first_even (taken_in xs ys).0 (n ∙ ap length q) in
        (p, e.0, q ∙ e.1)

-- ---- the rest moves up

-- the end of the first n words of a list
end_moves : (d : List ℕ) (n left : ℕ) (kept : List ℕ) → n ≤ length d → left ≤ n → kept ≡ drop (n - left) (take n d)
    → (r : ℕ) (d' : List ℕ) → Moved d (n - left) left d' r → (r ≡ length kept) × (d' ≡ sets d 0 kept)
unfolding piece
end_moves d n left kept h k e r d' g =
    let f : n - (n - left) ≡ left = omega arith in
    let p : piece (n - left) left d ≡ kept
    = sym (between d (n - left) n (omega arith) h ∙ ap (λ (m : ℕ). take m (drop (n - left) d)) f) ∙ sym e in
    (g.0 ∙ ap length p, g.1 ∙ ap (sets d 0) p)

module _ (a b : List ℕ) (rest : ℕ) (v : Leaves a b rest) where
  pub none_moves : rest ≡ 0 → MovesUp a b a b (record { first = 0; second = 0 })
  none_moves z =
      let w = v.words in
      let p = nil_from_length (kept_first a b) (omega arith) in
      let q = nil_from_length (kept_second a b) (omega arith) in
      record { firsts = omega arith; seconds = omega arith; moved_first = rw p; moved_second = rw q }

  module _ (z : rest ≡ 0 → ⊥) where
    some_kept : left a b v.room v.accepted ≡ 0 → ⊥
    some_kept y = z (v.words ∙ y)

    pub nine_each : (9 ≤ length a) × (9 ≤ length b)
    nine_each = enough a b v.room v.accepted some_kept

    -- the first is used up
    module _ (l : get_or a (length a - 9) 0 ≤ get_or b (length b - 9) 0) where
      used_first : (kept_first a b ≡ []) × (left a b v.room v.accepted ≤ length b) × (kept_second a b ≡ drop (length b - left a b v.room v.accepted) b)
      used_first = second_left a b v.room v.accepted some_kept l

      pub second_fits : rest ≤ length b
      second_fits = let u = used_first.1 in let w = v.words in omega arith

      pub second_moves : (r : ℕ) (b' : List ℕ) → Moved b (length b - rest) rest b' r → MovesUp a b a b' (record { first = 0; second = r })
      second_moves r b' g =
          let u = used_first in
          let e = end_moves b (length b) rest (kept_second a b) (omega arith) second_fits (u.2 ∙ rw (v.words, take-length b)) r b' g in
          record { firsts = sym (ap length u.0); seconds = e.0; moved_first = rw u.0; moved_second = e.1 }

    -- the second is used up
    module _ (l : get_or b (length b - 9) 0 < get_or a (length a - 9) 0) where
      used_second : (kept_second a b ≡ []) × (left a b v.room v.accepted ≤ length a) × (kept_first a b ≡ drop (length a - left a b v.room v.accepted) a)
      used_second = first_left a b v.room v.accepted some_kept l

      pub first_fits : rest ≤ length a
      first_fits = let u = used_second.1 in let w = v.words in omega arith

      pub first_moves : (r : ℕ) (a' : List ℕ) → Moved a (length a - rest) rest a' r → MovesUp a b a' b (record { first = r; second = 0 })
      first_moves r a' g =
          let u = used_second in
          let e = end_moves a (length a) rest (kept_first a b) (omega arith) first_fits (u.2 ∙ rw (v.words, take-length a)) r a' g in
          record { firsts = e.0; seconds = sym (ap length u.0); moved_first = e.1; moved_second = rw u.0 }
