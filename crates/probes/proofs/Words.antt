-- Words and records: each record of a list has nine words, and records and their words give each other. Assumes nothing.
use Prim.Native.Nat.{ℕ, zero, suc, ◌+◌, ◌-◌, ◌*◌, ◌/◌, ◌≤◌}
use mathlib.Core.Path.{◌≡◌, refl, ap, ◌∙◌}
use mathlib.Core.List.{List, [], ◌∷◌, ◌++◌}
use native.Mathlib.Omega.{arith}
use Rattle.std.specs.Simd.{first_chunks}
use lib.ListN.{length, take, drop, length-append, length-drop}
use lib.Seq.{drop-drop, length-take-le, take_at, drop_at}
use Rattle.probes.specs.Records.{records, records_of, words_of}
use Rattle.probes.specs.Joins.{joined}
use Rattle.probes.proofs.Chunks.{records_none, records_more}
use Rattle.probes.proofs.Merging.{by_steps, as_written}

-- the library's chunks of nine words are the records
pub chunks : (k : ℕ) (s : List ℕ) → first_chunks 9 k s ≡ records k s
unfolding records
chunks zero s = refl
chunks (suc k) s = ap (λ (rs : List (List ℕ)). take 9 s ∷ rs) (chunks k (drop 9 s))

-- each record has nine words
pub data Nines : List (List ℕ) → Type 0 where
  none : Nines []
  more : {r : List ℕ} {rs : List (List ℕ)} → length r ≡ 9 → Nines rs → Nines (r ∷ rs)

nine_head : {r : List ℕ} {rs : List (List ℕ)} → Nines (r ∷ rs) → length r ≡ 9
nine_head (more h n) = h

nine_tail : {r : List ℕ} {rs : List (List ℕ)} → Nines (r ∷ rs) → Nines rs
nine_tail (more h n) = n

records_nine : (k : ℕ) (s : List ℕ) → 9 * k ≤ length s → Nines (records k s)
unfolding records
records_nine zero s h = none
records_nine (suc k) s h = more (length-take-le 9 s (omega arith)) (records_nine k (drop 9 s) (simp length-drop (omega arith)))

pub all_nine : (s : List ℕ) → Nines (records_of s)
unfolding records_of
all_nine s = records_nine (length s / 9) s (omega arith)

pub joined_nine : (xs ys : List (List ℕ)) → Nines xs → Nines ys → Nines (joined xs ys).written
joined_nine =
    by_steps (λ xs ys j. Nines xs → Nines ys → Nines j.written) (λ ys m n. none) (λ x xs m n. none)
    (λ x y xs ys j _ i m n. more (nine_head m) (i (nine_tail m) n)) (λ x y xs ys j _ i m n. more (nine_head n) (i m (nine_tail n)))

pub words_long : {rs : List (List ℕ)} → Nines rs → length (words_of rs) ≡ 9 * length rs
unfolding words_of
words_long none = omega arith
words_long (more {r} {rs} h n) = let e = words_long n in simp length-append (omega arith)

pub words_taken : (xs ys : List (List ℕ)) → Nines xs → Nines ys
    → length (words_of (joined xs ys).written) ≡ 9 * ((joined xs ys).firsts + (joined xs ys).seconds)
words_taken xs ys m n = words_long (joined_nine xs ys m n) ∙ rw (as_written xs ys) refl

record_append : (r w : List ℕ) → length r ≡ 9 → records_of (r ++ w) ≡ r ∷ records_of w
record_append r w h =
    records_more (r ++ w) 0 (simp length-append (omega arith)) ∙ rw (take_at r w 9 h, drop_at r w 9 h)

-- the records of records' words
pub of_words : {rs : List (List ℕ)} → Nines rs → records_of (words_of rs) ≡ rs
unfolding words_of
of_words none = records_none [] 0 (omega arith)
of_words (more {r} {rs} h n) = record_append r (words_of rs) h ∙ ap (λ (l : List (List ℕ)). r ∷ l) (of_words n)

drop_first : (k n : ℕ) (s : List ℕ) → drop k (records n s) ≡ records (n - k) (drop (9 * k) s)
unfolding records
drop_first zero n s = let e : n - 0 ≡ n = omega arith in rw e
drop_first (suc k) zero s = let e : 0 - suc k ≡ 0 = omega arith in rw e
drop_first (suc k) (suc n) s =
    let e : suc n - suc k ≡ n - k = omega arith in
    let f : 9 * suc k ≡ 9 + 9 * k = omega arith in
    drop_first k n (drop 9 s) ∙ rw (e, f, drop-drop)

-- the records from one on
pub drop_records : (k : ℕ) (s : List ℕ) → drop k (records_of s) ≡ records_of (drop (9 * k) s)
unfolding records_of
drop_records k s =
    let e : length (drop (9 * k) s) / 9 ≡ length s / 9 - k = simp length-drop (omega arith) in
    drop_first k (length s / 9) s ∙ rw (← e)

records_long : (k : ℕ) (s : List ℕ) → length (records k s) ≡ k
unfolding records
records_long zero s = refl
records_long (suc k) s = ap suc (records_long k (drop 9 s))

pub so_many : (s : List ℕ) → length (records_of s) ≡ length s / 9
unfolding records_of
so_many s = records_long (length s / 9) s
