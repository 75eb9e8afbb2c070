-- The join of two probes' lists into a third (document 02, T-02). Assumes nothing.
use Rattle.std.specs.Prelude.{Result, Ok, Err, ℕ, suc, ◌+◌, ◌*◌, ◌%◌, Bool, true, false, not, ◌||◌, cond as pick, List, [], ◌∷◌, ◌++◌, ◌≡◌, leb, ltb, eqb, length, drop}
use Rattle.std.specs.Borrow.{Bor}
use Rattle.probes.specs.declared.joining.Refusal.{Refusal}
use Rattle.probes.specs.declared.joining.Refusal.TheVariants.{Uneven, NoRoom, TimeFalls}
use Rattle.probes.specs.Records.{records_of, words_of, time_of, falls}

-- ---- by time, until one list is used up

-- the records written, how many of them are the first list's and the second's, and whether it is the first list that is used up
pub record Joined : Type 0 where
  pub written : List (List ℕ)
  pub firsts : ℕ
  pub seconds : ℕ
  pub first_done : Bool

-- nothing is written
abbrev pub stop : Bool → Joined
stop done = record { written = []; firsts = 0; seconds = 0; first_done = done }

-- a record of the first list is written, and then what j says
abbrev pub by_first : List ℕ → Joined → Joined
by_first r j = record { written = r ∷ j.written; firsts = suc j.firsts; seconds = j.seconds; first_done = j.first_done }

-- a record of the second list is written, and then what j says
abbrev pub by_second : List ℕ → Joined → Joined
by_second r j = record { written = r ∷ j.written; firsts = j.firsts; seconds = suc j.seconds; first_done = j.first_done }

-- the first list begins with a, and `next` joins what follows a with any second list: the record with the lower time is next, of equal times the first list's (its four equations: `first_used_up` to `second_next` in proofs/Merging)
unfoldable pub ahead : List ℕ → (List (List ℕ) → Joined) → List (List ℕ) → Joined
ahead a next [] = stop false
ahead a next (b ∷ bs) = pick (leb (time_of a) (time_of b)) (by_first a (next (b ∷ bs))) (by_second b (ahead a next bs))

-- the join of two lists of records; if the first is used up, or has none, the second's rest is left
unfoldable pub joined : List (List ℕ) → List (List ℕ) → Joined
joined [] bs = stop true
joined (a ∷ more) bs = ahead a (joined more) bs

-- ---- what is refused

-- a length not a multiple of nine
abbrev pub uneven : ℕ → Bool
uneven n = not (eqb (n % 9) 0)

-- a refusal's number
abbrev pub number_for : Refusal → ℕ
number_for Uneven = 20
number_for NoRoom = 21
number_for TimeFalls = 24

-- the number of what may be refused; 0 if it is not
abbrev pub number_in : {T : Type 0} → Result T Refusal → ℕ
number_in (Ok x) = 0
number_in (Err why) = number_for why

-- how many words are written; none by a join that is refused
abbrev pub count_in : Result ℕ Refusal → ℕ
count_in (Ok n) = n
count_in (Err why) = 0

-- the numbers in their order, by three tests: 20 by that of the lengths (l), 21 by that of the room (r), 24 by that of the times (t); 0 if none passes
unfoldable pub number_by : Bool → Bool → Bool → ℕ
number_by l r t = pick l 20 (pick r 21 (pick t 24 0))

-- the number of a join into a list of `room` words: 20, a length not a multiple of nine; 21, the third list cannot hold both whole; 24, a time that falls
unfoldable pub number_of : List ℕ → List ℕ → ℕ → ℕ
number_of a b room =
    number_by (uneven (length a) || uneven (length b)) (ltb room (length a + length b)) (falls (records_of a) || falls (records_of b))

-- ---- the join

-- what a join does: a refused one writes nothing, and the first list is left
unfoldable pub join_of : List ℕ → List ℕ → ℕ → Joined
join_of a b room = pick (eqb (number_of a b room) 0) (joined (records_of a) (records_of b)) (stop false)

-- r is the list s from its word k on: the caller's own words, at the same place in memory (a word is four bytes), not a copy
pub record From (s : Bor (List ℕ)) (k : ℕ) (r : Bor (List ℕ)) : Type 0 where
  pub words : r.now ≡ drop k s.now
  pub block : r.ref_ptr.0 ≡ s.ref_ptr.0
  pub offset : r.ref_ptr.1 ≡ s.ref_ptr.1 + k * 4

-- the rest: of the second list if the first is used up, else of the first
abbrev pub Rest : Bor (List ℕ) → Bor (List ℕ) → Joined → Bor (List ℕ) → Type 0
Rest a b j r = From (pick j.first_done b a) (9 * pick j.first_done j.seconds j.firsts) r

-- what `join` gives for the lists a, b and third: the number, the count of words written, the third list after it, which past them stays, and the rest
pub record Joins (a b : Bor (List ℕ)) (third : List ℕ) (number count : ℕ) (third' : List ℕ) (r : Bor (List ℕ)) : Type 0 where
  pub numbered : number ≡ number_of a.now b.now (length third)
  pub counted : count ≡ length (words_of (join_of a.now b.now (length third)).written)
  pub written : third' ≡ words_of (join_of a.now b.now (length third)).written ++ drop count third
  pub rest : Rest a b (join_of a.now b.now (length third)) r
