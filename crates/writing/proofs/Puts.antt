-- The text of an answer, and of a run of them. Assumes nothing.
use Prim.Native.Nat.{ℕ, zero, suc, ◌+◌, ◌/◌, ◌%◌, ◌^◌, ◌≤◌, ◌<◌}
use mathlib.Core.Path.{◌≡◌, refl, sym, ap, ◌∙◌}
use mathlib.Core.Bool.{Bool, true, false, cond as pick}
use mathlib.Core.List.{List, [], ◌∷◌, ◌++◌, append_assoc}
use native.Mathlib.Omega.{arith}
use native.Mathlib.Nat.{add-zero, zero-add}
use native.Mathlib.Numerals.{add-one}
use borrow.Author.Tests.{le-leb, lt-leb, lt-ltb, le-ltb}
use lib.Dec.{ltb, eqb}
use lib.ListN.{length, get_or, set, take, drop, length-append, drop_of_length-le}
use lib.Seq.{sets, sets-eq, drop-cons, drop-drop, get_or-drop}
use Rattle.writing.specs.Writing.{decimal_to, decimal, ended, answer_text, put_at, put_count, answers_text, printed, printed_count}
use Rattle.writing.specs.Parts.{answer_at, words_of}
use Rattle.text.proofs.Stores.{sets_append}
use Rattle.writing.proofs.Digits.{decimal_is}
use Rattle.std.specs.Fmt.{decimal as written}
use Rattle.std.proofs.lemmas.List.{take-append-drop}

-- ---- one answer

one_more : (t : Bool) (b c : ℕ) (x : List ℕ) (k : ℕ) → length x ≤ k → length (pick t (b ∷ []) (x ++ (c ∷ []))) ≤ suc k
one_more true b c x k h = omega arith
one_more false b c x k h = simp length-append (omega arith)

shorter : (k n : ℕ) → length (decimal_to k n) ≤ k
unfolding decimal_to
shorter zero n = omega arith
shorter (suc k) n = one_more (ltb n 10) _ _ (decimal_to k (n / 10)) k (shorter k (n / 10))

-- a number has at most ten digits
pub decimal_short : (n : ℕ) → length (decimal n) ≤ 10
unfolding decimal
decimal_short n = shorter 10 n

pub length_ended : (n b : ℕ) → length (ended n b) ≡ length (decimal n) + 1
unfolding ended
length_ended n b = rw length-append

pub length_answer : (a b c : ℕ) → length (answer_text a b c) ≡ length (decimal a) + length (decimal b) + length (decimal c) + 3
unfolding answer_text
length_answer a b c = simp (length-append, length_ended) (omega arith)

-- the same, as three numbers take it up
pub lengths : (a b c : ℕ)
    → (length (answer_text a b c) ≡ length (decimal a) + length (decimal b) + length (decimal c) + 3) × (length (ended a 9) ≡ length (decimal a) + 1) × (length (ended b 9) ≡ length (decimal b) + 1)
lengths a b c = (length_answer a b c, length_ended a 9, length_ended b 9)

pub answer_short : (a b c : ℕ) → length (answer_text a b c) ≤ 33
answer_short a b c =
    let x = decimal_short a in
    let y = decimal_short b in
    let z = decimal_short c in
    let l = length_answer a b c in
    omega arith

-- ---- bytes are put

-- the bytes t stand from place `at` on, up to place r
abbrev Puts : List ℕ → ℕ → List ℕ → ℕ → List ℕ → Type 0
Puts d at t r d' = (r ≡ at + length t) × (d' ≡ sets d at t)

-- bytes, and others after them
puts_append : (x y d d₁ d₂ : List ℕ) (at p q : ℕ) → Puts d at x p d₁ → Puts d₁ p y q d₂ → Puts d at (x ++ y) q d₂
puts_append x y d d₁ d₂ at p q g h =
    (let l = length-append x y in let u = g.0 in let v = h.0 in omega arith, h.1 ∙ rw (g.1, g.0) (sym (sets_append x y d at)))

-- three numbers put an answer
pub puts_answer : (d d₁ d₂ d₃ : List ℕ) (at p q r a b c : ℕ) → Puts d at (ended a 9) p d₁ → Puts d₁ p (ended b 9) q d₂ → Puts d₂ q (ended c 10) r d₃
    → Puts d at (answer_text a b c) r d₃
unfolding answer_text
puts_answer d d₁ d₂ d₃ at p q r a b c f g h =
    puts_append (ended a 9) (ended b 9 ++ ended c 10) d d₁ d₃ at p r f (puts_append (ended b 9) (ended c 10) d₁ d₂ d₃ p q r g h)

-- a number of one digit, one of two, and one of three
pub decimal_one : (n : ℕ) → n < 10 → decimal n ≡ (48 + n) ∷ []
unfolding decimal decimal_to
decimal_one n h = rw (lt-ltb n 10 h)

pub decimal_two : (n : ℕ) → 10 ≤ n → n < 100 → decimal n ≡ (48 + n / 10) ∷ (48 + n % 10) ∷ []
unfolding decimal decimal_to
decimal_two n h k = rw (le-ltb n 10 h, lt-ltb (n / 10) 10 (omega arith))

pub decimal_three : (n : ℕ) → 100 ≤ n → n < 1000 → decimal n ≡ (48 + n / 10 / 10) ∷ (48 + n / 10 % 10) ∷ (48 + n % 10) ∷ []
unfolding decimal decimal_to
decimal_three n h k = rw (le-ltb n 10 (omega arith), le-ltb (n / 10) 10 (omega arith), lt-ltb (n / 10 / 10) 10 (omega arith))

pub puts_one : (d : List ℕ) (at n b : ℕ) → n < 10 → Puts d at (ended n b) (at + 2) (set (set d at (48 + n)) (at + 1) b)
unfolding ended
puts_one d at n b h = rw (decimal_one n h, add-one at) (refl, refl)

pub puts_two : (d : List ℕ) (at n b : ℕ) → 10 ≤ n → n < 100
    → Puts d at (ended n b) (at + 3) (set (set (set d at (48 + n / 10)) (at + 1) (48 + n % 10)) (at + 2) b)
unfolding ended
puts_two d at n b h k =
    let e : at + 2 ≡ suc (suc at) = omega arith in
    rw (decimal_two n h k, e, add-one at) (refl, refl)

pub puts_three : (d : List ℕ) (at n b : ℕ) → 100 ≤ n → n < 1000
    → Puts d at (ended n b) (at + 4) (set (set (set (set d at (48 + n / 10 / 10)) (at + 1) (48 + n / 10 % 10)) (at + 2) (48 + n % 10)) (at + 3) b)
unfolding ended
puts_three d at n b h k =
    let e : at + 2 ≡ suc (suc at) = omega arith in
    let f : at + 3 ≡ suc (suc (suc at)) = omega arith in
    rw (decimal_three n h k, f, e, add-one at) (refl, refl)

-- what the library wrote up to a place, and a byte there
pub puts_written : (d d' : List ℕ) (at n b r end : ℕ) → n < 2 ^ 32 → end ≡ at + length (decimal n) → end < length d
    → r + length (written n) ≡ end → drop r d' ≡ written n ++ drop end d → take r d' ≡ take r d → Puts d at (ended n b) (end + 1) (set d' end b)
unfolding ended
puts_written d d' at n b r end w e h s f g =
    let l = length_ended n b in
    let i = decimal_is n (omega arith) in
    let place : r ≡ at = let k = ap length i in omega arith in
    let same : d' ≡ sets d at (decimal n) =
    sym (take-append-drop r d') ∙ rw (g, f, place, e, ← i) (sym (append_assoc (take at d) (decimal n) _) ∙ sym (sets-eq (decimal n) d at (omega arith))) in
    (omega arith, rw (same, e) (sym (sets_append (decimal n) (b ∷ []) d at)))

-- ---- where an answer is put

pub no_room : (d : List ℕ) (at : ℕ) (t : List ℕ) → length d < at + length t → (0 ≡ put_count d at t) × (d ≡ put_at d at t)
unfolding put_count put_at
no_room d at t h = rw (lt-leb _ _ h) (refl, refl)

pub is_put : (d : List ℕ) (at : ℕ) (t : List ℕ) → at + length t ≤ length d → (length t ≡ put_count d at t) × (sets d at t ≡ put_at d at t)
unfolding put_count put_at
is_put d at t h = rw (le-leb _ _ h) (refl, sets-eq t d at h)

-- ---- a run of answers

-- the text that is left
abbrev left_text : List ℕ → List ℕ → ℕ → ℕ → List ℕ
left_text ms ws j a = answers_text (drop j ms) (drop a ws)

pub record Printing (d₀ ms ws : List ℕ) (j a at : ℕ) (d : List ℕ) : Type 0 where
  pub total : at + length (left_text ms ws j a) ≡ length (answers_text ms ws)
  pub bytes : sets d at (left_text ms ws j a) ≡ sets d₀ 0 (answers_text ms ws)

pub printing_start : (d ms ws : List ℕ) → Printing d ms ws 0 0 0 d
printing_start d ms ws = record { total = zero-add _; bytes = refl }

text_either : (t : Bool) (ms ws : List ℕ) (a : ℕ)
    → pick t (answer_text (get_or (drop a ws) 0 0) (get_or (drop a ws) 1 0) (get_or (drop a ws) 2 0) ++ answers_text ms (drop 3 (drop a ws)))
    (answer_text 22 0 64 ++ answers_text ms (drop a ws))
    ≡ pick t (answer_text (get_or ws a 0) (get_or ws (a + 1) 0) (get_or ws (a + 2) 0)) (answer_text 22 0 64) ++ answers_text ms (drop (a + pick t 3 0) ws)
text_either true ms ws a = rw (get_or-drop a ws 0 0, get_or-drop a ws 1 0, get_or-drop a ws 2 0, add-zero a, drop-drop 3 a ws)
text_either false ms ws a = rw (add-zero a)

text_next : (ms ws : List ℕ) (j a : ℕ) → j < length ms
    → left_text ms ws j a ≡ answer_at (get_or ms j 0) ws a ++ left_text ms ws (j + 1) (a + words_of (get_or ms j 0))
unfolding answers_text
text_next ms ws j a h = rw (drop-cons ms j 0 h, add-one j) (text_either (eqb (get_or ms j 0) 1) (drop (suc j) ms) ws a)

-- an answer is put
pub printing_more : (d₀ ms ws : List ℕ) (j a at : ℕ) (d : List ℕ) → Printing d₀ ms ws j a at d → j < length ms
    → (k at' : ℕ) (d' : List ℕ) → k ≡ words_of (get_or ms j 0) → Puts d at (answer_at (get_or ms j 0) ws a) at' d'
    → Printing d₀ ms ws (j + 1) (a + k) at' d'
printing_more d₀ ms ws j a at d g h k at' d' q p =
    let t = answer_at (get_or ms j 0) ws a in
    let rest = left_text ms ws (j + 1) (a + k) in
    let e : left_text ms ws j a ≡ t ++ rest = rw q (text_next ms ws j a h) in
    record {
      total = let u = ap length e ∙ length-append t rest in let v = g.total in let w = p.0 in omega arith;
      bytes = rw (p.1, p.0) (sym (sets_append t rest d at) ∙ ap (sets d at) (sym e) ∙ g.bytes);
    }

abbrev Printed : List ℕ → List ℕ → List ℕ → ℕ → List ℕ → Type 0
Printed d ms ws k d' = (k ≡ printed_count d ms ws) × (d' ≡ printed d ms ws)

pub no_bytes : (d ms ws : List ℕ) → length d / 33 < length ms → Printed d ms ws 0 d
unfolding printed printed_count
no_bytes d ms ws h = rw (lt-leb (length ms) (length d / 33) h) (refl, refl)

pub no_words : (d ms ws : List ℕ) → length ms ≤ length d / 33 → length ws / 3 < length ms → Printed d ms ws 0 d
unfolding printed printed_count
no_words d ms ws h k = rw (le-leb (length ms) (length d / 33) h, lt-leb (length ms) (length ws / 3) k) (refl, refl)

pub printing_end : (d₀ ms ws : List ℕ) (j a at : ℕ) (d : List ℕ) → Printing d₀ ms ws j a at d → length ms ≤ j
    → length ms ≤ length d₀ / 33 → length ms ≤ length ws / 3 → Printed d₀ ms ws at d
unfolding answers_text printed printed_count
printing_end d₀ ms ws j a at d g h k l =
    let e : left_text ms ws j a ≡ [] = rw (drop_of_length-le ms h) in
    rw (le-leb (length ms) (length d₀ / 33) k, le-leb (length ms) (length ws / 3) l)
    (let u = ap length e in let v = g.total in omega arith, rw e at g.bytes)
