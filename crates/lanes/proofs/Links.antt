-- What the contracts of `load` and `turn` say of records and bytes, as the turns of `arrives` take it up. Assumes nothing.
use Prim.Native.Nat.{ℕ, zero, suc, ◌+◌, ◌*◌, ◌/◌, ◌%◌, ◌≤◌}
use mathlib.Core.Path.{◌≡◌, refl, sym, ap, subst, ◌∙◌}
use mathlib.Core.Bool.{Bool, true, false, cond as pick}
use mathlib.Core.List.{List, [], ◌∷◌}
use mathlib.Core.Option.{Option, none, some}
use native.Mathlib.Omega.{arith}
use borrow.Author.Tests.{eq-eqb, le-ltb, ltb-false}
use lib.Dec.{eqb, ltb}
use lib.ListN.{length, take, drop, length-append, length-take, length-drop}
use lib.Seq.{sets, sets-eq, take-append_seam, drop-length}
use Rattle.text.specs.Reading.{fields_of, values_of}
use Rattle.text.specs.Lines.{lines_of, passed_by}
use Rattle.text.specs.Nines.{nine_in}
use Rattle.text.proofs.Laws.{exactly_long}
use Rattle.writing.proofs.Rows.{line_short}
use Rattle.probes.specs.Records.{records_of, words_of, time_of, falls_after, falls}
use Rattle.probes.specs.Joins.{joined, number_by, number_of}
use Rattle.probes.proofs.Merging.{as_written}
use Rattle.probes.proofs.Rising.{rise, risen}
use Rattle.probes.proofs.Words.{Nines, none as no_record, more, all_nine, joined_nine, words_long, of_words, so_many}
use Rattle.lanes.specs.Files.{stopped, begun, read_line, read_lines}
use Rattle.lanes.specs.Program.{text_of}
use Rattle.lanes.specs.Parts.{ready_part, part_read, unread, loaded, part_of, turn_number, turn_text, left_first, left_second, turned}
use Rattle.lanes.proofs.Leaving.{taken_in}
use Rattle.lanes.proofs.Ways.{read_short}

-- what is put at the front of a list with room for it stands there
front : (p d : List ℕ) → length p ≤ length d → take (length p) (sets d 0 p) ≡ p
front p d h = ap (take (length p)) (sets-eq p d 0 (omega arith)) ∙ take-append_seam p _

-- ---- records that are read

-- nine words each, and no time falls
record Fine (t : ℕ) (rs : List (List ℕ)) : Type 0 where
  nine : Nines rs
  rises : falls_after t rs ≡ false

fine_line : (o : Option (List ℕ)) (l : List ℕ) (ls : List (List ℕ)) (t : ℕ) → nine_in l ≡ o → ((u : ℕ) → Fine u (read_lines ls u).records)
    → Fine t (read_line o t (read_lines ls)).records
unfolding read_line nine_in falls_after
fine_line none l ls t e i = record { nine = no_record; rises = refl }
fine_line (some x) l ls t e i = by (ltb (time_of x) t) refl
  where
    by : (b : Bool) → ltb (time_of x) t ≡ b → Fine t (pick b (stopped 24 t) (begun x (read_lines ls (time_of x)))).records
    by true f = record { nine = no_record; rises = refl }
    by false f =
        let h = i (time_of x) in
        record { nine = more (exactly_long 9 (values_of (fields_of l)) x e) h.nine; rises = rise t x (read_lines ls (time_of x)).records (ltb-false (time_of x) t f) h.rises }

fine : (ls : List (List ℕ)) (t : ℕ) → Fine t (read_lines ls t).records
unfolding read_lines falls_after
fine [] t = record { nine = no_record; rises = refl }
fine (l ∷ ls) t = fine_line (nine_in l) l ls t refl (λ u. fine ls u)

-- each record that is read has nine words
pub loaded_nine : (ls : List (List ℕ)) (t : ℕ) → Nines (read_lines ls t).records
loaded_nine ls t = (fine ls t).nine

-- no time falls, nor is the first below the time before it
pub loaded_rises : (ls : List (List ℕ)) (t : ℕ) → falls_after t (read_lines ls t).records ≡ false
loaded_rises ls t = (fine ls t).rises

-- what does not fall after a time does not fall
pub never_lower : (t : ℕ) (rs : List (List ℕ)) → falls_after t rs ≡ false → falls rs ≡ false
unfolding falls_after
never_lower t [] h = refl
never_lower t (r ∷ rs) h = rise 0 r rs (omega arith) (risen t r rs h).1

-- ---- what `load` leaves

module _ (t : ℕ) (s : List ℕ) (last : Bool) (room k : ℕ) where
  -- each record of a part has nine words
  pub part_nine : Nines (part_read t s last room k).records
  unfolding part_read
  part_nine = loaded_nine _ t

  -- no time falls in a part
  pub part_rises : falls (part_read t s last room k).records ≡ false
  unfolding part_read
  part_rises = never_lower t _ (loaded_rises _ t)

module _ (t : ℕ) (s : List ℕ) (last : Bool) (room : ℕ) (words : List ℕ) where
  abbrev k : ℕ
  k = length words / 9

  abbrev rs : List (List ℕ)
  rs = (part_read t s last room k).records

  nine : Nines rs
  nine = part_nine t s last room k

  part_fits : length (words_of rs) ≤ length words
  unfolding part_read
  part_fits =
      let ls = lines_of (ready_part last room s) in
      let w = words_long nine in
      let a = read_short (take k ls) t in
      let b = length-take k ls in
      omega arith

  -- the words that were put are those of the records read
  pub loaded_words : take (loaded t s last room k).count (sets words 0 (words_of rs)) ≡ words_of rs
  unfolding loaded
  loaded_words = ap (λ (n : ℕ). take n (sets words 0 (words_of rs))) (sym (words_long nine)) ∙ front (words_of rs) words part_fits

  -- so their records are those
  pub loaded_records : records_of (take (loaded t s last room k).count (sets words 0 (words_of rs))) ≡ rs
  loaded_records = ap records_of loaded_words ∙ of_words nine

-- the bytes that are held are those still to be read
pub held_bytes : (t held : ℕ) (buf : List ℕ) (last : Bool) (k : ℕ)
    → take (loaded t (take held buf) last (length buf) k).held (sets buf 0 (unread t (take held buf) last (length buf) k))
    ≡ unread t (take held buf) last (length buf) k
unfolding loaded unread
held_bytes t held buf last k =
    let s = take held buf in
    let n = passed_by (length (part_read t s last (length buf) k).records) (ready_part last (length buf) s) in
    let a = length-drop n s in
    let b = length-take held buf in
    front (drop n s) buf (omega arith)

-- ---- what a turn prints and leaves of two lists of records

-- a record takes at most eleven bytes for each of its words
text_short : (rs : List (List ℕ)) → length (text_of rs) ≤ 11 * length (words_of rs)
unfolding text_of words_of
text_short [] = omega arith
text_short (r ∷ rs) = let a = line_short r in let b = text_short rs in simp length-append (omega arith)

-- no more is printed than there is
module _ (xs ys : List (List ℕ)) where
  abbrev Few : List (List ℕ) → Type 0
  Few zs = (Nines xs → Nines ys → Nines zs) × (length zs ≤ length xs + length ys)

printed_few : (xs ys : List (List ℕ)) → Few xs ys (part_of xs ys).printed
unfolding part_of
printed_few [] ys = (λ m n. n, omega arith)
printed_few (x ∷ xs) [] = (λ m n. m, omega arith)
printed_few (x ∷ xs) (y ∷ ys) =
    let a = as_written (x ∷ xs) (y ∷ ys) in
    let b = taken_in (x ∷ xs) (y ∷ ys) in
    (joined_nine (x ∷ xs) (y ∷ ys), omega arith)

-- what is left of each list is the list from a record on
record Left (xs ys : List (List ℕ)) : Type 0 where
  firsts : ℕ
  seconds : ℕ
  first_is : (part_of xs ys).first ≡ drop firsts xs
  second_is : (part_of xs ys).second ≡ drop seconds ys

left_from : (xs ys : List (List ℕ)) → Left xs ys
unfolding part_of
left_from [] ys = record { firsts = 0; seconds = length ys; first_is = refl; second_is = sym (drop-length ys) }
left_from (x ∷ xs) [] = record { firsts = length (x ∷ xs); seconds = 0; first_is = sym (drop-length (x ∷ xs)); second_is = refl }
left_from (x ∷ xs) (y ∷ ys) =
    let j = joined (x ∷ xs) (y ∷ ys) in
    record { firsts = j.firsts; seconds = j.seconds; first_is = refl; second_is = refl }

drop_nine : (k : ℕ) {rs : List (List ℕ)} → Nines rs → Nines (drop k rs)
drop_nine zero n = n
drop_nine (suc k) no_record = no_record
drop_nine (suc k) (more h n) = drop_nine k n

drop_rises : (k t : ℕ) (rs : List (List ℕ)) → falls_after t rs ≡ false → falls (drop k rs) ≡ false
unfolding falls_after
drop_rises zero t rs h = never_lower t rs h
drop_rises (suc k) t [] h = refl
drop_rises (suc k) t (r ∷ rs) h = drop_rises k (time_of r) rs (risen t r rs h).1

module _ (xs ys : List (List ℕ)) where
  -- each record that is left has nine words
  pub left_nine : Nines xs → Nines ys → Nines (part_of xs ys).first × Nines (part_of xs ys).second
  left_nine m n =
      let l = left_from xs ys in
      (subst Nines (sym l.first_is) (drop_nine l.firsts m), subst Nines (sym l.second_is) (drop_nine l.seconds n))

  -- no time falls in what is left
  pub left_rises : falls xs ≡ false → falls ys ≡ false → (falls (part_of xs ys).first ≡ false) × (falls (part_of xs ys).second ≡ false)
  left_rises h k =
      let l = left_from xs ys in
      (ap falls l.first_is ∙ drop_rises l.firsts 0 xs h, ap falls l.second_is ∙ drop_rises l.seconds 0 ys k)

  left_few : (length (part_of xs ys).first ≤ length xs) × (length (part_of xs ys).second ≤ length ys)
  left_few =
      let l = left_from xs ys in
      let a = ap length l.first_is ∙ length-drop l.firsts xs in
      let b = ap length l.second_is ∙ length-drop l.seconds ys in
      (omega arith, omega arith)

-- ---- what `turn` leaves, where it refuses nothing

room_for : (a b : List ℕ) (room bytes : ℕ) → turn_number a b room bytes ≡ 0 → 11 * (length a + length b) ≤ bytes
unfolding turn_number
room_for a b room bytes z = by (ltb (bytes / 11) (length a + length b)) refl z
  where
    by : (t : Bool) → ltb (bytes / 11) (length a + length b) ≡ t → pick t 21 (number_of a b room) ≡ 0 → 11 * (length a + length b) ≤ bytes
    by true e y = absurd (omega arith)
    by false e y = let h = ltb-false (bytes / 11) (length a + length b) e in omega (arith, h)

-- the bytes that were put are the text of the records that a turn prints
pub sent : (a b : List ℕ) (room : ℕ) (out : List ℕ) → turn_number a b room (length out) ≡ 0
    → take (turned a b room (length out)).written (sets out 0 (turn_text a b room (length out))) ≡ text_of (part_of (records_of a) (records_of b)).printed
unfolding turned turn_text
sent a b room out z =
    let rs = (part_of (records_of a) (records_of b)).printed in
    let f = printed_few (records_of a) (records_of b) in
    let w = words_long (f.0 (all_nine a) (all_nine b)) in
    let s = text_short rs in
    let r = room_for a b room (length out) z in
    rw (eq-eqb _ 0 z) (front (text_of rs) out (omega (arith, f.1, so_many a, so_many b)))

-- what is left of a list is no longer than it
pub left_fits : (a b : List ℕ) (room bytes : ℕ) → (length (left_first a b room bytes) ≤ length a) × (length (left_second a b room bytes) ≤ length b)
unfolding left_first left_second
left_fits a b room bytes = by (eqb (turn_number a b room bytes) 0)
  where
    by : (t : Bool) → (length (pick t (words_of (part_of (records_of a) (records_of b)).first) a) ≤ length a)
        × (length (pick t (words_of (part_of (records_of a) (records_of b)).second) b) ≤ length b)
    by true =
        let l = left_nine (records_of a) (records_of b) (all_nine a) (all_nine b) in
        let f = left_few (records_of a) (records_of b) in
        let u = words_long l.0 in
        let v = words_long l.1 in
        (omega (arith, f.0, so_many a), omega (arith, f.1, so_many b))
    by false = (omega arith, omega arith)

module _ (first : List ℕ) (n : ℕ) (second : List ℕ) (m room bytes : ℕ) (z : turn_number (take n first) (take m second) room bytes ≡ 0) where
  abbrev a : List ℕ
  a = take n first

  abbrev b : List ℕ
  b = take m second

  abbrev first' : List ℕ
  first' = sets first 0 (left_first a b room bytes)

  abbrev second' : List ℕ
  second' = sets second 0 (left_second a b room bytes)

  -- the words that are left in each list are those of the records that a turn leaves
  pub left_words : (take (turned a b room bytes).first first' ≡ words_of (part_of (records_of a) (records_of b)).first)
      × (take (turned a b room bytes).second second' ≡ words_of (part_of (records_of a) (records_of b)).second)
  unfolding turned left_first left_second
  left_words =
      let e = eq-eqb _ 0 z in
      let l = left_nine (records_of a) (records_of b) (all_nine a) (all_nine b) in
      let f = left_few (records_of a) (records_of b) in
      let u = words_long l.0 in
      let v = words_long l.1 in
      let p = length-take n first in
      let q = length-take m second in
      (rw e (front _ first (omega (arith, f.0, so_many a))), rw e (front _ second (omega (arith, f.1, so_many b))))

  -- so their records are those
  pub left_records : (records_of (take (turned a b room bytes).first first') ≡ (part_of (records_of a) (records_of b)).first)
      × (records_of (take (turned a b room bytes).second second') ≡ (part_of (records_of a) (records_of b)).second)
  left_records =
      let l = left_nine (records_of a) (records_of b) (all_nine a) (all_nine b) in
      (ap records_of left_words.0 ∙ of_words l.0, ap records_of left_words.1 ∙ of_words l.1)

-- ---- a turn of such lists is never refused

-- where there is room for the words of both and for their text
pub never_refused : (xs ys : List (List ℕ)) (room bytes : ℕ) → Nines xs → Nines ys → falls xs ≡ false → falls ys ≡ false
    → length (words_of xs) + length (words_of ys) ≤ room → 11 * (length (words_of xs) + length (words_of ys)) ≤ bytes
    → turn_number (words_of xs) (words_of ys) room bytes ≡ 0
unfolding turn_number number_of number_by
never_refused xs ys room bytes m n f g h k =
    let u = words_long m in
    let v = words_long n in
    let p : length (words_of xs) % 9 ≡ 0 = omega arith in
    let q : length (words_of ys) % 9 ≡ 0 = omega arith in
    rw (le-ltb (bytes / 11) (length (words_of xs) + length (words_of ys)) (omega arith), le-ltb room (length (words_of xs) + length (words_of ys)) h, p, q, of_words m, of_words n, f, g)
