-- What the contract of `join` gives its caller: theorems to be read. Assumes nothing.
use Prim.Native.Nat.{ℕ, ◌+◌, ◌*◌, ◌%◌}
use mathlib.Core.Path.{◌≡◌, sym, ap, ◌∙◌}
use mathlib.Core.Bool.{Bool, true, false, cond as pick}
use mathlib.Core.List.{List, ◌++◌, Permᴰ}
use native.Mathlib.Omega.{arith}
use lib.ListN.{length, take, drop, length-append, length-drop}
use lib.Seq.{take_at}
use denote.Ref.{Bor}
use Rattle.probes.specs.Records.{records_of, words_of, falls}
use Rattle.probes.specs.Joins.{Joined, joined, From, Rest, Joins}
use Rattle.probes.specs.Orders.{rest_of, Interleaves, EqualFirst, first_ends}
use Rattle.probes.proofs.Answers.{known, took, left}
use Rattle.probes.proofs.Merging.{interleaves, permutes, as_many, used_up}
use Rattle.probes.proofs.Rising.{never_falls}
use Rattle.probes.proofs.Firsts.{equal_first as firsts_first}
use Rattle.probes.proofs.Ends.{whose_rest as last_times}
use Rattle.probes.proofs.Words.{all_nine, joined_nine, words_long, of_words, drop_records, so_many}

rest_records : (a b : Bor (List ℕ)) (d : Bool) (f s : ℕ) (r : Bor (List ℕ)) → From (pick d b a) (9 * pick d s f) r
    → records_of r.now ≡ pick d (drop s (records_of b.now)) (drop f (records_of a.now))
rest_records a b true f s r h = ap records_of h.words ∙ sym (drop_records s b.now)
rest_records a b false f s r h = ap records_of h.words ∙ sym (drop_records f a.now)

rest_even : (a b : Bor (List ℕ)) (d : Bool) (f s : ℕ) (r : Bor (List ℕ)) → length a.now % 9 ≡ 0 → length b.now % 9 ≡ 0
    → From (pick d b a) (9 * pick d s f) r → length r.now % 9 ≡ 0
rest_even a b true f s r m n h = let e = ap length h.words ∙ length-drop (9 * s) b.now in omega arith
rest_even a b false f s r m n h = let e = ap length h.words ∙ length-drop (9 * f) a.now in omega arith

module _ (a b : Bor (List ℕ)) (third : List ℕ) (number count : ℕ) (third' : List ℕ) (r : Bor (List ℕ))
    (h : Joins a b third number count third' r) where
  -- a refused join writes nothing and hands back the whole first list, where it stands
  pub refused_keeps : (number ≡ 0 → ⊥) → (count ≡ 0) × (third' ≡ third) × (r.now ≡ a.now) × (r.ref_ptr.0 ≡ a.ref_ptr.0) × (r.ref_ptr.1 ≡ a.ref_ptr.1)
  unfolding words_of
  refused_keeps n =
      let e = left a b third number h.numbered n in
      let c : count ≡ 0 = h.counted ∙ rw e in
      let f : From a (9 * 0) r = rw e at h.rest in
      let o = f.offset in
      (c, h.written ∙ rw (e, c), f.words, f.block, omega arith)

  module _ (z : number ≡ 0) where
    -- the join of the records of both lists
    whole : Joined
    whole = joined (records_of a.now) (records_of b.now)

    written_words : take count third' ≡ words_of whole.written
    unfolding whole
    written_words =
        let e = took a b third number h.numbered z in
        let c : count ≡ length (words_of whole.written) = h.counted ∙ rw e in
        let w : third' ≡ words_of whole.written ++ drop count third = h.written ∙ rw e in
        ap (take count) w ∙ take_at _ _ count (sym c)

    -- what is written, as records
    pub written_records : records_of (take count third') ≡ (joined (records_of a.now) (records_of b.now)).written
    unfolding whole
    written_records =
        ap records_of written_words ∙ of_words (joined_nine _ _ (all_nine a.now) (all_nine b.now))

    rest_from : Rest a b whole r
    unfolding whole
    rest_from = let e = took a b third number h.numbered z in rw e at h.rest

    left_records : records_of r.now ≡ rest_of (records_of a.now) (records_of b.now) whole
    left_records = rest_records a b whole.first_done whole.firsts whole.seconds r rest_from

    -- what is written and then the rest are the records of both lists and no others, those of each list in their order
    pub in_turn : Interleaves (records_of a.now) (records_of b.now) (records_of (take count third') ++ records_of r.now)
    unfolding whole
    in_turn = rw (written_records, left_records) (interleaves (records_of a.now) (records_of b.now))

    -- so none is lost and none is written twice
    pub nothing_lost : Permᴰ (records_of (take count third') ++ records_of r.now) (records_of a.now ++ records_of b.now)
    nothing_lost = permutes in_turn

    -- no time falls in what is written and then the rest
    pub by_time : falls (records_of (take count third') ++ records_of r.now) ≡ false
    unfolding whole
    by_time =
        let k = known a b third number h.numbered z in
        rw (written_records, left_records) (never_falls (records_of a.now) (records_of b.now) 0 k.first_rises k.second_rises)

    -- in these, no record of the second list stands before a record of the first with the same time
    pub equal_first : EqualFirst (records_of a.now) (records_of b.now) (records_of (take count third') ++ records_of r.now)
    unfolding whole
    equal_first =
        let k = known a b third number h.numbered z in
        rw (written_records, left_records) (firsts_first (records_of a.now) (records_of b.now) k.first_rises k.second_rises)

    -- the rest is the second list's where the first's last time is not above the second's, else the first's; a list with no records is used up
    pub whose_rest : From (pick (first_ends (records_of a.now) (records_of b.now)) b a)
        (9 * pick (first_ends (records_of a.now) (records_of b.now)) (joined (records_of a.now) (records_of b.now)).seconds (joined (records_of a.now) (records_of b.now)).firsts)
        r
    unfolding whole
    whose_rest =
        let k = known a b third number h.numbered z in
        rw (← last_times (records_of a.now) (records_of b.now) k.first_rises k.second_rises) rest_from

    -- of the other list every record is written
    pub other_used_up : let d = (joined (records_of a.now) (records_of b.now)).first_done in
        pick d (joined (records_of a.now) (records_of b.now)).firsts (joined (records_of a.now) (records_of b.now)).seconds
        ≡ pick d (length (records_of a.now)) (length (records_of b.now))
    other_used_up = used_up (records_of a.now) (records_of b.now)

    -- every word of both lists is written or left
    pub all_words : count + length r.now ≡ length a.now + length b.now
    unfolding whole
    all_words =
        let n = known a b third number h.numbered z in
        let er = rest_even a b whole.first_done whole.firsts whole.seconds r n.first_even n.second_even rest_from in
        let c = words_long (joined_nine _ _ (all_nine a.now) (all_nine b.now)) in
        let k : count ≡ length (words_of whole.written) = h.counted ∙ rw (took a b third number h.numbered z) in
        let m = sym (length-append (records_of (take count third')) (records_of r.now)) ∙ as_many in_turn in
        let w = ap length written_records in
        omega (arith, so_many a.now, so_many b.now, so_many r.now)
