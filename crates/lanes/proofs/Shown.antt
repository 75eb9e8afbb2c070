-- What is printed of a join, and what the join leaves. Assumes nothing.
use Prim.Native.Nat.{ℕ, ◌+◌, ◌*◌, ◌≤◌, ◌<◌}
use mathlib.Core.Path.{◌≡◌, refl, sym, ap, ◌∙◌}
use mathlib.Core.Bool.{Bool, true, false, cond as pick}
use mathlib.Core.List.{List, [], ◌∷◌, ◌++◌}
use mathlib.Core.Logic.{◌⊎◌, inl, inr, ⊎_elim}
use native.Mathlib.Omega.{arith}
use native.Mathlib.Nat.{zero-add}
use borrow.Author.Tests.{eq-eqb, ne_eqb}
use lib.ListN.{length, take, drop, length-append, length-drop}
use lib.Seq.{sets, sets-eq}
use denote.Ref.{Bor}
use Rattle.probes.specs.Records.{records_of, words_of}
use Rattle.probes.specs.declared.joining.Refusal.{Refusal}
use Rattle.probes.specs.declared.joining.Refusal.TheVariants.{Uneven, NoRoom, TimeFalls}
use Rattle.probes.specs.Joins.{Joined, stop, joined, number_for, number_of, join_of, From, Joins}
use Rattle.probes.proofs.Merging.{as_written, first_used_up, second_used_up}
use Rattle.probes.proofs.Refusals.{accepted}
use Rattle.probes.proofs.Words.{all_nine, joined_nine, words_long, so_many}
use Rattle.probes.proofs.Answers.{took}
use Rattle.probes.proofs.Laws.{written_records, all_words}
use Rattle.lanes.specs.Program.{text_of}
use Rattle.lanes.specs.Parts.{Part, part_of}
use Rattle.lanes.specs.Steps.{join_text, kept_first, kept_second, Prints}
use Rattle.lanes.proofs.Leaving.{words_from, taken_in, part_some}

-- a refusal has a number
pub some_number : (why : Refusal) → number_for why ≡ 0 → ⊥
some_number Uneven e = omega arith
some_number NoRoom e = omega arith
some_number TimeFalls e = omega arith

module _ (A B : Bor (List ℕ)) (third : List ℕ) (number count : ℕ) (third' : List ℕ) (rest : Bor (List ℕ))
    (g : Joins A B third number count third' rest) (same : length third' ≡ length third) where
  abbrev a : List ℕ
  a = A.now

  abbrev b : List ℕ
  b = B.now

  abbrev room : ℕ
  room = length third

  abbrev words : List ℕ
  words = words_of (join_of a b room).written

  pub count_fits : count ≤ length third
  count_fits =
      let e = ap length g.written ∙ length-append words (drop count third) in
      let l = length-drop count third in
      let c = g.counted in
      omega arith

  stored : third' ≡ sets third 0 words
  stored =
      let f = count_fits in
      let c = g.counted in
      g.written ∙ ap (λ (n : ℕ). words ++ drop n third) c ∙ sym (sets-eq words third 0 (omega arith) ∙ rw (zero-add (length words)))

  -- a refused join puts nothing
  pub prints_refused : (out : List ℕ) → (number ≡ 0 → ⊥) → Prints a b third out third' out number 0 0
  unfolding join_text
  prints_refused out z =
      let n = ne_eqb (number_of a b room) 0 (λ e. z (g.numbered ∙ e)) in
      record { numbered = g.numbered; left = λ e. absurd (z (g.numbered ∙ e)); written = rw n; bytes = rw n; stored = stored }

  module _ (z : number ≡ 0) where
    accept : number_of a b room ≡ 0
    accept = sym g.numbered ∙ z

    -- what is printed is the text of these words
    prints : (left : ℕ) → left ≡ length (kept_first a b) + length (kept_second a b) → (ws : List ℕ) → records_of ws ≡ (part_of (records_of a) (records_of b)).printed
        → (out out' : List ℕ) (w : ℕ) → w ≡ length (text_of (records_of ws)) → out' ≡ sets out 0 (text_of (records_of ws))
        → Prints a b third out third' out' number left w
    unfolding join_text
    prints l k ws e out out' w p q =
        let n = eq-eqb (number_of a b room) 0 accept in
        record {
          numbered = g.numbered;
          left = λ _. k;
          written = rw n (p ∙ ap (λ (rs : List (List ℕ)). length (text_of rs)) e);
          bytes = rw n (q ∙ ap (λ (rs : List (List ℕ)). sets out 0 (text_of rs)) e);
          stored = stored;
        }

    -- ---- one list is empty: the rest is all of the other

    whole_rest : (d : Bool) → joined (records_of a) (records_of b) ≡ stop d → From (pick d B A) 0 rest
    whole_rest true e = rw (took A B third number g.numbered z ∙ e) at g.rest
    whole_rest false e = rw (took A B third number g.numbered z ∙ e) at g.rest

    pub rest_shown : (xs ys : List (List ℕ)) → records_of a ≡ xs → records_of b ≡ ys → (length xs ≡ 0) ⊎ (length ys ≡ 0)
        → (records_of rest.now ≡ (part_of (records_of a) (records_of b)).printed) × (0 ≡ length (kept_first a b) + length (kept_second a b))
    unfolding part_of words_of
    rest_shown [] ys e f h =
        let r = whole_rest true (rw e (first_used_up (records_of b))) in
        (ap records_of r.words ∙ rw e, rw e)
    rest_shown (x ∷ xs) [] e f h =
        let r = whole_rest false (rw (e, f) (second_used_up x xs)) in
        (ap records_of r.words ∙ rw (e, f), rw (e, f))
    rest_shown (x ∷ xs) (y ∷ ys) e f h = absurd (⊎_elim (λ u. omega arith) (λ u. omega arith) h)

    -- ---- both have records: what the join wrote

    join_shown : 0 < length (records_of a) → 0 < length (records_of b)
        → (records_of (take count third') ≡ (part_of (records_of a) (records_of b)).printed) × (length rest.now ≡ length (kept_first a b) + length (kept_second a b))
    join_shown h k =
        let xs = records_of a in
        let ys = records_of b in
        let j = joined xs ys in
        let p = part_some xs ys h k in
        let n = accepted a b room accept in
        let i = taken_in xs ys in
        let u = ap length (ap (λ (x : Part). words_of x.first) p ∙ words_from a j.firsts n.first_even (omega (arith, i, so_many a))) ∙ length-drop (9 * j.firsts) a in
        let v = ap length (ap (λ (x : Part). words_of x.second) p ∙ words_from b j.seconds n.second_even (omega (arith, i, so_many b))) ∙ length-drop (9 * j.seconds) b in
        let c = g.counted ∙ ap (λ (x : Joined). length (words_of x.written)) (took A B third number g.numbered z) in
        let w = words_long (joined_nine xs ys (all_nine a) (all_nine b)) in
        let s = as_written xs ys in
        let t = all_words A B third number count third' rest g z in (
          written_records A B third number count third' rest g z ∙ ap (λ (x : Part). x.printed) (sym p),
          omega (arith, i, so_many a, so_many b),
        )

    -- ---- what `join_print` gives

    none_of : (s : List ℕ) → length s ≡ 0 → length (records_of s) ≡ 0
    none_of s e = let o = so_many s in omega arith

    module _ (out out' : List ℕ) (w : ℕ) where
      pub prints_rest : (length a ≡ 0) ⊎ (length b ≡ 0) → w ≡ length (text_of (records_of rest.now)) → out' ≡ sets out 0 (text_of (records_of rest.now))
          → Prints a b third out third' out' number 0 w
      prints_rest e p q =
          let h = ⊎_elim (λ u. inl (none_of a u)) (λ u. inr (none_of b u)) e in
          let r = rest_shown (records_of a) (records_of b) refl refl h in
          prints 0 r.1 rest.now r.0 out out' w p q

      pub prints_join : (length a ≡ 0 → ⊥) → (length b ≡ 0 → ⊥) → w ≡ length (text_of (records_of (take count third')))
          → out' ≡ sets out 0 (text_of (records_of (take count third')))
          → Prints a b third out third' out' number (length rest.now) w
      prints_join m n p q =
          let k = accepted a b room accept in
          let r = join_shown (omega (arith, m, k.first_even, so_many a)) (omega (arith, n, k.second_even, so_many b)) in
          prints (length rest.now) r.1 (take count third') r.0 out out' w p q

    -- there is room for the rest, and for what the join wrote
    pub all_fit : (count ≤ length a + length b) × (length rest.now ≤ length a + length b)
    all_fit = let t = all_words A B third number count third' rest g z in (omega arith, omega arith)
