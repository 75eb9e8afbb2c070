-- A merge on its way: what the lists that are left give is to be written. Assumes nothing.
use Prim.Native.Nat.{ℕ, ◌+◌, ◌-◌, ◌*◌, ◌≤◌, ◌<◌}
use mathlib.Core.Path.{◌≡◌, refl, sym, ap, ◌∙◌}
use mathlib.Core.Bool.{Bool, true, false}
use mathlib.Core.List.{List, [], ◌∷◌, ◌++◌, append-nil}
use native.Mathlib.Omega.{arith}
use lib.ListN.{length, get_or, take, drop}
use lib.Seq.{drop-drop, length-take-le, take_all}
use Rattle.std.proofs.Common.{append_assoc, ◌⊎◌, ⊎_elim}
use Rattle.std.proofs.lemmas.List.{take-append-drop}
use Rattle.probes.specs.Records.{words_of, time_of}
use Rattle.probes.specs.Joins.{Joined, stop, by_first, by_second, joined}
use Rattle.probes.specs.Parts.{Merges}
use Rattle.probes.proofs.Merging.{first_used_up, second_used_up, first_next, second_next}

-- what holds before each record: us and vs are left of the lists xs and ys, and the third list is written up to the place `at`
pub record Going (xs ys us vs : List (List ℕ)) (third₀ third : List ℕ) (at : ℕ) : Type 0 where
  pub first_in : length us ≤ length xs
  pub second_in : length vs ≤ length ys
  pub place : at + 9 * (length us + length vs) ≡ 9 * (length xs + length ys)
  pub words : take at third ++ words_of (joined us vs).written ≡ words_of (joined xs ys).written
  pub kept : drop at third ≡ drop at third₀
  pub firsts : (joined us vs).firsts + length xs ≡ (joined xs ys).firsts + length us
  pub seconds : (joined us vs).seconds + length ys ≡ (joined xs ys).seconds + length vs

-- with one list used up, nothing is left to write
nothing_left : (us vs : List (List ℕ)) → (length us ≡ 0) ⊎ (length vs ≡ 0) → (d : Bool) × (joined us vs ≡ stop d)
nothing_left [] vs n = (true, first_used_up vs)
nothing_left (u ∷ us) [] n = (false, second_used_up u us)
nothing_left (u ∷ us) (v ∷ vs) n = absurd (⊎_elim (λ e. omega arith) (λ e. omega arith) n)

-- a list is its first record and the others
cut : (us us' : List (List ℕ)) → 0 < length us → us' ≡ take (length us - 1) (drop 1 us) → us ≡ get_or us 0 [] ∷ us'
cut [] us' h e = absurd (omega arith)
cut (u ∷ us) us' h e = ap (λ (l : List (List ℕ)). u ∷ l) (sym (e ∙ take_all (length (u ∷ us) - 1) us (omega arith)))

pub begun : (xs ys : List (List ℕ)) (third : List ℕ) → Going xs ys xs ys third third 0
begun xs ys third =
    record { first_in = omega arith; second_in = omega arith; place = omega arith; words = refl; kept = refl; firsts = refl; seconds = refl }

module _ (xs ys us vs : List (List ℕ)) (third₀ third : List ℕ) (at : ℕ) (g : Going xs ys us vs third₀ third at) where
  module _ (r : List ℕ) (third' : List ℕ) (w : take (at + 9) third' ≡ take at third ++ r) (k : drop (at + 9) third' ≡ drop (at + 9) third) where
    -- one record more is written
    more : (j : Joined) → (joined us vs).written ≡ r ∷ j.written → take (at + 9) third' ++ words_of j.written ≡ words_of (joined xs ys).written
    unfolding words_of
    more j e =
        ap (λ (l : List ℕ). l ++ words_of j.written) w ∙ append_assoc (take at third) r (words_of j.written)
        ∙ ap (λ (rs : List (List ℕ)). take at third ++ words_of rs) (sym e) ∙ g.words

    still : drop (at + 9) third' ≡ drop (at + 9) third₀
    still = k ∙ sym (drop-drop 9 at third) ∙ ap (drop 9) g.kept ∙ drop-drop 9 at third₀

    put_first : (us' : List (List ℕ)) (v : List ℕ) (vs' : List (List ℕ)) → us ≡ r ∷ us' → vs ≡ v ∷ vs' → time_of r ≤ time_of v
        → Going xs ys us' vs third₀ third' (at + 9)
    put_first us' v vs' e f l =
        let j : joined us vs ≡ by_first r (joined us' vs) = rw (e, f) (first_next r us' v vs' l) in
        let n = ap length e in
        let i = ap (λ (x : Joined). x.firsts) j in
        let s = ap (λ (x : Joined). x.seconds) j in
        record {
          first_in = omega arith;
          second_in = g.second_in;
          place = omega arith;
          words = more (joined us' vs) (ap (λ (x : Joined). x.written) j);
          kept = still;
          firsts = omega arith;
          seconds = omega arith;
        }

    put_second : (u : List ℕ) (us' vs' : List (List ℕ)) → us ≡ u ∷ us' → vs ≡ r ∷ vs' → time_of r < time_of u
        → Going xs ys us vs' third₀ third' (at + 9)
    put_second u us' vs' e f l =
        let j : joined us vs ≡ by_second r (joined us vs') = rw (e, f) (second_next u us' r vs' l) in
        let n = ap length f in
        let i = ap (λ (x : Joined). x.firsts) j in
        let s = ap (λ (x : Joined). x.seconds) j in
        record {
          first_in = g.first_in;
          second_in = omega arith;
          place = omega arith;
          words = more (joined us vs') (ap (λ (x : Joined). x.written) j);
          kept = still;
          firsts = omega arith;
          seconds = omega arith;
        }

  module _ (h : 0 < length us) (k : 0 < length vs) (third' : List ℕ) where
    -- the first list's record is put
    pub first_put : (us' : List (List ℕ)) → us' ≡ take (length us - 1) (drop 1 us) → take (at + 9) third' ≡ take at third ++ get_or us 0 []
        → drop (at + 9) third' ≡ drop (at + 9) third → time_of (get_or us 0 []) ≤ time_of (get_or vs 0 []) → Going xs ys us' vs third₀ third' (at + 9)
    first_put us' e w s l = put_first (get_or us 0 []) third' w s us' (get_or vs 0 []) _ (cut us us' h e) (cut vs _ k refl) l

    -- the second list's record is put
    pub second_put : (vs' : List (List ℕ)) → vs' ≡ take (length vs - 1) (drop 1 vs) → take (at + 9) third' ≡ take at third ++ get_or vs 0 []
        → drop (at + 9) third' ≡ drop (at + 9) third → time_of (get_or vs 0 []) < time_of (get_or us 0 []) → Going xs ys us vs' third₀ third' (at + 9)
    second_put vs' e w s l = put_second (get_or vs 0 []) third' w s (get_or us 0 []) _ vs' (cut us _ h refl) (cut vs vs' k e) l

  -- one list is used up
  pub ended : (length us ≡ 0) ⊎ (length vs ≡ 0) → at ≤ length third
      → Merges xs ys third₀ third (record { first = length xs - length us; second = length ys - length vs })
  unfolding words_of
  ended n h =
      let e = (nothing_left us vs n).1 in
      let w = sym (append-nil (take at third)) ∙ ap (λ (x : Joined). take at third ++ words_of x.written) (sym e) ∙ g.words in
      let l : at ≡ length (words_of (joined xs ys).written) = sym (length-take-le at third h) ∙ ap length w in
      let i = ap (λ (x : Joined). x.firsts) e in
      let s = ap (λ (x : Joined). x.seconds) e in
      record {
        written = sym (take-append-drop at third) ∙ ap (λ (l : List ℕ). l ++ drop at third) w ∙ rw (← l, g.kept);
        firsts = omega arith;
        seconds = omega arith;
        first_in = omega arith;
        second_in = omega arith;
      }
