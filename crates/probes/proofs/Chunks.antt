-- The records of a list from a place on. Assumes nothing.
use Prim.Native.Nat.{ℕ, suc, ◌+◌, ◌-◌, ◌/◌, ◌≤◌, ◌<◌}
use mathlib.Core.Path.{◌≡◌, ap, ◌∙◌}
use mathlib.Core.List.{List, [], ◌∷◌, ◌++◌}
use native.Mathlib.Omega.{arith}
use native.Mathlib.Nat.{add-zero}
use native.Mathlib.Numerals.{add-one}
use lib.ListN.{length, get_or, take, drop, set, length-drop}
use lib.Seq.{drop-drop, get_or-take, get_or-drop, length-take-le, take-suc}
use Rattle.std.proofs.Common.{append_assoc}
use Rattle.std.proofs.lemmas.List.{take_more_set, drop-set-lt}
use Rattle.probes.specs.Records.{records, records_of, time_of}

module _ (s : List ℕ) (i : ℕ) where
  pub records_none : length s - i < 9 → records_of (drop i s) ≡ []
  unfolding records_of records
  records_none h =
      let e : length (drop i s) / 9 ≡ 0 = simp length-drop (omega arith) in
      rw e

  module _ (h : i + 9 ≤ length s) where
    pub records_more : records_of (drop i s) ≡ take 9 (drop i s) ∷ records_of (drop (i + 9) s)
    unfolding records_of records
    records_more =
        let e : length (drop i s) / 9 ≡ suc (length (drop (i + 9) s) / 9) = simp length-drop (omega arith) in
        rw (e, drop-drop)

    pub record_long : length (take 9 (drop i s)) ≡ 9
    record_long = length-take-le 9 (drop i s) (simp length-drop (omega arith))

    pub time_at : time_of (take 9 (drop i s)) ≡ get_or s i 0
    time_at = get_or-take 9 (drop i s) 0 0 (omega arith) ∙ get_or-drop i s 0 0 ∙ ap (λ (k : ℕ). get_or s k 0) (add-zero i)

-- one word more of a record r is put, at place `at`
module _ (d₀ d r : List ℕ) (at k : ℕ) (h : at + k < length d) where
  pub word_written : k < length r → take (at + k) d ≡ take at d₀ ++ take k r
      → take (at + (k + 1)) (set d (at + k) (get_or r k 0)) ≡ take at d₀ ++ take (k + 1) r
  word_written l w =
      let e : at + (k + 1) ≡ at + k + 1 = omega arith in
      let m : take (k + 1) r ≡ take k r ++ get_or r k 0 ∷ [] = rw add-one (take-suc r k 0 l) in
      rw (e, m) (take_more_set d (at + k) (get_or r k 0) h ∙ ap (λ (v : List ℕ). v ++ get_or r k 0 ∷ []) w ∙ append_assoc (take at d₀) (take k r) _)

  pub word_kept : (x : ℕ) → drop (at + k) d ≡ drop (at + k) d₀ → drop (at + (k + 1)) (set d (at + k) x) ≡ drop (at + (k + 1)) d₀
  word_kept x w =
      let e : at + (k + 1) ≡ at + k + 1 = omega arith in
      drop-set-lt _ d _ x (omega arith) ∙ rw (e, ← drop-drop 1 (at + k) d, ← drop-drop 1 (at + k) d₀) (ap (drop 1) w)
