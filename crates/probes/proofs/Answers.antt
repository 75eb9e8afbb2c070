-- What `join` answers, from what was found and what was merged. Assumes nothing.
use Prim.Native.Nat.{ℕ, ◌+◌, ◌-◌, ◌*◌}
use mathlib.Core.Path.{◌≡◌, refl, sym, ◌∙◌}
use mathlib.Core.Bool.{false}
use mathlib.Core.List.{List, ◌++◌}
use native.Mathlib.Omega.{arith}
use borrow.Author.Tests.{eq-eqb, ne_eqb}
use lib.ListN.{length, take, drop, length-drop}
use lib.Seq.{take_all}
use denote.Ref.{Bor}
use Rattle.probes.specs.declared.joining.Taken.{Taken}
use Rattle.probes.specs.Records.{records_of, words_of}
use Rattle.probes.specs.Joins.{Joined, stop, joined, number_of, join_of, From, Rest, Joins}
use Rattle.probes.specs.Parts.{Merges}
use Rattle.probes.proofs.Refusals.{Accepted, accepted}
use Rattle.probes.proofs.Merging.{done_told}
use Rattle.probes.proofs.Words.{all_nine, words_taken}

-- `&s[k..]` is s from its word k on
pub tail : (s : Bor (List ℕ)) (k : ℕ) (r : Bor (List ℕ)) → r.now ≡ take (length s.now - k) (drop k s.now) → r.ref_ptr.0 ≡ s.ref_ptr.0
    → r.ref_ptr.1 ≡ k * 4 + s.ref_ptr.1 → From s k r
tail s k r w b o =
    record { words = w ∙ take_all (length s.now - k) (drop k s.now) (simp length-drop (omega arith)); block = b; offset = omega arith }

module _ (a b : Bor (List ℕ)) (third : List ℕ) (n : ℕ) (e : n ≡ number_of a.now b.now (length third)) where
  answers : (x : Joined) → join_of a.now b.now (length third) ≡ x → (count : ℕ) (third' : List ℕ) (r : Bor (List ℕ))
      → count ≡ length (words_of x.written) → third' ≡ words_of x.written ++ drop count third → Rest a b x r → Joins a b third n count third' r
  answers x j count third' r c w f = record { numbered = e; counted = rw j c; written = rw j w; rest = rw j f }

  pub left : (n ≡ 0 → ⊥) → join_of a.now b.now (length third) ≡ stop false
  unfolding join_of
  left h = rw (← e, ne_eqb _ _ h)

  pub refused : (n ≡ 0 → ⊥) → Joins a b third n 0 third a
  unfolding words_of
  refused h = answers (stop false) (left h) 0 third a refl refl (record { words = refl; block = refl; offset = omega arith })

  module _ (z : n ≡ 0) where
    pub known : Accepted a.now b.now (length third)
    known = accepted a.now b.now (length third) (sym e ∙ z)

    pub took : join_of a.now b.now (length third) ≡ joined (records_of a.now) (records_of b.now)
    unfolding join_of
    took = rw (← e, z)

    module _ (third' : List ℕ) (t : Taken) (g : Merges (records_of a.now) (records_of b.now) third third' t) where
      taken : 9 * (t.first + t.second) ≡ length (words_of (joined (records_of a.now) (records_of b.now)).written)
      taken = rw (g.firsts, g.seconds) (sym (words_taken _ _ (all_nine a.now) (all_nine b.now)))

      module _ (r : Bor (List ℕ)) where
        done : Rest a b (joined (records_of a.now) (records_of b.now)) r → Joins a b third n (9 * (t.first + t.second)) third' r
        done f = answers (joined (records_of a.now) (records_of b.now)) took _ third' r taken (g.written ∙ rw (← taken) refl) f

        pub second_rest : t.first ≡ length (records_of a.now) → From b (9 * t.second) r → Joins a b third n (9 * (t.first + t.second)) third' r
        second_rest d f = done (rw (done_told (records_of a.now) (records_of b.now), eq-eqb _ _ (sym g.firsts ∙ d), ← g.seconds) f)

        pub first_rest : (t.first ≡ length (records_of a.now) → ⊥) → From a (9 * t.first) r → Joins a b third n (9 * (t.first + t.second)) third' r
        first_rest d f = done (rw (done_told (records_of a.now) (records_of b.now), ne_eqb _ _ (λ e. d (g.firsts ∙ e)), ← g.firsts) f)
