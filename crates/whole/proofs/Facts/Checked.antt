-- The passes over a state, put together. Assumes nothing.
use Prim.Native.Nat.{ℕ, ◌+◌}
use mathlib.Core.Bool.{Bool, true, false, ◌&&◌, and-true, and-false}
use mathlib.Core.Path.{◌≡◌, refl, ap, ap₂, ◌∙◌}
use mathlib.Core.List.{List, [], ◌∷◌}
use lib.Dec.{leb}
use Rattle.std.specs.Prelude.{Option, Some, None, MatchOption}
use Rattle.whole.specs.Types.{State}
use Rattle.rules.specs.Tools.{every, all_to}
use Rattle.rules.specs.WellFormed.{sizes_fine, serial_fine_at, line_fine, slot_fine, within_total, in_messages, borne, tokens_of, well_formed}
use Rattle.whole.specs.Tallies.{parts_fine, CellsTallied, PoolTallied, Tallied}
use Rattle.rules.proofs.Laws.Bools.{and_both}
use Rattle.std.specs.List.{list_all}
use Rattle.whole.proofs.Facts.Tables.{list_all_16}
use Rattle.rules.proofs.Facts.Loops.{all_same}

-- the pool's pass, after that of the cells
pub tallied : (s : State) {t : List ℕ} → CellsTallied s t → (r : Option (List ℕ)) → MatchOption r (all_to 64 (slot_fine s) ≡ false) (PoolTallied s t)
    → MatchOption r (parts_fine s ≡ false) (Tallied s)
unfolding tokens_of
tallied s hc None h = rw (h, and-false)
tallied s hc (Some u) h =
    record {
      fine = rw (hc.fine, h.fine);
      long = h.long;
      sum = λ k l. h.sum k l ∙ ap (λ n. n + in_messages s k borne) (hc.sum k l);
    }

five_some : (a b c d e : Bool) → c ≡ true → d ≡ true → a && b && e ≡ every (a ∷ b ∷ c ∷ d ∷ e ∷ [])
unfolding every
five_some true true c d e p q = rw (p, q, and-true)
five_some true false c d e p q = refl
five_some false b c d e p q = refl

five_none : (a b c d e : Bool) → c && d ≡ false → false ≡ every (a ∷ b ∷ c ∷ d ∷ e ∷ [])
unfolding every
five_none true true true d e h = rw h
five_none true true false d e h = refl
five_none true false c d e h = refl
five_none false b c d e h = refl

-- what the tests and the table say of the whole state
pub some_checked : (s : State) {a b e : Bool} {u : List ℕ} → a ≡ sizes_fine s.sizes → b ≡ all_to 16 (serial_fine_at s) → Tallied s u
    → e ≡ list_all (λ sum. leb sum s.sizes.total.0) u → a && b && e ≡ well_formed s
unfolding well_formed
some_checked s {u = u} ha hb h he =
    let p = and_both (all_to 16 (line_fine s)) (all_to 64 (slot_fine s)) h.fine in
    let sums = list_all_16 0 (λ sum. leb sum s.sizes.total.0) u h.long ∙ all_same 16 (λ k l. ap (λ n. leb n s.sizes.total.0) (h.sum k l)) in
    ap₂ ◌&&◌ (ap₂ ◌&&◌ ha hb) (he ∙ sums) ∙ five_some _ _ _ _ _ p.0 p.1

pub none_checked : (s : State) → parts_fine s ≡ false → false ≡ well_formed s
unfolding well_formed
none_checked s h = five_none (sizes_fine s.sizes) (all_to 16 (serial_fine_at s)) _ _ (all_to 16 (within_total s)) h
