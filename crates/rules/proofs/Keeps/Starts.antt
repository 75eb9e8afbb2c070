-- A fresh state is well formed. Assumes nothing.
use Prim.Native.Nat.{ℕ, zero, suc, ◌+◌, ◌*◌, ◌≤◌, ◌<◌}
use mathlib.Core.Path.{◌≡◌, refl, sym, ap, subst, ◌∙◌}
use mathlib.Core.Bool.{Bool, true, false, ◌&&◌}
use native.Mathlib.Omega.{arith}
use native.Mathlib.Decide.{ℕ_discrete}
use borrow.Author.Tests.{ltb-true, lt-ltb, le-leb, ltb-false}
use lib.Dec.{eqb, leb, ltb}
use lib.ListN.{length, get_or, length-set, length-replicate, get_or-replicate}
use lib.Seq.{get_or-set_same, get_or-set_other}
use Rattle.rules.specs.Types.{Serial}
use Rattle.rules.specs.Tools.{every}
use Rattle.rules.specs.States.{free_message, cell_at, slot_at, serial_at, bears}
use Rattle.rules.specs.Cells.{zero_cell}
use Rattle.rules.specs.WellFormed.{sizes_fine, serial_fine, cell_zero, cell_fine, counted, held, borne, in_cells, in_messages, tokens_of}
use Rattle.rules.specs.Fresh.{sizes, memory_cell, fresh_cells, fresh}
use Rattle.rules.proofs.Laws.Bools.{split, by_pick}
use Rattle.rules.proofs.Laws.Sums.{sum_zero}
use Rattle.rules.proofs.Laws.Views.{Sized}
use Rattle.rules.proofs.Laws.Bears.{bears_free, counts_not}
use Rattle.rules.proofs.Laws.Sole.{Cleared, Sole, sole_cells, sole_messages}
use Rattle.rules.proofs.Keeps.Cells.{CellOk, ok_cell, cleared_bare}
use Rattle.rules.proofs.Keeps.Messages.{fine_free}
use Rattle.rules.proofs.Keeps.Well.{Well, WellIn, SizesOk, sizes_ok}

module _ (c n : ℕ) (hc : c < 9) where
  length_fresh : (l : ℕ) → length (fresh_cells l c n) ≡ 144
  unfolding fresh_cells
  length_fresh zero = length-replicate 144 zero_cell
  length_fresh (suc l) = simp (length-set, length_fresh l)

  -- the memory's cells of the lines below l, and the others
  fresh_memory : (l k : ℕ) → l ≤ 16 → k < l → get_or (fresh_cells l c n) (k * 9 + c) zero_cell ≡ memory_cell n
  unfolding fresh_cells
  fresh_memory zero k h m = absurd (omega arith)
  fresh_memory (suc l) k h m =
      elim (ℕ_discrete k l) [
        | yes e ↦ rw e (get_or-set_same (fresh_cells l c n) (l * 9 + c) (memory_cell n) zero_cell (omega (arith, length_fresh l)))
        | no d ↦ get_or-set_other (fresh_cells l c n) (l * 9 + c) (k * 9 + c) (memory_cell n) zero_cell (omega arith)
            ∙ fresh_memory l k (omega arith) (omega arith)
      ]

  fresh_zero : (l k j : ℕ) → k < 16 → j < 9 → (j ≡ c → l ≤ k) → get_or (fresh_cells l c n) (k * 9 + j) zero_cell ≡ zero_cell
  unfolding fresh_cells
  fresh_zero zero k j hk hj h = get_or-replicate 144 (k * 9 + j) zero_cell zero_cell (omega arith)
  fresh_zero (suc l) k j hk hj h =
      get_or-set_other (fresh_cells l c n) (l * 9 + c) (k * 9 + j) (memory_cell n) zero_cell
      (λ e. elim (ℕ_discrete j c) [ yes q ↦ (let b = h q in omega arith) | no d ↦ omega arith ])
      ∙ fresh_zero l k j hk hj (λ q. let b = h q in omega arith)

module _ (c l n : ℕ) (fine : sizes_fine (sizes c l n) ≡ true) where
  z : SizesOk (sizes c l n)
  z = sizes_ok fine

  pub fresh_sized : Sized (fresh c l n)
  unfolding fresh
  fresh_sized =
      record {
        cells = length_fresh c n (omega (arith, z.caches)) l;
        pool = length-replicate 64 free_message;
        serials = length-replicate {A = Serial} 16 (record { 0 = 0 });
      }

  at_memory : (k : ℕ) → k < l → cell_at (fresh c l n) k c ≡ memory_cell n
  unfolding fresh cell_at
  at_memory k h = fresh_memory c n (omega (arith, z.caches)) l k z.lines h

  at_zero : (k j : ℕ) → k < 16 → j < 9 → (j ≡ c → l ≤ k) → cell_at (fresh c l n) k j ≡ zero_cell
  unfolding fresh cell_at
  at_zero k j hk hj h = fresh_zero c n (omega (arith, z.caches)) l k j hk hj h

  at_slot : (i : ℕ) → i < 64 → slot_at (fresh c l n) i ≡ free_message
  unfolding fresh slot_at
  at_slot i h = get_or-replicate 64 i free_message free_message h

  at_serial : (k : ℕ) → k < 16 → serial_at (fresh c l n) k ≡ 0
  unfolding fresh serial_at
  at_serial k h = ap (λ (x : Serial). x.0) (get_or-replicate 16 k (record { 0 = 0 }) (record { 0 = 0 }) h)

  -- no message counts
  unborne : (k i : ℕ) → i < 64 → bears k (serial_at (fresh c l n) k) (slot_at (fresh c l n) i) ≡ false
  unborne k i hi = rw (at_slot i hi) (bears_free k (serial_at (fresh c l n) k) free_message refl)

  -- all tokens of a line stand in the memory's cell
  pub sole : (k : ℕ) → k < l → Sole (fresh c l n) k c (memory_cell n)
  sole k hk =
      record {
        node9 = omega (arith, z.caches);
        cell = at_memory k hk;
        other = λ j hj d. subst Cleared (sym (at_zero k j (omega (arith, z.lines)) hj (λ q. absurd (d q)))) (cleared_bare zero_cell);
        unborne = unborne k;
      }

  memory_ok : (b : Bool) → CellOk n b (memory_cell n)
  memory_ok b = let a = z.a_token in search arith

  zero_ok : (b : Bool) → CellOk n b zero_cell
  zero_ok b = search arith

  fine_zero : (k j : ℕ) → cell_fine (sizes c l n) k j zero_cell ≡ true
  unfolding cell_fine cell_zero every
  fine_zero k j = by_pick (λ b. b ≡ true) (ltb k l && leb j c) (λ _. ok_cell (zero_ok (eqb j c))) (λ _. refl)

  fine_memory : (k : ℕ) → k < l → cell_fine (sizes c l n) k c (memory_cell n) ≡ true
  unfolding cell_fine
  fine_memory k h = rw (lt-ltb k l h, le-leb c c (omega arith)) (ok_cell (memory_ok (eqb c c)))

  fine_cell : (k : ℕ) → k < 16 → (j : ℕ) → j < 9 → cell_fine (sizes c l n) k j (cell_at (fresh c l n) k j) ≡ true
  fine_cell k hk j hj =
      split (ltb k l)
      (λ t.
      let h = ltb-true k l t in
      elim (ℕ_discrete j c) [
        | yes e ↦ subst (λ y. cell_fine (sizes c l n) k y (cell_at (fresh c l n) k y) ≡ true) (sym e) (rw (at_memory k h) (fine_memory k h))
        | no d ↦ rw (at_zero k j hk hj (λ q. absurd (d q))) (fine_zero k j)
      ])
      (λ f. rw (at_zero k j hk hj (λ _. ltb-false k l f)) (fine_zero k j))

  fine_serial : (k : ℕ) → k < 16 → serial_fine (sizes c l n) k (serial_at (fresh c l n) k) ≡ true
  unfolding serial_fine
  fine_serial k hk = rw (at_serial k hk) (by_pick (λ b. b ≡ true) (ltb k l) (λ _. refl) (λ _. refl))

  few : (k : ℕ) → k < 16 → tokens_of (fresh c l n) k ≤ n
  unfolding tokens_of in_cells in_messages
  few k hk =
      split (ltb k l) (λ t. let h = sole k (ltb-true k l t) in omega (arith, sole_cells h held (λ _ b. b.none), sole_messages h borne))
      (λ f.
      omega (
        arith,
        sum_zero 9 {f = λ j. held (cell_at (fresh c l n) k j)} (λ j hj. ap held (at_zero k j hk hj (λ _. ltb-false k l f))),
        sum_zero 64 {f = λ i. counted k (serial_at (fresh c l n) k) borne (slot_at (fresh c l n) i)} (λ i hi. counts_not k (serial_at (fresh c l n) k) borne (slot_at (fresh c l n) i) (unborne k i hi)),
      ))

  well_in : WellIn (sizes c l n) (fresh c l n)
  well_in =
      record {
        sizes = fine;
        serials = fine_serial;
        cells = fine_cell;
        slots = λ i hi. rw (at_slot i hi) (fine_free (sizes c l n));
        sums = few;
      }

  pub fresh_well : Well (fresh c l n)
  unfolding fresh
  fresh_well = well_in
