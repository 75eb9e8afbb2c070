-- A change of one cell and one slot: what it has to show to keep a state well formed. Assumes nothing.
use Prim.Native.Nat.{ℕ, ◌+◌, ◌≤◌, ◌<◌}
use mathlib.Core.Path.{◌≡◌, refl, sym, subst}
use mathlib.Core.Bool.{true}
use native.Mathlib.Omega.{arith}
use native.Mathlib.Decide.{ℕ_discrete}
use borrow.Author.Tests.{lt-ltb, le-leb}
use lib.Dec.{eqb}
use Rattle.rules.specs.Types.{Cell, Message, State}
use Rattle.rules.specs.States.{cell_at, slot_at, serial_at, with_cell}
use Rattle.rules.specs.WellFormed.{cell_fine, message_fine, counted, in_cells, in_messages, held, borne, tokens_of}
use Rattle.rules.proofs.Laws.Views.{Sized}
use Rattle.rules.proofs.Laws.Bears.{Like, alike}
use Rattle.rules.proofs.Laws.Changes.{Changed, cell_changes, cells_at, cells_other, messages_at, messages_other}
use Rattle.rules.proofs.Keeps.Cells.{CellOk, ok_cell}
use Rattle.rules.proofs.Keeps.Well.{Well, WellIn, place}

module _ {s s' : State} {l n : ℕ} {c : Cell} {i : ℕ} {m : Message} (ch : Changed s s' l n c i m) (w : Well s) where
  -- the tokens of each line stay within the total
  still_sums : Like l (slot_at s i) m
      → held c + counted l (serial_at s l) borne m ≤ held (cell_at s l n) + counted l (serial_at s l) borne (slot_at s i)
      → (k : ℕ) → k < 16 → tokens_of s' k ≤ s.sizes.total.0
  unfolding tokens_of
  still_sums o h k hk =
      elim (ℕ_discrete k l) [
        | yes e ↦ (let b : in_cells s l held + in_messages s l borne ≤ s.sizes.total.0 = w.sums l ch.place.line16 in
            rw e (omega (arith, cells_at ch held, messages_at ch l borne)))
        | no d ↦ (let b : in_cells s k held + in_messages s k borne ≤ s.sizes.total.0 = w.sums k hk in
            omega (arith, cells_other ch k d held, messages_other ch o k d borne))
      ]

  pub still_well : CellOk s.sizes.total.0 (eqb n s.sizes.caches) c
      → message_fine s.sizes m m.kind ≡ true
      → Like l (slot_at s i) m
      → held c + counted l (serial_at s l) borne m ≤ held (cell_at s l n) + counted l (serial_at s l) borne (slot_at s i)
      → Well s'
  unfolding cell_fine
  still_well kc km o h =
      subst (λ z. WellIn z s') (sym ch.sizes)
      (record {
        sizes = w.sizes;
        serials = λ k hk. rw (ch.serial k) (w.serials k hk);
        cells = fine;
        slots = clean;
        sums = still_sums o h;
      })
    where
      fine : (k : ℕ) → k < 16 → (j : ℕ) → j < 9 → cell_fine s.sizes k j (cell_at s' k j) ≡ true
      fine k hk j hj =
          elim (ℕ_discrete k l) [
            | yes e ↦ elim (ℕ_discrete j n) [
              | yes q ↦ rw (e, q, ch.cell, lt-ltb l s.sizes.lines ch.place.line, le-leb n s.sizes.caches ch.place.node) (ok_cell kc)
              | no d ↦ rw e (rw (ch.other_node j hj d) (w.cells l (rw e at hk) j hj))
            ]
            | no d ↦ rw (ch.other_line k d j hj) (w.cells k hk j hj)
          ]

      clean : (j : ℕ) → j < 64 → message_fine s.sizes (slot_at s' j) (slot_at s' j).kind ≡ true
      clean j hj = elim (ℕ_discrete j i) [ yes e ↦ rw (e, ch.slot) km | no d ↦ rw (ch.other_slot j d) (w.slots j hj) ]

module _ {s : State} (z : Sized s) (w : Well s) {l n : ℕ} (hl : l < s.sizes.lines) (hn : n ≤ s.sizes.caches) (c : Cell) where
  -- a cell replaced: slot 0 is put back as it is
  pub cell_change : Changed s (with_cell s l n c) l n c 0 (slot_at s 0)
  cell_change = cell_changes z (place w hl hn (omega arith)) c

  -- by one with as many tokens
  pub cell_well : CellOk s.sizes.total.0 (eqb n s.sizes.caches) c → held c ≡ held (cell_at s l n)
      → Well (with_cell s l n c)
  cell_well k e = still_well cell_change w k (w.slots 0 (omega arith)) (alike refl) (omega arith)
