-- Well formed, as facts. Assumes nothing.
use Prim.Native.Nat.{ℕ, ◌+◌, ◌≤◌, ◌<◌}
use mathlib.Core.Path.{◌≡◌, subst}
use mathlib.Core.Bool.{true, false, ◌&&◌}
use native.Mathlib.Omega.{arith}
use borrow.Author.Tests.{ltb-true, leb-true, lt-ltb, le-leb}
use lib.Dec.{eqb, leb, ltb}
use Rattle.rules.specs.Types.{Tokens, Sizes, State}
use Rattle.rules.specs.States.{cell_at, slot_at, serial_at}
use Rattle.rules.specs.WellFormed.{sizes_fine, serial_fine, cell_fine, message_fine, tokens_of, well_formed}
use Rattle.rules.specs.Refusals.{free_at}
use Rattle.rules.proofs.Laws.Bools.{split, every_all, all_every}
use Rattle.rules.proofs.Laws.Sums.{all_at, at_all}
use Rattle.rules.proofs.Laws.Changes.{Place}
use Rattle.rules.proofs.Keeps.Cells.{Marks, CellOk, cell_ok, zero_marks}
use Rattle.rules.proofs.Keeps.Messages.{AddressOk, TokensOk, Sort, sort, has_address, has_tokens, within_total_lem}

-- well formed at some sizes, as facts; and at the state's own
pub record WellIn (z : Sizes) (s : State) : Type 0 where
  pub sizes : sizes_fine z ≡ true
  pub serials : (k : ℕ) → k < 16 → serial_fine z k (serial_at s k) ≡ true
  pub cells : (k : ℕ) → k < 16 → (j : ℕ) → j < 9 → cell_fine z k j (cell_at s k j) ≡ true
  pub slots : (i : ℕ) → i < 64 → message_fine z (slot_at s i) (slot_at s i).kind ≡ true
  pub sums : (k : ℕ) → k < 16 → tokens_of s k ≤ z.total.0

abbrev pub Well : State → Type 0
Well s = WellIn s.sizes s

pub well : {s : State} → well_formed s ≡ true → Well s
unfolding well_formed
well {s} h =
    let e = every_all _ h in
    record {
      sizes = e.0;
      serials = all_at 16 _ e.1.0;
      cells = λ l hl. all_at 9 _ (all_at 16 _ e.1.1.0 l hl);
      slots = all_at 64 _ e.1.1.1.0;
      sums = λ l hl. leb-true _ _ (all_at 16 _ e.1.1.1.1.0 l hl);
    }

pub well_formed_lem : {s : State} → Well s → well_formed s ≡ true
unfolding well_formed
well_formed_lem {s} w =
    all_every _ (
      w.sizes,
      (
        at_all 16 _ w.serials,
        (
          at_all 16 _ (λ l hl. at_all 9 _ (w.cells l hl)),
          (at_all 64 _ w.slots, (at_all 16 _ (λ l hl. le-leb _ _ (w.sums l hl)), tt)),
        ),
      ),
    )

-- the sizes, as facts
pub record SizesOk (z : Sizes) : Type 0 where
  pub a_cache : 1 ≤ z.caches
  pub caches : z.caches ≤ 8
  pub a_line : 1 ≤ z.lines
  pub lines : z.lines ≤ 16
  pub a_token : 1 ≤ z.total.0
  pub tokens : z.total.0 ≤ 64

pub sizes_ok : {z : Sizes} → sizes_fine z ≡ true → SizesOk z
unfolding sizes_fine
sizes_ok h = let e = every_all _ h in search leb-true

module _ {s : State} (w : Well s) where
  -- a place within the sizes
  pub place : {l n i : ℕ} → l < s.sizes.lines → n ≤ s.sizes.caches → i < 64 → Place s l n i
  place hl hn hi =
      let z = sizes_ok w.sizes in
      record { line = hl; node = hn; line16 = omega arith; node9 = omega arith; slot64 = hi }

  -- a cell within the sizes
  pub cell_in : {l n : ℕ} → l < s.sizes.lines → n ≤ s.sizes.caches
      → CellOk s.sizes.total.0 (eqb n s.sizes.caches) (cell_at s l n)
  unfolding cell_fine
  cell_in {l} {n} hl hn =
      let z = sizes_ok w.sizes in
      cell_ok (rw (lt-ltb l s.sizes.lines hl, le-leb n s.sizes.caches hn) at (w.cells l (omega arith) n (omega arith)))

  -- the marks of any cell
  pub marks : (l j : ℕ) → l < 16 → j < 9 → Marks (cell_at s l j)
  unfolding cell_fine
  marks l j hl hj =
      split (ltb l s.sizes.lines && leb j s.sizes.caches) (λ t. (cell_ok (rw t at (w.cells l hl j hj))).marks)
      (λ f. zero_marks (rw f at (w.cells l hl j hj)))

  -- a serial of a line within the sizes
  pub serial_small : {l : ℕ} → l < s.sizes.lines → serial_at s l < 4
  unfolding serial_fine
  serial_small {l} hl =
      let z = sizes_ok w.sizes in
      ltb-true (serial_at s l) 4 (rw (lt-ltb l s.sizes.lines hl) at (w.serials l (omega arith)))

  -- what stands in a slot
  pub slot_sort : (i : ℕ) → i < 64 → Sort s.sizes (slot_at s i) (slot_at s i).kind
  slot_sort i hi = sort (slot_at s i).kind (w.slots i hi)

  pub slot_address : (i : ℕ) → i < 64 → free_at s i ≡ false → AddressOk s.sizes (slot_at s i)
  slot_address i hi f = has_address f (slot_sort i hi)

  pub slot_tokens : (i : ℕ) → i < 64 → (slot_at s i).kind ≡ Tokens → TokensOk s.sizes (slot_at s i)
  slot_tokens i hi e =
      has_tokens s.sizes (slot_at s i) (subst (λ k. message_fine s.sizes (slot_at s i) k ≡ true) e (w.slots i hi))

-- what code may use of a state that is well formed
module _ (s : State) (h : well_formed s ≡ true) where
  pub well_sizes : SizesOk s.sizes
  well_sizes = sizes_ok (well h).sizes

  pub well_serial : (line : ℕ) → line < s.sizes.lines → serial_at s line < 4
  well_serial line l = serial_small (well h) l

  pub well_cell : (line node : ℕ) → line < s.sizes.lines → node ≤ s.sizes.caches
      → CellOk s.sizes.total.0 (eqb node s.sizes.caches) (cell_at s line node)
  well_cell line node l n = cell_in (well h) l n

  pub well_count : (line node : ℕ) → line < s.sizes.lines → node ≤ s.sizes.caches
      → (cell_at s line node).tokens.0 ≤ s.sizes.total.0
  well_count line node l n = (well_cell line node l n).most

  pub well_address : (i : ℕ) → i < 64 → free_at s i ≡ false → AddressOk s.sizes (slot_at s i)
  well_address i l f = slot_address (well h) i l f

  -- the tokens of a message, and of the cell that it is for
  pub well_fits : (i : ℕ) → i < 64 → free_at s i ≡ false
      → (cell_at s (slot_at s i).line (slot_at s i).destination).tokens.0 + (slot_at s i).tokens.0 < 256
  well_fits i l f =
      let a = well_address i l f in
      let z = well_sizes in
      omega (arith, well_count (slot_at s i).line (slot_at s i).destination a.line a.destination, within_total_lem (slot_sort (well h) i l))
