-- The rules of a cell, as facts; each change of a cell keeps them. Assumes nothing.
use Prim.Native.Nat.{ℕ, ◌+◌, ◌≤◌}
use mathlib.Core.Path.{◌≡◌, refl}
use mathlib.Core.Logic.{◌≢◌}
use mathlib.Core.Bool.{Bool, true, false, and-false}
use native.Mathlib.Omega.{arith}
use borrow.Author.Tests.{eqb-true, leb-true, le-leb, ltb-true, ltb-false}
use lib.Dec.{eqb, ltb}
use Rattle.rules.specs.Types.{Want, Cell, Message}
use Rattle.rules.specs.Cells.{able_to_read, able_to_write, back_up, cleared, give, is_nothing, received, recreated, served, settled, unbacked, unblocked, want_after, with_want, written}
use Rattle.rules.specs.WellFormed.{cell_zero, cell_rules}
use Rattle.rules.proofs.Laws.Bools.{bit, clash, never, split, by_pick, every_all, all_every, bit_of, bit_not, bit_small, not_bit_le, imp_bit, bit_imp, imp_some, some_imp, imp_none, none_imp, imp_then, then_imp}
use Rattle.rules.proofs.Laws.Cells.{by_marks}
use Rattle.rules.proofs.Laws.Sole.{Cleared}

-- what a cell's marks need
pub record Marks (c : Cell) : Type 0 where
  pub valid_token : bit c.valid ≤ c.tokens.0
  pub owner_valid : bit c.owner ≤ bit c.valid
  pub blocked_owner : bit c.blocked ≤ bit c.owner

-- the rules of a cell
pub record CellOk (n : ℕ) (memory : Bool) (c : Cell) : Type 0 where
  pub most : c.tokens.0 ≤ n
  pub marks : Marks c
  pub no_word : c.valid ≡ false → c.word ≡ 0
  pub no_saved : c.backup ≡ false → c.saved ≡ 0
  pub no_want : memory ≡ true → is_nothing c.want ≡ true

pub cell_ok : {n : ℕ} {memory : Bool} {c : Cell} → cell_rules n memory c ≡ true → CellOk n memory c
unfolding cell_rules
cell_ok h = let e = every_all _ h in search (leb-true, imp_some, imp_bit, imp_none, imp_then)

pub ok_cell : {n : ℕ} {memory : Bool} {c : Cell} → CellOk n memory c → cell_rules n memory c ≡ true
unfolding cell_rules
ok_cell k = let m = k.marks in all_every _ (search (le-leb, some_imp, bit_imp, none_imp, then_imp) depth 12)

-- a cell that is all zero
pub zero_marks : {c : Cell} → cell_zero c ≡ true → Marks c
unfolding cell_zero
zero_marks h = let e = every_all _ h in search not_bit_le

pub cleared_zero : (c : Cell) → cell_zero c ≡ true → cell_zero (cleared c) ≡ true
unfolding cell_zero
cleared_zero c h = let e = every_all _ h in all_every _ (search depth 12)

-- what a cell that is able to read, or to write, has
pub able_read : (c : Cell) → able_to_read c ≡ true → c.valid ≡ true
unfolding able_to_read
able_read c h = split c.valid (λ t. t) (λ f. clash h (rw (f, and-false)))

pub record Able (n : ℕ) (c : Cell) : Type 0 where
  pub all : c.tokens.0 ≡ n
  pub valid : c.valid ≡ true

able_all : (n : ℕ) (c : Cell) → able_to_write n c ≡ true → c.tokens.0 ≡ n
unfolding able_to_write
able_all n c h = split (eqb c.tokens.0 n) (λ t. eqb-true c.tokens.0 n t) (λ f. clash h (simp f))

able_valid : (n : ℕ) (c : Cell) → able_to_write n c ≡ true → c.valid ≡ true
unfolding able_to_write
able_valid n c h = split c.valid (λ t. t) (λ f. clash h (simp (f, and-false)))

pub able_write : (n : ℕ) (c : Cell) → able_to_write n c ≡ true → Able n c
able_write n c h = record { all = able_all n c h; valid = able_valid n c h }

-- a cell that a recreation clears has no token and no mark
pub cleared_bare : (c : Cell) → Cleared (cleared c)
cleared_bare c = record { none = refl; valid = refl; owner = refl; blocked = refl; backup = refl }

module _ {n : ℕ} {memory : Bool} {c : Cell} (k : CellOk n memory c) where
  pub written_ok : (w : ℕ) → c.valid ≡ true → CellOk n memory (written w c)
  written_ok w v = let h : c.valid ≡ false → w ≡ 0 = clash v in search arith

  pub with_want_ok : (w : Want) → (memory ≡ true → is_nothing w ≡ true) → CellOk n memory (with_want w c)
  with_want_ok w h = search arith

  pub settled_ok : CellOk n memory (settled n c)
  unfolding want_after
  settled_ok =
      with_want_ok (want_after n c)
      (λ h. by_pick (λ x. is_nothing x ≡ true) (served n c c.want) (λ _. refl) (λ _. k.no_want h))

  pub back_up_ok : c.blocked ≡ false → CellOk n memory (back_up c)
  back_up_ok b = let u = bit_not c.blocked b in search (arith, never)

  pub unbacked_ok : CellOk n memory (unbacked c)
  unbacked_ok = search arith

  pub unblocked_ok : CellOk n memory (unblocked c)
  unblocked_ok = search arith

  pub cleared_ok : CellOk n memory (cleared c)
  cleared_ok = search arith

  pub recreated_ok : (w : ℕ) → 1 ≤ n → CellOk n memory (recreated n w c)
  recreated_ok w h = search (arith, never)

  pub give_ok : (a : ℕ) → a ≤ c.tokens.0 → (c.owner ≡ true → a ≢ c.tokens.0) → CellOk n memory (give a c)
  give_ok a h o =
      split (ltb a c.tokens.0)
      (λ t.
      let l = ltb-true a c.tokens.0 t in
      let v = bit_small c.valid in
      rw t (search arith))
      (λ f.
      let l = ltb-false a c.tokens.0 f in
      let u : c.owner ≡ false = split c.owner (λ t. absurd (o t (omega arith))) (λ x. x) in
      let v = bit_not c.owner u in
      rw f (search arith))

  -- a token message arrives; of it only its tokens and that its owner mark needs its data mark
  pub received_ok : (m : Message) → c.tokens.0 + m.tokens.0 ≤ n → 1 ≤ m.tokens.0
      → bit m.owner ≤ bit m.full → CellOk n memory (received m c)
  received_ok m h t f =
      let o = bit_small c.owner in
      let b = bit_small c.blocked in
      by_marks (CellOk n memory) m c (λ _ _. search (arith, never)) (λ y d. absurd (omega (arith, bit_of m.owner y, bit_not m.full d)))
      (λ _ _. search (arith, never))
      (λ _ _. search arith)
