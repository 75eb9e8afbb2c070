-- What is known of an event that no number refuses. Assumes nothing.
use Prim.Native.Nat.{ℕ, zero, suc, ◌≤◌, ◌<◌}
use mathlib.Core.Path.{◌≡◌, refl, subst}
use mathlib.Core.Logic.{◌≢◌}
use mathlib.Core.Bool.{true, false, or-true}
use native.Mathlib.Omega.{arith}
use borrow.Author.Tests.{ltb-false, leb-false, eqb-true, eqb-false, eq-eqb}
use lib.Dec.{eqb, ltb}
use Rattle.rules.specs.Types.{Cell, State, Event}
use Rattle.rules.specs.States.{cell_at, serial_at}
use Rattle.rules.specs.Refusals.{timeout, slotted, for_caches, wrong_amount, wrong_owner, seen, table, table_of, given, refusal, cell_of, free_at, lowest_free, copyless, backupless, unborne, next}
use Rattle.rules.specs.Cells.{able_to_read, able_to_write}
use Rattle.rules.proofs.Laws.Bools.{clash, split, or_left}
use Rattle.rules.proofs.Laws.Sums.{first_hit, first_le}
use Rattle.rules.proofs.Laws.Rows.{applies, Clear, clear, given_first}

-- an event that is accepted meets no row
pub accepted : (s : State) (e : Event) → refusal s e ≡ 0 → Clear (table_of s e e.kind)
unfolding refusal
accepted s e h = clear (seen s e) e e.kind h

-- by the kinds
pub by_kind : (P : ℕ → Type 0) → P 0 → P 1 → P 2 → P 3 → P 4 → P 5 → P 6 → P 7 → P 8 → P 9 → (k : ℕ) → k ≤ 9 → P k
by_kind P p0 p1 p2 p3 p4 p5 p6 p7 p8 p9 zero h = p0
by_kind P p0 p1 p2 p3 p4 p5 p6 p7 p8 p9 (suc zero) h = p1
by_kind P p0 p1 p2 p3 p4 p5 p6 p7 p8 p9 (suc (suc zero)) h = p2
by_kind P p0 p1 p2 p3 p4 p5 p6 p7 p8 p9 (suc (suc (suc zero))) h = p3
by_kind P p0 p1 p2 p3 p4 p5 p6 p7 p8 p9 (suc (suc (suc (suc zero)))) h = p4
by_kind P p0 p1 p2 p3 p4 p5 p6 p7 p8 p9 (suc (suc (suc (suc (suc zero))))) h = p5
by_kind P p0 p1 p2 p3 p4 p5 p6 p7 p8 p9 (suc (suc (suc (suc (suc (suc zero)))))) h = p6
by_kind P p0 p1 p2 p3 p4 p5 p6 p7 p8 p9 (suc (suc (suc (suc (suc (suc (suc zero))))))) h = p7
by_kind P p0 p1 p2 p3 p4 p5 p6 p7 p8 p9 (suc (suc (suc (suc (suc (suc (suc (suc zero)))))))) h = p8
by_kind P p0 p1 p2 p3 p4 p5 p6 p7 p8 p9 (suc (suc (suc (suc (suc (suc (suc (suc (suc zero))))))))) h = p9
by_kind P p0 p1 p2 p3 p4 p5 p6 p7 p8 p9 (suc (suc (suc (suc (suc (suc (suc (suc (suc (suc k)))))))))) h = absurd (omega arith)

pub kind_small : (s : State) (e : Event) (k : ℕ) → Clear (table_of s e k) → k ≤ 9
unfolding Clear applies table
kind_small s e k c = ltb-false 9 k (or_left _ _ (c 2))

-- the line and the node that the event names are within the sizes
pub record Named (s : State) (e : Event) : Type 0 where
  pub line : e.line < s.sizes.lines
  pub node : e.node ≤ s.sizes.caches

-- the node is a cache
pub record Cached (s : State) (e : Event) : Type 0 where
  pub named : Named s e
  pub cache : eqb e.node s.sizes.caches ≡ false

-- the line's tokens can be recreated: where it has no copy, the node has a backup
pub record Timeout (s : State) (e : Event) : Type 0 where
  pub named : Named s e
  pub unborne : unborne s e.line (next (serial_at s e.line)) ≡ true
  pub copy : copyless (cell_at s e.line) ≡ true → (cell_of s e).backup ≡ true

-- the tokens can be sent
pub record Sends (s : State) (e : Event) : Type 0 where
  pub named : Named s e
  pub other : e.other ≤ s.sizes.caches
  pub apart : eqb e.node e.other ≡ false
  pub some : 1 ≤ e.amount
  pub within : e.amount ≤ (cell_of s e).tokens.0
  pub keeps : eqb e.owner 1 ≡ false → (cell_of s e).owner ≡ true → e.amount ≢ (cell_of s e).tokens.0
  pub owner : eqb e.owner 1 ≡ true → (cell_of s e).owner ≡ true
  pub full : eqb e.owner 1 ≡ true → eqb e.full 1 ≡ true
  pub unblocked : eqb e.owner 1 ≡ true → (cell_of s e).blocked ≡ false
  pub valid : eqb e.full 1 ≡ true → (cell_of s e).valid ≡ true
  pub room : lowest_free s < 64
  pub free : free_at s (lowest_free s) ≡ true

-- what a send has from the rows that look at its sender's cell
module _ (e : Event) (x : Cell) where
  amount_some : wrong_amount e x ≡ false → 1 ≤ e.amount
  amount_some h = split (eqb e.amount 0) (λ t. clash (rw t) h) (λ f. omega (arith, eqb-false e.amount 0 f))

  amount_within : wrong_amount e x ≡ false → e.amount ≤ x.tokens.0
  amount_within h = split (ltb x.tokens.0 e.amount) (λ t. clash (rw (t, or-true)) h) (λ f. ltb-false _ _ f)

  amount_keeps : wrong_amount e x ≡ false → eqb e.owner 1 ≡ false → x.owner ≡ true → e.amount ≢ x.tokens.0
  amount_keeps h f o q = clash (simp (f, o, eq-eqb e.amount x.tokens.0 q, or-true)) h

  owner_owned : wrong_owner e x ≡ false → eqb e.owner 1 ≡ true → x.owner ≡ true
  owner_owned h t = split x.owner (λ o. o) (λ f. clash (rw (t, f)) h)

  owner_full : wrong_owner e x ≡ false → eqb e.owner 1 ≡ true → eqb e.full 1 ≡ true
  owner_full h t = split (eqb e.full 1) (λ o. o) (λ f. clash (simp (t, f, or-true)) h)

-- a timeout names no slot
unslotted : (k : ℕ) → timeout k ≡ true → slotted k ≡ false
unslotted k h =
    let other : (n : ℕ) → timeout n ≡ false → eqb k n ≡ false =
    λ n f. split (eqb k n) (λ t. clash (subst (λ j. timeout j ≡ true) (eqb-true k n t) h) f) (λ d. d) in
    rw (other 3 refl, other 4 refl)

module _ (s : State) (e : Event) where
  -- the line and the node, by the rows 3 and 4
  names_by : (k : ℕ) → slotted k ≡ false → applies 3 (table_of s e k) ≡ false → applies 4 (table_of s e k) ≡ false → Named s e
  unfolding applies table
  names_by k h three four =
      record {
        line = leb-false _ _ (rw h at three);
        node = split (ltb s.sizes.caches e.node) (λ t. clash (rw (h, t)) four) (λ f. ltb-false _ _ f);
      }

  pub names : (k : ℕ) → slotted k ≡ false → Clear (table_of s e k) → Named s e
  unfolding Clear
  names k h c = names_by k h (c 3) (c 4)

  pub caches : (k : ℕ) → slotted k ≡ false → for_caches k ≡ true → Clear (table_of s e k) → Cached s e
  unfolding Clear applies table
  caches k h g c = record { named = names k h c; cache = rw g at (c 5) }

  -- a timeout that has a number above 4 names a line and a node that exist
  pub times_named : (k : ℕ) → timeout k ≡ true → 4 < given (table_of s e k) → Named s e
  times_named k t h =
      names_by k (unslotted k t) (given_first (seen s e) e k 3 (omega arith)) (given_first (seen s e) e k 4 (omega arith))

  -- no message of the line bears the next serial, by the row 17
  pub unborne_by : (k : ℕ) → timeout k ≡ true → applies 17 (table_of s e k) ≡ false → unborne s e.line (next (serial_at s e.line)) ≡ true
  unfolding applies table
  unborne_by k g c = split (unborne s e.line (next (serial_at s e.line))) (λ t. t) (λ f. clash (rw (g, f)) c)

  -- with no copy, 18 leaves a backup somewhere, and 23 leaves it at the node
  time_copy : (k : ℕ) → timeout k ≡ true → Clear (table_of s e k) → copyless (cell_at s e.line) ≡ true → (cell_of s e).backup ≡ true
  unfolding Clear applies table
  time_copy k g c h =
      split (cell_of s e).backup (λ t. t)
      (λ f.
      split (backupless (cell_at s e.line)) (λ none. clash (simp (g, h, none)) (c 18)) (λ some. clash (simp (g, h, some, f)) (c 23)))

  pub times : (k : ℕ) → timeout k ≡ true → Clear (table_of s e k) → Timeout s e
  unfolding Clear
  times k g c = record { named = names k (unslotted k g) c; unborne = unborne_by k g (c 17); copy = time_copy k g c }

  -- a slot that holds a message
  pub slots : (k : ℕ) → slotted k ≡ true → Clear (table_of s e k) → (e.amount < 64) × (free_at s e.amount ≡ false)
  unfolding Clear applies table
  slots k h c = (
    split (ltb 63 e.amount) (λ t. clash (rw (h, t)) (c 6)) (λ f. omega (arith, ltb-false 63 e.amount f)),
    split (free_at s e.amount) (λ t. clash (rw (h, t, or-true)) (c 6)) (λ f. f),
  )

  pub reads : Clear (table_of s e 0) → able_to_read (cell_of s e) ≡ true
  unfolding Clear applies table
  reads c = split (able_to_read (cell_of s e)) (λ t. t) (λ f. clash (rw f) (c 13))

  pub writes : Clear (table_of s e 1) → able_to_write s.sizes.total.0 (cell_of s e) ≡ true
  unfolding Clear applies table
  writes c = split (able_to_write s.sizes.total.0 (cell_of s e)) (λ t. t) (λ f. clash (rw f) (c 13))

  -- an owner that sends the owner token is not blocked
  owner_unblocked : Clear (table_of s e 2) → eqb e.owner 1 ≡ true → (cell_of s e).blocked ≡ false
  unfolding Clear applies table
  owner_unblocked c h = split (cell_of s e).blocked (λ t. clash (rw (h, t)) (c 10)) (λ f. f)

  pub sends : Clear (table_of s e 2) → Sends s e
  unfolding Clear applies table lowest_free
  sends c =
      let x = cell_of s e in
      let full = eqb-false (lowest_free s) 64 (c 12) in
      let room : lowest_free s < 64 = omega (arith, first_le 64 (λ i. free_at s i)) in
      record {
        named = names 2 refl c;
        other = split (ltb s.sizes.caches e.other) (λ t. clash (rw (t, or-true)) (c 4)) (λ f. ltb-false _ _ f);
        apart = c 7;
        some = amount_some e x (c 8);
        within = amount_within e x (c 8);
        keeps = amount_keeps e x (c 8);
        owner = owner_owned e x (c 9);
        full = owner_full e x (c 9);
        unblocked = owner_unblocked c;
        valid = λ h. split x.valid (λ t. t) (λ f. clash (rw (h, f)) (c 11));
        room = room;
        free = first_hit 64 (λ i. free_at s i) room;
      }
