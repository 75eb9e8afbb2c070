-- The turns of a timeout. Assumes nothing.
use Prim.Native.Nat.{ℕ, zero, suc, ◌+◌, ◌*◌, ◌≤◌, ◌<◌}
use mathlib.Core.Bool.{Bool, true, false, not, ◌||◌}
use mathlib.Core.Path.{◌≡◌, refl, sym, ap, ap₂, ◌∙◌}
use mathlib.Core.Logic.{◌≢◌}
use mathlib.Core.List.{List}
use native.Mathlib.Omega.{arith}
use lib.Dec.{eqb, ltb}
use lib.ListN.{get_or, set}
use lib.Seq.{get_or-set_other}
use borrow.Author.Tests.{ltb-true, eqb-true}
use Rattle.rules.specs.declared.refusals.Refusal.{Refusal}
use Rattle.running.specs.Types.{Serial, Cell, Tokens, State, Event}
use Rattle.rules.specs.Kinds.{number_of}
use Rattle.rules.specs.Tools.{fill_to}
use Rattle.rules.specs.Cells.{zero_cell}
use Rattle.rules.specs.States.{cell_at, serial_at, with_serial}
use Rattle.rules.specs.WellFormed.{well_formed}
use Rattle.rules.specs.Refusals.{refusal, table, table_of, given, timeout, lost_token, lost_data, slotted, sending, cell_of, next, unborne}
use Rattle.rules.specs.Effects.{answer, word_for, after_recreation, recreated_line, recreate_of, step_of}
use Rattle.numbers.specs.Places.{row_of, place_of}
use Rattle.numbers.specs.Rows.{from, cell_refusal}
use Rattle.renewals.specs.Nines.{nth, renewal_refusal}
use Rattle.numbers.specs.Tags.{tag_of, Tagged, absent}
use Rattle.running.specs.Steps.{stepped, LineCopied, renewed_at}
use Rattle.rules.proofs.Laws.Bools.{split, by_pick, clash}
use Rattle.rules.proofs.Keeps.Accepted.{by_kind}
use Rattle.rules.proofs.Keeps.Numbers.{step_effect, timeout_effect}
use Rattle.rules.proofs.Keeps.Well.{well_sizes}
use Rattle.rules.proofs.Facts.Loops.{fill_more}
use Rattle.running.proofs.Facts.Numbers.{timeout_number, is_timeout}
use Rattle.running.proofs.Facts.Places.{row_is}
use Rattle.running.proofs.Facts.Searches.{copyless_same, backupless_same, word_same, absent_is}
use Rattle.running.proofs.Facts.Turns.{Held, Taken, taken, number_some, refused_turn}
use Rattle.running.proofs.Facts.Cells.{named, cause_is, cell_refused, within}

abbrev serial_of : ℕ → Serial
serial_of q = record { 0 = q }

next_small : (q : ℕ) → next q < 256
unfolding next
next_small q = by_pick (λ r. r < 256) (ltb q 3) (λ t. omega (arith, ltb-true q 3 t)) (λ _. omega arith)

-- a timeout is of a kind up to 9, and no send, delivery or drop
timeout_kind : (k : ℕ) → timeout k ≡ true → k ≤ 9
timeout_kind k h =
    split (lost_token k) (λ t. omega (arith, eqb-true k 7 t))
    (λ a. split (lost_data k) (λ t. omega (arith, eqb-true k 8 t)) (λ b. omega (arith, eqb-true k 9 (rw (a, b) at h))))

timeout_plain : (k : ℕ) → timeout k ≡ true → slotted k || sending k ≡ false
timeout_plain k h =
    by_kind (λ k. timeout k ≡ true → slotted k || sending k ≡ false) (λ _. refl) (λ _. refl) (λ g. clash g refl) (λ g. clash g refl) (λ g. clash g refl) (λ _. refl) (λ _. refl)
    (λ _. refl) (λ _. refl) (λ _. refl) k (timeout_kind k h) h

-- an event that has a cause, of kind 7 or above, is a timeout
pub timed : (t : State) → well_formed t ≡ true → (e : Event) → slotted e.kind || sending e.kind ≡ false → {k : ℕ} → k ≡ place_of e.line e.node
    → 0 ≡ cell_refusal t.sizes e e.kind (get_or t.cells k zero_cell) → 7 ≤ e.kind → timeout e.kind ≡ true
timed t w e plain pk caused late = is_timeout e.kind late (within t w e plain pk caused).0

module _ (t : State) (w : well_formed t ≡ true) (e : Event) (is : timeout e.kind ≡ true) {k : ℕ} (pk : k ≡ place_of e.line e.node) where
  plain : slotted e.kind || sending e.kind ≡ false
  plain = timeout_plain e.kind is

  pub timeout_refused : (why : Refusal) → number_of why ≡ cell_refusal t.sizes e e.kind (get_or t.cells k zero_cell) → step_of t e ≡ stepped t (answer (number_of why) 0 64)
  timeout_refused why g = cell_refused t w e plain pk g (number_some why)

  module _ (caused : 0 ≡ cell_refusal t.sizes e e.kind (get_or t.cells k zero_cell)) where
    inside : (e.kind ≤ 9) × (e.line < t.sizes.lines) × (e.node ≤ t.sizes.caches)
    inside = within t w e plain pk caused

    node_is : e.node < 9
    node_is =
        let zs = well_sizes t w in
        let i = inside in
        omega arith

    -- the rows after the cause
    number_is : refusal t e ≡ given (from 17 (table_of t e 7))
    number_is = timeout_number t e w plain is (sym (caused ∙ cause_is t w e plain pk))

  module _ {tags : List ℕ} (tagged : Tagged tags t.pool) (caused : 0 ≡ cell_refusal t.sizes e e.kind (get_or t.cells k zero_cell)) {l : ℕ} (hl : l ≡ row_of e.line)
      {q : Serial} (hq : q.0 ≡ next (get_or t.serials l (record { 0 = 0 })).0)
      {nine : List Cell} (hnine : LineCopied t.cells l nine)
      {tag : ℕ} (htag : tag ≡ tag_of Tokens l q.0) {free : Bool} (hfree : free ≡ absent tags tag) where
    line_is : l ≡ e.line
    line_is =
        let zs = well_sizes t w in
        let i = inside caused in
        row_is hl (omega arith)

    serial_is : q.0 ≡ next (serial_at t e.line)
    unfolding serial_at
    serial_is = rw line_is at hq

    nine_is : (j : ℕ) → j < 9 → nth nine j ≡ cell_at t e.line j
    unfolding cell_at
    nine_is j below = hnine.same j below ∙ rw line_is

    own_is : get_or t.cells k zero_cell ≡ cell_of t e
    own_is = let i = inside caused in named t w e pk i.1 i.2

    free_is : free ≡ unborne t e.line (next (serial_at t e.line))
    free_is = hfree ∙ rw (htag, line_is, serial_is) (absent_is t tagged w e.line (next (serial_at t e.line)) (next_small (serial_at t e.line)))

    renewal_number : refusal t e ≡ renewal_refusal (get_or t.cells k zero_cell) (not free) nine
    unfolding renewal_refusal from table given
    renewal_number = number_is caused ∙ sym (rw (free_is, copyless_same {f = nth nine} {g = cell_at t e.line} nine_is, backupless_same {f = nth nine} {g = cell_at t e.line} nine_is, own_is))

    pub renewal_refused : {number : ℕ} → number ≡ renewal_refusal (get_or t.cells k zero_cell) (not free) nine → number ≢ 0 → step_of t e ≡ stepped t (answer number 0 64)
    renewal_refused g d = refused_turn t e (renewal_number ∙ sym g) d

    -- the word, and the cells
    word_is : {word : ℕ} → word ≡ word_for (get_or t.cells k zero_cell) (nth nine) → word ≡ word_for (cell_at t e.line e.node) (cell_at t e.line)
    word_is g = g ∙ rw own_is (word_same {f = nth nine} {g = cell_at t e.line} nine_is (cell_of t e))

    cells_are : {word : ℕ} → word ≡ word_for (get_or t.cells k zero_cell) (nth nine)
        → fill_to 9 (l * 9) (renewed_at t.sizes.total.0 word e.node t.cells l) t.cells ≡ fill_to 9 (e.line * 9) (recreated_line t.sizes.total.0 e.node (cell_at t e.line)) t.cells
    unfolding cell_at
    cells_are g = rw (line_is, word_is g)

    serials_are : set t.serials l q ≡ set t.serials e.line (serial_of (next (serial_at t e.line)))
    serials_are = ap₂ (set t.serials) line_is (ap serial_of serial_is)

    pub renewal_turn : 0 ≡ renewal_refusal (get_or t.cells k zero_cell) (not free) nine → {word : ℕ} {cells : List Cell} → word ≡ word_for (get_or t.cells k zero_cell) (nth nine)
        → cells ≡ fill_to 9 (l * 9) (renewed_at t.sizes.total.0 word e.node t.cells l) t.cells
        → step_of t e ≡ stepped (record { sizes = t.sizes; serials = set t.serials l q; cells = cells; pool = t.pool }) (answer 0 0 64)
    unfolding recreate_of with_serial
    renewal_turn g hword hcells =
        step_effect t e (renewal_number ∙ sym g) ∙ timeout_effect t e e.kind (inside caused).0 is
        ∙ sym (ap₂ (λ qs cs. stepped (record { sizes = t.sizes; serials = qs; cells = cs; pool = t.pool }) (answer 0 0 64)) serials_are (hcells ∙ cells_are hword))

    pub renewal_taken : Held t tags → 0 ≡ renewal_refusal (get_or t.cells k zero_cell) (not free) nine → {word : ℕ} {cells : List Cell} → word ≡ word_for (get_or t.cells k zero_cell) (nth nine)
        → cells ≡ fill_to 9 (l * 9) (renewed_at t.sizes.total.0 word e.node t.cells l) t.cells
        → Taken t e (record { sizes = t.sizes; serials = set t.serials l q; cells = cells; pool = t.pool }) (answer 0 0 64) tags
    renewal_taken h g hword hcells = taken h e (renewal_turn g hword hcells) h.tagged

-- filling leaves what is not yet filled
fill_other : (k at : ℕ) (f : ℕ → Cell) (l : List Cell) (j : ℕ) → k ≤ j → get_or (fill_to k at f l) (at + j) zero_cell ≡ get_or l (at + j) zero_cell
unfolding fill_to
fill_other zero at f l j h = refl
fill_other (suc k) at f l j h = get_or-set_other (fill_to k at f l) (at + k) (at + j) (f k) zero_cell (λ z. omega arith) ∙ fill_other k at f l j (omega arith)

-- a line's cells renewed, one more
pub renewed_more : (n word chosen line node : ℕ) (cells : List Cell) {now : List Cell} {x y : Cell} → now ≡ fill_to node (line * 9) (renewed_at n word chosen cells line) cells
    → x ≡ get_or now (line * 9 + node) zero_cell → y ≡ after_recreation n word (eqb node chosen) x
    → set now (line * 9 + node) y ≡ fill_to (node + 1) (line * 9) (renewed_at n word chosen cells line) cells
renewed_more n word chosen line node cells {now} h hx hy =
    fill_more node (line * 9) (renewed_at n word chosen cells line) cells h
    (hy ∙ ap (after_recreation n word (eqb node chosen)) (hx ∙ rw h (fill_other node (line * 9) (renewed_at n word chosen cells line) cells node (omega arith))))
