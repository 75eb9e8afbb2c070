-- The numbers that a step gives back, as one list: 1 to 18 (document 01, "Numbers a call gives back") and 23 (document 02, T-01). Assumes nothing.
use Rattle.std.specs.Prelude.{ℕ, suc, Bool, not, ◌&&◌, ◌||◌, cond as pick, List, [], ◌∷◌, eqb, leb, ltb}
use Rattle.rules.specs.Types.{Cell, Sizes, State, Event}
use Rattle.rules.specs.Tools.{all_to, first_to}
use Rattle.rules.specs.States.{cell_at, slot_at, serial_at, is_free, bears}
use Rattle.rules.specs.WellFormed.{well_formed}
use Rattle.rules.specs.Cells.{is_nothing, able_to_read, able_to_write}

-- kind 0: read
abbrev pub reading : ℕ → Bool
reading k = eqb k 0

-- kind 1: write
abbrev pub writing : ℕ → Bool
writing k = eqb k 1

-- kind 2: send tokens
abbrev pub sending : ℕ → Bool
sending k = eqb k 2

-- kind 3: deliver
abbrev pub delivering : ℕ → Bool
delivering k = eqb k 3

-- kind 4: drop
abbrev pub dropping : ℕ → Bool
dropping k = eqb k 4

-- kind 5: want to read
abbrev pub wanting_read : ℕ → Bool
wanting_read k = eqb k 5

-- kind 6: want to write
abbrev pub wanting_write : ℕ → Bool
wanting_write k = eqb k 6

-- kind 7: lost token timeout
abbrev pub lost_token : ℕ → Bool
lost_token k = eqb k 7

-- kind 8: lost data timeout
abbrev pub lost_data : ℕ → Bool
lost_data k = eqb k 8

-- kind 9: lost backup deletion acknowledgment timeout
abbrev pub lost_deletion_ack : ℕ → Bool
lost_deletion_ack k = eqb k 9

-- kinds 7, 8, 9: a timeout
abbrev pub timeout : ℕ → Bool
timeout k = lost_token k || lost_data k || lost_deletion_ack k

-- kinds that use a slot; the other kinds up to 9 use line and node
abbrev pub slotted : ℕ → Bool
slotted k = delivering k || dropping k

-- kinds 0, 1, 5, 6, 7, in which the memory may not be named
abbrev pub for_caches : ℕ → Bool
for_caches k = reading k || writing k || wanting_read k || wanting_write k || lost_token k

-- the cell that the event names
abbrev pub cell_of : State → Event → Cell
cell_of s e = cell_at s e.line e.node

-- the slot is free
abbrev pub free_at : State → ℕ → Bool
free_at s i = is_free (slot_at s i).kind

-- the lowest free slot, or 64
unfoldable pub lowest_free : State → ℕ
lowest_free s = first_to 64 (free_at s)

-- the next serial: one more, and 0 after 3
unfoldable pub next : ℕ → ℕ
next q = pick (ltb q 3) (suc q) 0

-- no message of the line in the pool bears the serial
unfoldable pub unborne : State → ℕ → ℕ → Bool
unborne s line q = all_to 64 (λ i. not (bears line q (slot_at s i)))

-- of a line's cells, node by node: the lowest-numbered node whose cell has the mark, or 9
unfoldable pub lowest : (ℕ → Cell) → (Cell → Bool) → ℕ
lowest cells mark = first_to 9 (λ n. mark (cells n))

-- the line has no copy: no owner and no valid cell
unfoldable pub copyless : (ℕ → Cell) → Bool
copyless cells = eqb (lowest cells (λ c. c.owner)) 9 && eqb (lowest cells (λ c. c.valid)) 9

-- no node has a backup of the line
unfoldable pub backupless : (ℕ → Cell) → Bool
backupless cells = eqb (lowest cells (λ c. c.backup)) 9

-- what the numbers look at beside the event: whether the state is well formed; its sizes; the cell that the event names; whether the
-- slot that it names is free; the lowest free slot, or 64; whether a message of its line bears the next serial; its line's cells
pub record Seen : Type 0 where
  pub formed : Bool
  pub sizes : Sizes
  pub cell : Cell
  pub slot_free : Bool
  pub lowest_slot : ℕ
  pub next_borne : Bool
  pub cells : ℕ → Cell

-- what an event's numbers look at in a state
abbrev pub seen : State → Event → Seen
seen s e =
    record {
      formed = well_formed s;
      sizes = s.sizes;
      cell = cell_of s e;
      slot_free = free_at s e.amount;
      lowest_slot = lowest_free s;
      next_borne = not (unborne s e.line (next (serial_at s e.line)));
      cells = cell_at s e.line;
    }

-- a number of the table, and whether it applies
pub record Row : Type 0 where
  pub number : ℕ
  pub applies : Bool

-- the row of a number
abbrev pub row : ℕ → Bool → Row
row n b = record { number = n; applies = b }

-- 8: amount 0, or above the sender's count, or no owner mark and the sender is owner and the amount is its whole count
abbrev pub wrong_amount : Event → Cell → Bool
wrong_amount e x =
    eqb e.amount 0 || ltb x.tokens.0 e.amount || not (eqb e.owner 1) && x.owner && eqb e.amount x.tokens.0

-- 9: owner mark and not owner, or owner mark without data mark
abbrev pub wrong_owner : Event → Cell → Bool
wrong_owner e x = eqb e.owner 1 && not x.owner || eqb e.owner 1 && not (eqb e.full 1)

-- 16: kind 7 and no want recorded; kind 8 and no backup; kind 9 and not blocked
abbrev pub causeless : ℕ → Cell → Bool
causeless k x = lost_token k && is_nothing x.want || lost_data k && not x.backup || lost_deletion_ack k && not x.blocked

-- 18: no copy, and no backup anywhere
abbrev pub nothing_left : (ℕ → Cell) → Bool
nothing_left cells = copyless cells && backupless cells

-- 23: no copy, and only other nodes have a backup; x is the cell of the node named
abbrev pub backup_elsewhere : Cell → (ℕ → Cell) → Bool
backup_elsewhere x cells = copyless cells && not (backupless cells) && not x.backup

-- the table, in its order, for an event of kind k; the kind is given apart, and the word `e.kind` is not looked at
unfoldable pub table : Seen → Event → ℕ → List Row
table v e k =
    row 1 (not v.formed)
    ∷ row 2 (ltb 9 k || sending k && (ltb 1 e.owner || ltb 1 e.full))
    ∷ row 3 (not (slotted k) && leb v.sizes.lines e.line)
    ∷ row 4 (not (slotted k) && ltb v.sizes.caches e.node || sending k && ltb v.sizes.caches e.other)
    ∷ row 5 (for_caches k && eqb e.node v.sizes.caches)
    ∷ row 6 (slotted k && (ltb 63 e.amount || v.slot_free))
    ∷ row 7 (sending k && eqb e.node e.other)
    ∷ row 8 (sending k && wrong_amount e v.cell)
    ∷ row 9 (sending k && wrong_owner e v.cell)
    ∷ row 10 (sending k && (eqb e.owner 1 && v.cell.blocked))
    ∷ row 11 (sending k && (eqb e.full 1 && not v.cell.valid))
    ∷ row 12 (sending k && eqb v.lowest_slot 64)
    ∷ row 13 (reading k && not (able_to_read v.cell) || writing k && not (able_to_write v.sizes.total.0 v.cell))
    ∷ row 14 ((wanting_read k || wanting_write k) && not (is_nothing v.cell.want))
    ∷ row 15 (wanting_read k && able_to_read v.cell || wanting_write k && able_to_write v.sizes.total.0 v.cell)
    ∷ row 16 (causeless k v.cell)
    ∷ row 17 (timeout k && v.next_borne)
    ∷ row 18 (timeout k && nothing_left v.cells)
    ∷ row 23 (timeout k && backup_elsewhere v.cell v.cells)
    ∷ []

-- the first number that applies, or 0 if none does; the table's numbers ascend, so of it the smallest (`given_smallest` in proofs/Laws/Rows)
unfoldable pub given : List Row → ℕ
given [] = 0
given (r ∷ rs) = pick r.applies r.number (given rs)

-- the table of an event of kind k in a state
abbrev pub table_of : State → Event → ℕ → List Row
table_of s e k = table (seen s e) e k

-- the number that a step gives back
unfoldable pub refusal : State → Event → ℕ
refusal s e = given (table_of s e e.kind)
