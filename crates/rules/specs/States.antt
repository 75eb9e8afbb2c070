-- Reading and changing a state. Assumes nothing.
use Rattle.std.specs.Prelude.{ℕ, ◌+◌, ◌*◌, Bool, true, false, not, ◌&&◌, List, eqb, get_or, set}
use Rattle.rules.specs.Types.{Serial, Cell, MessageKind, Free, Tokens, OwnershipAck, DeletionAck, Message, State}
use Rattle.rules.specs.Cells.{zero_cell}

-- what stands in a free slot
abbrev pub free_message : Message
free_message =
    record { kind = Free; line = 0; source = 0; destination = 0; serial = record { 0 = 0 }; tokens = record { 0 = 0 }; owner = false; full = false; word = 0 }

-- the cell of a line at a node, 0 to 8
unfoldable pub cell_at : State → ℕ → ℕ → Cell
cell_at s line node = get_or s.cells (line * 9 + node) zero_cell

-- the message in a slot
unfoldable pub slot_at : State → ℕ → Message
slot_at s i = get_or s.pool i free_message

-- the serial of a line
unfoldable pub serial_at : State → ℕ → ℕ
serial_at s line = (get_or s.serials line (record { 0 = 0 })).0

-- the state with other cells
abbrev pub with_cells : State → List Cell → State
with_cells s cs = record { sizes = s.sizes; serials = s.serials; cells = cs; pool = s.pool }

-- the state with another pool
abbrev pub with_pool : State → List Message → State
with_pool s p = record { sizes = s.sizes; serials = s.serials; cells = s.cells; pool = p }

-- the state with other serials
abbrev pub with_serials : State → List Serial → State
with_serials s qs = record { sizes = s.sizes; serials = qs; cells = s.cells; pool = s.pool }

-- the state with one cell replaced
unfoldable pub with_cell : State → ℕ → ℕ → Cell → State
with_cell s line node c = with_cells s (set s.cells (line * 9 + node) c)

-- the state with one slot replaced
unfoldable pub with_slot : State → ℕ → Message → State
with_slot s i m = with_pool s (set s.pool i m)

-- the state with one line's serial replaced
unfoldable pub with_serial : State → ℕ → ℕ → State
with_serial s line q = with_serials s (set s.serials line (record { 0 = q }))

-- the kind of a free slot
abbrev pub is_free : MessageKind → Bool
is_free Free = true
is_free Tokens = false
is_free OwnershipAck = false
is_free DeletionAck = false

-- the slot holds a message of the line that bears the serial
unfoldable pub bears : ℕ → ℕ → Message → Bool
bears line q m = not (is_free m.kind) && eqb m.line line && eqb m.serial.0 q
