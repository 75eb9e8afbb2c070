-- When a state is well formed (document 01, "What a state holds"). Assumes nothing.
use Rattle.std.specs.Prelude.{ℕ, ◌+◌, Bool, not, ◌&&◌, cond as pick, [], ◌∷◌, eqb, leb, ltb}
use Rattle.rules.specs.Types.{Cell, MessageKind, Free, Tokens, OwnershipAck, DeletionAck, Message, Sizes, State}
use Rattle.rules.specs.Tools.{◌⇒◌, every, all_to, sum_to}
use Rattle.rules.specs.States.{cell_at, slot_at, serial_at, bears}
use Rattle.rules.specs.Cells.{is_nothing}

-- C caches, 1 to 8; L lines, 1 to 16; N tokens for each line, 1 to 64
unfoldable pub sizes_fine : Sizes → Bool
sizes_fine z =
    every
    (ltb 0 z.caches ∷ leb z.caches 8 ∷ ltb 0 z.lines ∷ leb z.lines 16 ∷ ltb 0 z.total.0 ∷ leb z.total.0 64 ∷ [])

-- a line's serial is 0 to 3; beyond the lines it is zero
unfoldable pub serial_fine : Sizes → ℕ → ℕ → Bool
serial_fine z line q = pick (ltb line z.lines) (ltb q 4) (eqb q 0)

-- a cell that is all zero
unfoldable pub cell_zero : Cell → Bool
cell_zero c =
    every
    (eqb c.tokens.0 0
    ∷ not c.valid
    ∷ not c.owner
    ∷ not c.blocked
    ∷ not c.backup
    ∷ is_nothing c.want
    ∷ eqb c.word 0
    ∷ eqb c.saved 0
    ∷ [])

-- at most n tokens; valid needs a token; owner needs valid; blocked needs owner; not valid has data 0; no backup has backup word 0; the memory has no want
unfoldable pub cell_rules : ℕ → Bool → Cell → Bool
cell_rules n memory c =
    every
    (leb c.tokens.0 n
    ∷ (c.valid ⇒ ltb 0 c.tokens.0)
    ∷ (c.owner ⇒ c.valid)
    ∷ (c.blocked ⇒ c.owner)
    ∷ (not c.valid ⇒ eqb c.word 0)
    ∷ (not c.backup ⇒ eqb c.saved 0)
    ∷ (memory ⇒ is_nothing c.want)
    ∷ [])

-- a cell within the sizes keeps the rules; one beyond them is all zero
unfoldable pub cell_fine : Sizes → ℕ → ℕ → Cell → Bool
cell_fine z line node c =
    pick (ltb line z.lines && leb node z.caches) (cell_rules z.total.0 (eqb node z.caches) c) (cell_zero c)

-- all of a slot but its kind is zero
unfoldable pub message_zero : Message → Bool
message_zero m =
    every
    (eqb m.line 0
    ∷ eqb m.source 0
    ∷ eqb m.destination 0
    ∷ eqb m.serial.0 0
    ∷ eqb m.tokens.0 0
    ∷ not m.owner
    ∷ not m.full
    ∷ eqb m.word 0
    ∷ [])

-- line, nodes and serial are in range; source and destination differ
unfoldable pub address_fine : Sizes → Message → Bool
address_fine z m =
    every
    (ltb m.line z.lines
    ∷ leb m.source z.caches
    ∷ leb m.destination z.caches
    ∷ not (eqb m.source m.destination)
    ∷ ltb m.serial.0 4
    ∷ [])

-- a token message has 1 to n tokens; owner needs data; without data its word is 0
unfoldable pub tokens_fine : Sizes → Message → Bool
tokens_fine z m =
    every
    (ltb 0 m.tokens.0
    ∷ leb m.tokens.0 z.total.0
    ∷ (m.owner ⇒ m.full)
    ∷ (not m.full ⇒ eqb m.word 0)
    ∷ [])

-- an acknowledgment has no tokens, marks or word
unfoldable pub ack_fine : Message → Bool
ack_fine m = every (eqb m.tokens.0 0 ∷ not m.owner ∷ not m.full ∷ eqb m.word 0 ∷ [])

-- the rules of a slot, by the kind of what it holds
unfoldable pub message_fine : Sizes → Message → MessageKind → Bool
message_fine z m Free = message_zero m
message_fine z m Tokens = address_fine z m && tokens_fine z m
message_fine z m OwnershipAck = address_fine z m && ack_fine m
message_fine z m DeletionAck = address_fine z m && ack_fine m

-- the sum of f over the cells of a line
unfoldable pub in_cells : State → ℕ → (Cell → ℕ) → ℕ
in_cells s line f = sum_to 9 (λ n. f (cell_at s line n))

-- f of a message of the line that bears the serial, else 0
unfoldable pub counted : ℕ → ℕ → (Message → ℕ) → Message → ℕ
counted line q f m = pick (bears line q m) (f m) 0

-- the sum of f over the messages of a line that bear its current serial
unfoldable pub in_messages : State → ℕ → (Message → ℕ) → ℕ
in_messages s line f = sum_to 64 (λ i. counted line (serial_at s line) f (slot_at s i))

-- the tokens of a cell
abbrev pub held : Cell → ℕ
held c = c.tokens.0

-- the tokens of a message
abbrev pub borne : Message → ℕ
borne m = m.tokens.0

-- the tokens of a line: in cells, and in messages of the current serial
unfoldable pub tokens_of : State → ℕ → ℕ
tokens_of s line = in_cells s line held + in_messages s line borne

-- a line's serial is fine, in a state
abbrev pub serial_fine_at : State → ℕ → Bool
serial_fine_at s line = serial_fine s.sizes line (serial_at s line)

-- a node's cell of a line is fine, in a state
abbrev pub cell_fine_at : State → ℕ → ℕ → Bool
cell_fine_at s line node = cell_fine s.sizes line node (cell_at s line node)

-- the nine cells of a line are fine
abbrev pub line_fine : State → ℕ → Bool
line_fine s line = all_to 9 (cell_fine_at s line)

-- a slot is fine, in a state
abbrev pub slot_fine : State → ℕ → Bool
slot_fine s i = message_fine s.sizes (slot_at s i) (slot_at s i).kind

-- a line's tokens are at most n
abbrev pub within_total : State → ℕ → Bool
within_total s line = leb (tokens_of s line) s.sizes.total.0

-- a state is well formed
unfoldable pub well_formed : State → Bool
well_formed s =
    every
    (sizes_fine s.sizes
    ∷ all_to 16 (serial_fine_at s)
    ∷ all_to 16 (line_fine s)
    ∷ all_to 64 (slot_fine s)
    ∷ all_to 16 (within_total s)
    ∷ [])
