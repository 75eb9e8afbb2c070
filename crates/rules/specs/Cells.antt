-- A cell, and each way in which it changes. Assumes nothing.
use Rattle.std.specs.Prelude.{ℕ, ◌+◌, ◌-◌, Bool, true, false, ◌&&◌, cond as pick, eqb, ltb}
use Rattle.rules.specs.Types.{Cell, Message, Want, Nothing, Read, Write}
use Rattle.rules.specs.Tools.{when}

-- the empty cell
abbrev pub zero_cell : Cell
zero_cell =
    record { tokens = record { 0 = 0 }; valid = false; owner = false; blocked = false; backup = false; want = Nothing; word = 0; saved = 0 }

-- the cell with another count of tokens
abbrev pub with_tokens : ℕ → Cell → Cell
with_tokens t c =
    record { tokens = record { 0 = t }; valid = c.valid; owner = c.owner; blocked = c.blocked; backup = c.backup; want = c.want; word = c.word; saved = c.saved }

-- the cell with another valid mark and data word
abbrev pub with_data : Bool → ℕ → Cell → Cell
with_data v w c =
    record { tokens = c.tokens; valid = v; owner = c.owner; blocked = c.blocked; backup = c.backup; want = c.want; word = w; saved = c.saved }

-- the cell with other owner and blocked marks
abbrev pub with_role : Bool → Bool → Cell → Cell
with_role o b c =
    record { tokens = c.tokens; valid = c.valid; owner = o; blocked = b; backup = c.backup; want = c.want; word = c.word; saved = c.saved }

-- the cell with another backup mark and backup word
abbrev pub with_backup : Bool → ℕ → Cell → Cell
with_backup b w c =
    record { tokens = c.tokens; valid = c.valid; owner = c.owner; blocked = c.blocked; backup = b; want = c.want; word = c.word; saved = w }

-- the cell with another want
abbrev pub with_want : Want → Cell → Cell
with_want w c =
    record { tokens = c.tokens; valid = c.valid; owner = c.owner; blocked = c.blocked; backup = c.backup; want = w; word = c.word; saved = c.saved }

-- no want is recorded
abbrev pub is_nothing : Want → Bool
is_nothing Nothing = true
is_nothing Read = false
is_nothing Write = false

-- able to read: at least one token and valid
unfoldable pub able_to_read : Cell → Bool
able_to_read c = ltb 0 c.tokens.0 && c.valid

-- able to write: all n tokens and valid
unfoldable pub able_to_write : ℕ → Cell → Bool
able_to_write n c = eqb c.tokens.0 n && c.valid

-- a write replaces the data word
abbrev pub written : ℕ → Cell → Cell
written w c = with_data c.valid w c

-- the count falls by the amount, and not below 0; left with no token, the cell loses valid and its data
abbrev pub give : ℕ → Cell → Cell
give a c =
    with_tokens (c.tokens.0 - a) (with_data (ltb a c.tokens.0 && c.valid) (pick (ltb a c.tokens.0) c.word 0) c)

-- the cell loses owner and takes a backup of its data
abbrev pub back_up : Cell → Cell
back_up c = with_backup true c.word (with_role false c.blocked c)

-- the count rises by the amount
abbrev pub take : ℕ → Cell → Cell
take a c = with_tokens (c.tokens.0 + a) c

-- the same where the sum fits a byte, else the cell as it came; what the method `take` gives (in a well formed state no cell and no message has more than 64)
unfoldable pub take_fitting : ℕ → Cell → Cell
take_fitting a c = when (ltb (c.tokens.0 + a) 256) (take a) c

-- the cell becomes valid with the word
abbrev pub fill : ℕ → Cell → Cell
fill w c = with_data true w c

-- the cell becomes owner and blocked
abbrev pub block : Cell → Cell
block c = with_role true true c

-- a token message arrives: the count rises; with data the cell is filled; with owner it becomes owner and blocked
unfoldable pub received : Message → Cell → Cell
received m c = when m.owner block (when m.full (fill m.word) (take m.tokens.0 c))

-- the backup is cleared with its word
abbrev pub unbacked : Cell → Cell
unbacked c = with_backup false 0 c

-- the cell is unblocked
abbrev pub unblocked : Cell → Cell
unblocked c = with_role c.owner false c

-- the cell loses tokens, marks and words, and keeps its want
abbrev pub cleared : Cell → Cell
cleared c = with_want c.want zero_cell

-- the cell that a recreation is for: n tokens, owner, valid, the word, not blocked
abbrev pub recreated : ℕ → ℕ → Cell → Cell
recreated n w c = with_tokens n (fill w (with_role true false (cleared c)))

-- the cell is able to do what it wants
abbrev pub served : ℕ → Cell → Want → Bool
served n c Nothing = false
served n c Read = able_to_read c
served n c Write = able_to_write n c

-- the want after an arrival or a recreation: it ends if the cell is able to do what it wants
unfoldable pub want_after : ℕ → Cell → Want
want_after n c = pick (served n c c.want) Nothing c.want

-- the cell with its want ended, if it is able to do what it wants
abbrev pub settled : ℕ → Cell → Cell
settled n c = with_want (want_after n c) c
