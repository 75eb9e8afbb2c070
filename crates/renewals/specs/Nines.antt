-- A line's nine cells beside the state: the marks that a recreation looks for, and its numbers from 17 and from 18 on. Assumes nothing.
use Rattle.std.specs.Prelude.{ℕ, Bool, false, List, get_or}
use Rattle.rules.specs.declared.cells.Cell.{Cell}
use Rattle.rules.specs.declared.events.Event.{Event}
use Rattle.rules.specs.Cells.{zero_cell}
use Rattle.rules.specs.Fresh.{sizes}
use Rattle.rules.specs.Refusals.{Seen, table, given}
use Rattle.numbers.specs.Rows.{sight, from}

-- the cell at a node
abbrev pub nth : List Cell → ℕ → Cell
nth nine n = get_or nine n zero_cell

-- what is seen of a line: the cell of the node named, whether a message of the line bears the next serial, and its nine cells; the rest stands for what is not looked at
abbrev pub line_sight : Cell → Bool → List Cell → Seen
line_sight x borne nine = sight (sizes 0 0 0) x false 0 borne (nth nine)

-- the words of a timeout, which the numbers from 17 on do not look at
abbrev pub any_timeout : Event
any_timeout = record { kind = 7; line = 0; node = 0; other = 0; amount = 0; owner = 0; full = 0; word = 0 }

-- a timeout: its number from 18 on, by the cell x of the node named and the line's cells
unfoldable pub copy_refusal : Cell → List Cell → ℕ
copy_refusal x nine = given (from 18 (table (line_sight x false nine) any_timeout 7))

-- its number from 17 on; kinds 8 and 9 have the same as kind 7
unfoldable pub renewal_refusal : Cell → Bool → List Cell → ℕ
renewal_refusal x borne nine = given (from 17 (table (line_sight x borne nine) any_timeout 7))
