-- What an event leaves in the one cell and the one slot that it touches, for every value that its parts can have. Assumes nothing.
use Rattle.std.specs.Prelude.{ℕ, ◌+◌, ◌%◌, Bool, ◌||◌, not, cond as pick, eqb, ltb}
use Rattle.parts.specs.Types.{Want, Read, Write, Cell, Message, Event, Arrival}
use Rattle.rules.specs.Cells.{with_want, written}
use Rattle.rules.specs.Refusals.{writing, dropping, wanting_read, wanting_write}
use Rattle.rules.specs.Effects.{discarded, arrive}

-- the want after an event of kind k
unfoldable pub wanted_by : ℕ → Want → Want
wanted_by k w = pick (wanting_read k) Read (pick (wanting_write k) Write w)

-- the cell after an accepted read, write or want
unfoldable pub touched_cell : Event → ℕ → Cell → Cell
touched_cell e k x = with_want (wanted_by k x.want) (written (pick (writing k) e.word x.word) x)

-- the event with the low bytes of the numbers that a message holds; those of an accepted send fit a byte
abbrev pub cut : Event → Event
cut e =
    record {
      kind = e.kind;
      line = e.line % 256;
      node = e.node % 256;
      other = e.other % 256;
      amount = e.amount % 256;
      owner = e.owner;
      full = e.full;
      word = e.word;
    }

-- the two counts fit a byte together; so they do in every state that is well formed
unfoldable pub fits : Cell → Message → Bool
fits x m = ltb (x.tokens.0 + m.tokens.0) 256

-- a drop, or a message whose serial is not the line's serial q, or one whose count does not fit
unfoldable pub lost : ℕ → ℕ → Cell → Message → Bool
lost k q x m = dropping k || not (eqb m.serial.0 q) || not (fits x m)

-- a delivery or a drop of a slot that holds m, at the cell x that m is for
unfoldable pub arrive_of : ℕ → ℕ → Event → ℕ → Cell → Message → Arrival
arrive_of n q e k x m = pick (lost k q x m) (discarded x) (arrive n e.amount x m m.kind)
