-- The thirteen lines of document 01, the start line and one list of the twelve events with their answers, as one theorem. Assumes nothing.
use Prim.Native.Nat.{ℕ}
use mathlib.Core.Path.{◌≡◌, refl}
use mathlib.Core.List.{List, [], ◌∷◌, map}
use Rattle.rules.specs.Types.{Event, Answer}
use Rattle.rules.specs.Tools.{every, all_to, sum_to, first_to, fill_to}
use Rattle.rules.specs.States.{cell_at, slot_at, serial_at, with_cell, with_slot, with_serial, bears}
use Rattle.rules.specs.Cells.{able_to_read, able_to_write, received, want_after}
use Rattle.rules.specs.WellFormed.{sizes_fine, serial_fine, cell_zero, cell_rules, cell_fine, message_zero, address_fine, tokens_fine, ack_fine, message_fine, counted, in_cells, in_messages, tokens_of, well_formed}
use Rattle.rules.specs.Fresh.{fresh_cells, fresh, start_of}
use Rattle.rules.specs.Refusals.{lowest_free, next, unborne, lowest, copyless, backupless, table, given, refusal}
use Rattle.rules.specs.Effects.{answer, read_of, write_of, sent_cell, send_of, arrive, reply_of, deliver_of, want_of, word_for, after_recreation, recreate_of, effect, step_of}
use Rattle.rules.specs.Runs.{answers_of}

-- the eight words of an event, as document 01 orders them
abbrev pub event : ℕ → ℕ → ℕ → ℕ → ℕ → ℕ → ℕ → ℕ → Event
event k l n o a w d x = record { kind = k; line = l; node = n; other = o; amount = a; owner = w; full = d; word = x }

-- a line of input, and its line of output
pub record Line : Type 0 where
  pub input : Event
  pub output : Answer

abbrev pub ◌gives◌ : Event → Answer → Line
e gives a = record { input = e; output = a }

infixr 90 ◌gives◌
-- the twelve lines after the start
abbrev pub twelve : List Line
twelve =
    event 2 0 2 0 3 1 1 0 gives answer 0 0 0
    ∷ event 3 0 0 0 0 0 0 0 gives answer 0 1 0
    ∷ event 1 0 0 0 0 0 0 100 gives answer 0 0 64
    ∷ event 2 0 0 1 3 1 1 0 gives answer 10 0 64
    ∷ event 3 0 0 0 0 0 0 0 gives answer 0 1 0
    ∷ event 3 0 0 0 0 0 0 0 gives answer 0 1 64
    ∷ event 2 0 0 1 1 0 1 0 gives answer 0 0 0
    ∷ event 6 0 0 0 0 0 0 0 gives answer 0 0 64
    ∷ event 7 0 0 0 0 0 0 0 gives answer 0 0 64
    ∷ event 3 0 0 0 0 0 0 0 gives answer 0 0 64
    ∷ event 0 0 1 0 0 0 0 0 gives answer 13 0 64
    ∷ event 0 0 0 0 0 0 0 0 gives answer 0 100 64
    ∷ []

-- the start of 2 caches, 1 line and 3 tokens answers 0 0 64, and the events that follow answer as listed
pub thirteen_lines : ((start_of 2 1 3).answer ≡ answer 0 0 64)
    × (answers_of (start_of 2 1 3).state (map (λ r. r.input) twelve) ≡ map (λ r. r.output) twelve)
unfolding every all_to sum_to first_to fill_to cell_at slot_at serial_at with_cell with_slot with_serial bears able_to_read able_to_write received want_after sizes_fine serial_fine cell_zero cell_rules cell_fine message_zero address_fine tokens_fine ack_fine message_fine counted in_cells in_messages tokens_of well_formed fresh_cells fresh start_of lowest_free next unborne lowest copyless backupless table given refusal read_of write_of sent_cell send_of arrive reply_of deliver_of want_of word_for after_recreation recreate_of effect step_of answers_of
thirteen_lines = (refl, refl)
