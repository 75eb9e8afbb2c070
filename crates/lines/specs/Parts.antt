-- What the private functions state. Assumes nothing.
use Rattle.std.specs.Prelude.{ℕ, true, cond as pick, List, eqb, get_or}
use Rattle.rules.specs.declared.states.State.{State}
use Rattle.rules.specs.declared.events.Stepped.{Stepped}
use Rattle.rules.specs.Fresh.{zero_state, start_of}
use Rattle.lines.specs.declared.kept.Kept.{Kept}
use Rattle.lines.specs.Program.{unreadable}

-- what is kept after the start line
abbrev pub running : State → Kept
running s = record { started = true; state = s }

-- the start line with so many numbers
unfoldable pub start_fields : ℕ → List ℕ → Stepped
start_fields count words =
    pick (eqb count 3) (start_of (get_or words 0 0) (get_or words 1 0) (get_or words 2 0)) (record { state = zero_state; answer = unreadable })
