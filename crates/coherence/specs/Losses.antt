-- Messages that come late or are lost: what is said of a state and the events after it. Assumes nothing.
use Rattle.std.specs.Prelude.{ℕ, ◌≡◌, ◌≢◌, true, List}
use Rattle.coherence.specs.Types.{State, Event}
use Rattle.coherence.specs.Histories.{Overtaken, onward, stays, reads_and_writes}
use Rattle.rules.specs.States.{cell_at, slot_at, serial_at}
use Rattle.rules.specs.Refusals.{delivering, dropping}
use Rattle.rules.specs.Effects.{emptied, step_of}
use Rattle.rules.specs.Runs.{answers_of}

-- an accepted timeout gives its line a serial that no message of the line in the pool bears
abbrev pub NewSerialUnborne : State → Type 0
NewSerialUnborne s =
    (r : Event) (i : ℕ) → Overtaken s r i → (slot_at s i).serial.0 ≢ serial_at (step_of s r).state r.line

-- a message of the line is in the pool at the accepted timeout r, and no event after it empties its slot: then its delivery d empties the slot and does nothing else
abbrev pub LateToken : State → Type 0
LateToken s =
    (r : Event) (between : List Event) (d : Event)
    → Overtaken s r d.amount
    → stays d.amount between (answers_of (step_of s r).state between) ≡ true
    → delivering d.kind ≡ true
    → step_of (onward s r between) d ≡ emptied (onward s r between) d.amount

-- the events have the same answers after d as without it
abbrev pub AnsweredAlike : State → Event → List Event → Type 0
AnsweredAlike s d es = answers_of (step_of s d).state es ≡ answers_of s es

-- an accepted drop leaves every cell and every serial, and any list of reads and writes has the same answers after it as without it
abbrev pub SlowOrLost : State → Type 0
SlowOrLost s =
    (d : Event) → dropping d.kind ≡ true
    → (step_of s d).answer.number ≡ 0
    → ((line node : ℕ) → cell_at (step_of s d).state line node ≡ cell_at s line node)
    × ((line : ℕ) → serial_at (step_of s d).state line ≡ serial_at s line)
    × ((accesses : List Event) → reads_and_writes accesses ≡ true → AnsweredAlike s d accesses)
