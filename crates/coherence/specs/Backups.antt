-- Only the holder may use a backup (document 02, T-01): what mends a line where a timeout is refused with 23. Assumes nothing.
use Rattle.std.specs.Prelude.{ℕ, ◌≤◌, ◌≡◌, ◌≢◌, true, List}
use Rattle.coherence.specs.Types.{State, Event}
use Rattle.coherence.specs.Histories.{after, answers, last_write}
use Rattle.rules.specs.States.{cell_at}
use Rattle.rules.specs.Refusals.{lost_data, cell_of}
use Rattle.rules.specs.Effects.{step_of}

-- a node other than this one has a backup of the line
pub record HeldElsewhere (s : State) (line node : ℕ) : Type 0 where
  pub holder : ℕ
  pub within : holder ≤ s.sizes.caches
  pub other : holder ≢ node
  pub backup : (cell_at s line holder).backup ≡ true

-- m is a lost data timeout of the line, by a node that has a backup of it
pub record HolderTimesOut (s : State) (line : ℕ) (m : Event) : Type 0 where
  pub kind : lost_data m.kind ≡ true
  pub same_line : m.line ≡ line
  pub within : m.node ≤ s.sizes.caches
  pub backup : (cell_of s m).backup ≡ true

-- m is accepted, and after it its node is the line's owner and has the word x
pub record Mends (s : State) (m : Event) (x : ℕ) : Type 0 where
  pub accepted : (step_of s m).answer.number ≡ 0
  pub owner : (cell_of (step_of s m).state m).owner ≡ true
  pub word : (cell_of (step_of s m).state m).word ≡ x

-- where an event after the list is refused with 23, a node other than the event's has a backup of its line; and in the same state a lost data timeout by any node that has one mends the line, with the word of the last accepted write, or 0
abbrev pub HolderMends : ℕ → ℕ → ℕ → List Event → Type 0
HolderMends c l n es =
    (e : Event)
    → (step_of (after c l n es) e).answer.number ≡ 23
    → HeldElsewhere (after c l n es) e.line e.node
    × ((m : Event) → HolderTimesOut (after c l n es) e.line m
    → Mends (after c l n es) m (last_write es (answers c l n es) e.line))
