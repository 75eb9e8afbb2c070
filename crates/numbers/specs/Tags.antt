-- What the slots hold, beside the state. Assumes nothing.
use Rattle.std.specs.Prelude.{ℕ, ◌+◌, ◌*◌, ◌<◌, Bool, not, cond as pick, ◌≡◌, List, Option, None, Some, eqb, get_or}
use Rattle.numbers.specs.Types.{MessageKind, Message}
use Rattle.rules.specs.Tools.{all_to, first_to}
use Rattle.rules.specs.States.{free_message, is_free}

-- 0 for a free slot, else a number of its own for each line and serial
abbrev pub tag_of : MessageKind → ℕ → ℕ → ℕ
tag_of k line q = pick (is_free k) 0 (line * 256 + q + 1)

-- a message's tag
abbrev pub slot_tag : Message → ℕ
slot_tag m = tag_of m.kind m.line m.serial.0

-- a list that has the tag of each slot
pub record Tagged (tags : List ℕ) (pool : List Message) : Type 0 where
  pub each : (i : ℕ) → i < 64 → get_or tags i 0 ≡ slot_tag (get_or pool i free_message)

-- the number of a slot, 64 for none
abbrev pub slot_in : Option ℕ → ℕ
slot_in None = 64
slot_in (Some i) = i

-- the lowest slot that is free, or 64
unfoldable pub first_untagged : List ℕ → ℕ
first_untagged tags = first_to 64 (λ i. eqb (get_or tags i 0) 0)

-- no slot has the tag
unfoldable pub absent : List ℕ → ℕ → Bool
absent tags tag = all_to 64 (λ i. not (eqb (get_or tags i 0) tag))
