-- What is said of every event in every state, well formed or not. Assumes nothing.
use Rattle.std.specs.Prelude.{ℕ, ◌≡◌, ◌≢◌, true, ◌||◌, cond as pick, List, [], ◌∷◌}
use Rattle.coherence.specs.Types.{State, Event}
use Rattle.rules.specs.Refusals.{reading, writing, sending, slotted, wanting_read, wanting_write, lost_token, timeout}
use Rattle.rules.specs.Effects.{step_of}

-- a refused event leaves the state as it came, and is answered with word 0 and slot 64
abbrev pub RefusedLeavesState : Type 0
RefusedLeavesState =
    (s : State) (e : Event)
    → (step_of s e).answer.number ≢ 0
    → ((step_of s e).state ≡ s) × ((step_of s e).answer.word ≡ 0) × ((step_of s e).answer.slot ≡ 64)

-- number 23 is the answer to a lost token timeout alone
abbrev pub Number23LostToken : Type 0
Number23LostToken = (s : State) (e : Event) → (step_of s e).answer.number ≡ 23 → lost_token e.kind ≡ true

-- the words of an event that kind k uses (document 01, the table of kinds); a kind above 9 uses none
unfoldable pub used_by : ℕ → Event → List ℕ
used_by k e =
    pick (reading k) (e.line ∷ e.node ∷ [])
    (pick (writing k) (e.line ∷ e.node ∷ e.word ∷ [])
    (pick (sending k) (e.line ∷ e.node ∷ e.other ∷ e.amount ∷ e.owner ∷ e.full ∷ [])
    (pick (slotted k) (e.amount ∷ [])
    (pick (wanting_read k || wanting_write k) (e.line ∷ e.node ∷ [])
    (pick (timeout k) (e.line ∷ e.node ∷ []) [])))))

-- words that a kind does not use are not looked at: two events of one kind that agree in the words it uses step alike
abbrev pub UnusedWordsUnseen : Type 0
UnusedWordsUnseen =
    (s : State) (e other : Event)
    → e.kind ≡ other.kind
    → used_by e.kind e ≡ used_by other.kind other
    → step_of s e ≡ step_of s other
