-- The number of an event from the parts that it names: the table, over what these parts show. Assumes nothing.
use Rattle.std.specs.Prelude.{◌≡◌, ℕ, Bool, true, false, ◌||◌, cond as pick, List, [], ◌∷◌, eqb, ltb, get_or, Result, MatchResult}
use Rattle.numbers.specs.Types.{Cell, Sizes, Event}
use Rattle.rules.specs.Cells.{zero_cell}
use Rattle.rules.specs.Fresh.{sizes}
use Rattle.rules.specs.declared.refusals.Refusal.{Refusal}
use Rattle.rules.specs.Refusals.{Row, Seen, table, given, slotted, sending}

-- of rows whose numbers ascend: those before number n
unfoldable pub before : ℕ → List Row → List Row
before n [] = []
before n (r ∷ rs) = pick (ltb r.number n) (r ∷ before n rs) []

-- and those from n on
unfoldable pub from : ℕ → List Row → List Row
from n [] = []
from n (r ∷ rs) = pick (ltb r.number n) (from n rs) (r ∷ rs)

-- what is seen in a well formed state: these six, in the order of `Seen`
abbrev pub sight : Sizes → Cell → Bool → ℕ → Bool → (ℕ → Cell) → Seen
sight z x b i n cs = record { formed = true; sizes = z; cell = x; slot_free = b; lowest_slot = i; next_borne = n; cells = cs }

-- what is seen of a slot: whether it is free; the rest stands for what no row of such an event looks at
abbrev pub slot_sight : Bool → Seen
slot_sight b = sight (sizes 0 0 0) zero_cell b 0 false (λ _. zero_cell)

-- a delivery, or a drop, which has the same number; `tags` has 0 for each free slot
unfoldable pub slot_refusal : List ℕ → Event → ℕ
slot_refusal tags e = given (table (slot_sight (eqb (get_or tags e.amount 0) 0)) e 3)

-- what is seen of a cell x, and whether no slot is free; the rest stands for what is not looked at
abbrev pub cell_sight : Sizes → Cell → Bool → Seen
cell_sight z x full = sight z x false (pick full 64 0) false (λ _. zero_cell)

-- a send
unfoldable pub send_refusal : Sizes → Event → Cell → Bool → ℕ
send_refusal z e x full = given (table (cell_sight z x full) e 2)

-- an event of kind k, for rows that look at no other word of it
abbrev pub any_event : ℕ → Event
any_event k = record { kind = k; line = 0; node = 0; other = 0; amount = 0; owner = 0; full = 0; word = 0 }

-- what an event of kind k has from the cell x and the total n alone: 13 to 16
unfoldable pub own_refusal : ℕ → ℕ → Cell → ℕ
own_refusal k n x = given (from 13 (before 17 (table (cell_sight (sizes 0 0 n) x false) (any_event k) k)))

-- an event of kind k that names a line and a node: its number up to 16; 0 for one that names a slot and for a send
unfoldable pub cell_refusal : Sizes → Event → ℕ → Cell → ℕ
cell_refusal z e k x = pick (slotted k || sending k) 0 (given (before 17 (table (cell_sight z x false) e k)))

-- refused where the test holds, for this reason
abbrev pub RefusedIf : {A : Type 0} → Bool → Refusal → Result A Refusal → Type 0
RefusedIf wrong why r = MatchResult r (λ _. wrong ≡ false) (λ given. (wrong ≡ true) × (given ≡ why))
