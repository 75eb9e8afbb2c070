-- Why a line or a turn is refused, and by what number it is told. Assumes nothing.
use Rattle.std.specs.Prelude.{ℕ, cond as pick, eqb, Option, Some, None}
use Rattle.probes.specs.declared.joining.Refusal.{Refusal}
use Rattle.probes.specs.declared.joining.Refusal.TheVariants.{Uneven, NoRoom, TimeFalls}
use Rattle.lanes.specs.declared.filling.LineRefusal.{LineRefusal}
use Rattle.lanes.specs.declared.filling.LineRefusal.TheVariants.{Unreadable, TimeFalls as Falls}

-- the number of a line that is refused
abbrev pub number_of_line : LineRefusal → ℕ
number_of_line Unreadable = 22
number_of_line Falls = 24

-- the number of what may be refused: 0 if it is not
abbrev pub number_in : {A : Type 0} → (A → ℕ) → Option A → ℕ
number_in number None = 0
number_in number (Some why) = number why

-- why a line is refused, by its number
unfoldable pub line_refused : ℕ → Option LineRefusal
line_refused n = pick (eqb n 22) (Some Unreadable) (pick (eqb n 24) (Some Falls) None)

-- why a turn is refused, by its number
unfoldable pub turn_refused : ℕ → Option Refusal
turn_refused n = pick (eqb n 20) (Some Uneven) (pick (eqb n 21) (Some NoRoom) (pick (eqb n 24) (Some TimeFalls) None))
