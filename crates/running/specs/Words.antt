-- The words that a run reads and writes. Assumes nothing.
use Rattle.std.specs.Prelude.{cond as pick, ℕ, ◌+◌, ◌/◌, List, leb, set}
use Rattle.running.specs.Types.{Answer}

-- how many events so many words hold, as far as there is room for three answer words for each
unfoldable pub runnable : ℕ → ℕ → ℕ
runnable words room = pick (leb (words / 8) (room / 3)) (words / 8) (room / 3)

-- the words with an answer's three set at a place
abbrev pub answer_set : List ℕ → ℕ → Answer → List ℕ
answer_set answers at a = set (set (set answers at a.number) (at + 1) a.word) (at + 2) a.slot
