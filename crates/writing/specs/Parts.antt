-- What the private functions state. Assumes nothing.
use Rattle.std.specs.Prelude.{ℕ, ◌+◌, cond as pick, List, eqb, get_or}
use Rattle.writing.specs.Writing.{answer_text}

-- the answer to a line with this mark: for an event the three words at place a
abbrev pub answer_at : ℕ → List ℕ → ℕ → List ℕ
answer_at mark ws a = pick (eqb mark 1) (answer_text (get_or ws a 0) (get_or ws (a + 1) 0) (get_or ws (a + 2) 0)) (answer_text 22 0 64)

-- how many words it has
abbrev pub words_of : ℕ → ℕ
words_of mark = pick (eqb mark 1) 3 0
