-- The text of an answer and of many (document 01, "Batch and program"), and where it is put. Assumes nothing.
use Rattle.std.specs.Prelude.{ℕ, zero, suc, ◌+◌, ◌*◌, ◌/◌, ◌%◌, Bool, cond as pick, ◌&&◌, List, [], ◌∷◌, ◌++◌, leb, ltb, eqb, length, get_or, take, drop}
use Rattle.std.proofs.lemmas.List.Edits.{sets}

-- a number's decimal digits, at most k: those of its tenth part and the last
unfoldable pub decimal_to : ℕ → ℕ → List ℕ
decimal_to zero n = []
decimal_to (suc k) n = pick (ltb n 10) ((48 + n) ∷ []) (decimal_to k (n / 10) ++ ((48 + n % 10) ∷ []))

-- the text of a 32-bit number, which has at most ten digits
unfoldable pub decimal : ℕ → List ℕ
decimal n = decimal_to 10 n

-- a number's text and the byte after it
unfoldable pub ended : ℕ → ℕ → List ℕ
ended n b = decimal n ++ (b ∷ [])

-- an answer: number, word, slot, parted by tabs, with a line feed
unfoldable pub answer_text : ℕ → ℕ → ℕ → List ℕ
answer_text number word slot = ended number 9 ++ (ended word 9 ++ ended slot 10)

-- d with the bytes t from place `at` on, where they fit; else d as it is
unfoldable pub put_at : List ℕ → ℕ → List ℕ → List ℕ
put_at d at t = pick (leb (at + length t) (length d)) (take at d ++ t ++ drop (at + length t) d) d

-- how many bytes that puts
unfoldable pub put_count : List ℕ → ℕ → List ℕ → ℕ
put_count d at t = pick (leb (at + length t) (length d)) (length t) 0

-- the answers to lines with these marks: for an event the next three words, for a line that is not readable 22, 0, 64
unfoldable pub answers_text : List ℕ → List ℕ → List ℕ
answers_text [] ws = []
answers_text (m ∷ ms) ws =
    pick (eqb m 1)
    (answer_text (get_or ws 0 0) (get_or ws 1 0) (get_or ws 2 0) ++ answers_text ms (drop 3 ws))
    (answer_text 22 0 64 ++ answers_text ms ws)

-- there is room: 33 bytes and three words for each line
abbrev pub printable : List ℕ → List ℕ → List ℕ → Bool
printable d ms ws = leb (length ms) (length d / 33) && leb (length ms) (length ws / 3)

-- d with those answers at its start, where there is room; else d as it is
unfoldable pub printed : List ℕ → List ℕ → List ℕ → List ℕ
printed d ms ws = pick (printable d ms ws) (sets d 0 (answers_text ms ws)) d

-- how many bytes that puts
unfoldable pub printed_count : List ℕ → List ℕ → List ℕ → ℕ
printed_count d ms ws = pick (printable d ms ws) (length (answers_text ms ws)) 0

-- numbers as a line: after each a tab, after the last a line feed
unfoldable pub line_of : List ℕ → List ℕ
line_of [] = []
line_of (n ∷ ns) = ended n (pick (eqb (length ns) 0) 10 9) ++ line_of ns

-- there is room for a line of numbers from place `at` on: 11 bytes for each
abbrev pub line_fits : List ℕ → ℕ → List ℕ → Bool
line_fits d at ns = leb (at + 11 * length ns) (length d)

-- d with that line from place `at` on, where there is room; else d as it is
unfoldable pub lined : List ℕ → ℕ → List ℕ → List ℕ
lined d at ns = pick (line_fits d at ns) (sets d at (line_of ns)) d

-- how many bytes that puts
unfoldable pub lined_count : List ℕ → ℕ → List ℕ → ℕ
lined_count d at ns = pick (line_fits d at ns) (length (line_of ns)) 0
