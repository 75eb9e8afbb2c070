-- Where the parts of a state stand in their arrays. Assumes nothing.
use Rattle.std.specs.Prelude.{ℕ, ◌+◌, ◌*◌, ◌&&◌, cond as pick, ltb}

-- the place of a line's serial; that of line 0 where there is no such line
unfoldable pub row_of : ℕ → ℕ
row_of line = pick (ltb line 16) line 0

-- the place of a node's cell of a line; the first where there is no such cell
unfoldable pub place_of : ℕ → ℕ → ℕ
place_of line node = pick (ltb line 16 && ltb node 9) (line * 9 + node) 0
