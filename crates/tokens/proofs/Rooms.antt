-- Room for the bytes that are held, and for more. Assumes nothing.
use Rattle.std.proofs.Common.{◌≡◌, ◌≤◌, ◌<◌, List, ℕ, length, arith}
use Rattle.trace.specs.declared.turning.Turned.{Turned}
use Rattle.lines.specs.Chunks.{Lent}
use Rattle.trace.proofs.Turns.{Fits}
use Rattle.tokens.specs.Rooms.{Room}

-- after a turn there is room again
pub room_after : {d d' : List ℕ} {l : Lent} {r : Turned} → Fits d d' l r → (97 < length d') × (length d ≤ length d') → Room d' r.held
room_after f h = record { fits = let g = f.held in omega arith; more = λ z. let g = f.unfinished z in omega arith }

-- with nothing held there is room
pub room_none : (d : List ℕ) (h : ℕ) → h ≡ 0 → 97 < length d → Room d h
room_none d h e n = record { fits = omega arith; more = λ z. omega arith }
