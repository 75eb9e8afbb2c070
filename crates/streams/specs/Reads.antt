-- What a read leaves. Assumes nothing.
use Rattle.std.specs.Prelude.{ℕ, ◌≤◌, ◌<◌, min, ◌≡◌, true, false, List, length, take, Result, Ok, IfOk}
use Rattle.std.specs.declared.io.Error.{Error}
use Rattle.held.specs.Wholes.{whole_of}
use Rattle.streams.specs.declared.reading.More.{More}

-- nothing is read of an input: no byte more, no end and no failure
pub record Unread (d : List ℕ) (h : ℕ) (d' : List ℕ) (r : Result More Error) : Type 0 where
  -- the buffer is as it was
  pub bytes : d' ≡ d
  -- as many bytes are held as were, or as many as there are, the input has not ended, and nothing failed
  pub value : r ≡ Ok (record { held = min h (length d); last = false })

-- of a buffer d in which h bytes are held, a read that does not fail answers m
pub record Got (d : List ℕ) (h : ℕ) (m : More) : Type 0 where
  -- the bytes that were held are held still
  pub kept : min h (length d) ≤ m.held
  -- all that is held lies in the buffer
  pub fits : m.held ≤ length d
  -- the end of input brings no byte
  pub ended : m.last ≡ true → m.held ≡ min h (length d)
  -- any other read brings a byte
  pub more : whole_of (take h d) ≡ 0 → h < length d → m.last ≡ false → h < m.held

-- of a buffer d in which h bytes are held, a read makes d', and answers r
pub record Reads (d : List ℕ) (h : ℕ) (d' : List ℕ) (r : Result More Error) : Type 0 where
  -- the bytes that were held are as they were, also where a read fails
  pub front : take h d' ≡ take h d
  -- what is held where none fails
  pub got : IfOk r (λ m. Got d h m)
  -- where a whole line is held, nothing is read, and nothing fails
  pub whole : (whole_of (take h d) ≡ 0 → ⊥) → Unread d h d' r
  -- nor where there is no room for a byte
  pub full : length d ≤ h → Unread d h d' r
