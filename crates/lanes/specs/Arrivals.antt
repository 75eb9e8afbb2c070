-- Two files that arrive in parts, which cut lines anywhere, and the turns that join them. Assumes nothing.
use Rattle.std.specs.Prelude.{ℕ, ◌+◌, ◌<◌, Bool, true, false, List, [], ◌∷◌, ◌++◌, ◌≡◌, length}
use Rattle.std.proofs.Math.Option.{Option, none, some}
use Rattle.lanes.specs.Program.{Refused}
use Rattle.lanes.specs.Parts.{part_read, unread, part_of}

-- a file on its way: the records to be joined, the bytes that are held, the parts to come, the last time, how many lines were read, and the number of the line after them, if that is known to be refused
pub record Way : Type 0 where
  pub records : List (List ℕ)
  pub held : List ℕ
  pub parts : List (List ℕ)
  pub time : ℕ
  pub lines : ℕ
  pub number : ℕ

-- a file before its first line
abbrev pub fresh : List (List ℕ) → Way
fresh ps = record { records = []; held = []; parts = ps; time = 0; lines = 0; number = 0 }

-- a part, which may be of no bytes, stands behind what is held
abbrev pub read : Way → List ℕ → List (List ℕ) → Way
read w p ps = record { records = w.records; held = w.held ++ p; parts = ps; time = w.time; lines = w.lines; number = w.number }

-- what `load` leaves, in a buffer of so much room, with room for k records
abbrev pub load : Way → Bool → ℕ → ℕ → Way
load w last room k =
    record {
      records = (part_read w.time w.held last room k).records;
      held = unread w.time w.held last room k;
      parts = w.parts;
      time = (part_read w.time w.held last room k).time;
      lines = w.lines + length (part_read w.time w.held last room k).records;
      number = (part_read w.time w.held last room k).number;
    }

-- how a file comes on
pub data Comes : Way → Way → Type 0 where
  -- a part is read
  reads : (w : Way) (p : List ℕ) (ps : List (List ℕ)) → w.parts ≡ p ∷ ps → Comes w (read w p ps)
  -- where no record is left, and no line is known to be refused, lines are loaded; the last bytes as a line only if no part is to come
  loads : (w : Way) (last : Bool) (room k : ℕ) → w.records ≡ [] → w.number ≡ 0 → (last ≡ true → w.parts ≡ []) → 98 < room → Comes w (load w last room k)

-- the same file with other records to be joined
abbrev pub leave : Way → List (List ℕ) → Way
leave w rs = record { records = rs; held = w.held; parts = w.parts; time = w.time; lines = w.lines; number = w.number }

-- a file at its end: nothing is left, held or to come
pub record Ended (w : Way) : Type 0 where
  pub no_records : w.records ≡ []
  pub no_bytes : w.held ≡ []
  pub no_parts : w.parts ≡ []
  pub no_number : w.number ≡ 0

-- a file whose next line is refused
pub record Stopped (w : Way) : Type 0 where
  pub no_records : w.records ≡ []
  pub some_number : w.number ≡ 0 → ⊥

-- a file that can be joined: it has records, or is at its end
pub data Ready (w : Way) : Type 0 where
  has : (x : List ℕ) (xs : List (List ℕ)) → w.records ≡ x ∷ xs → Ready w
  ends : Ended w → Ready w

-- what turns print, and what is told at the end
pub data Joining : Way → Way → List (List ℕ) → Option Refused → Type 0 where
  first_comes : (a a' b : Way) (out : List (List ℕ)) (t : Option Refused) → Comes a a' → Joining a' b out t → Joining a b out t
  second_comes : (a b b' : Way) (out : List (List ℕ)) (t : Option Refused) → Comes b b' → Joining a b' out t → Joining a b out t
  -- a turn
  turn : (a b : Way) (out : List (List ℕ)) (t : Option Refused) → Ready a → Ready b
      → Joining (leave a (part_of a.records b.records).first) (leave b (part_of a.records b.records).second) out t
      → Joining a b ((part_of a.records b.records).printed ++ out) t
  -- the next line of a file that is used up is refused
  first_stops : (a b : Way) → Stopped a → Joining a b [] (some (record { second = false; line = a.lines + 1; number = a.number }))
  second_stops : (a b : Way) → Ready a → Stopped b → Joining a b [] (some (record { second = true; line = b.lines + 1; number = b.number }))
  -- both are at their end
  both_end : (a b : Way) → Ended a → Ended b → Joining a b [] none
