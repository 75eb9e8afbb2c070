-- Small joins, computed from the definitions. Assumes nothing.
use Prim.Native.Nat.{ℕ}
use mathlib.Core.Path.{◌≡◌, refl}
use mathlib.Core.Bool.{true, false}
use mathlib.Core.List.{List, [], ◌∷◌, ◌++◌}
use lib.ListN.{replicate}
use Rattle.probes.specs.Records.{records, records_of, falls_after}
use Rattle.probes.specs.Joins.{stop, ahead, joined, number_by, number_of, join_of}

-- an event x at time t
event : ℕ → ℕ → List ℕ
event t x = t ∷ replicate 8 x

core : List ℕ
core = event 1 70 ++ event 3 71

network : List ℕ
network = event 2 80 ++ event 3 81 ++ event 9 82

-- of two records at time 3 the first list's is next; then the first list is used up, and the rest is the second's from its second record on
equal_times : join_of core network 45 ≡ record { written = event 1 70 ∷ event 2 80 ∷ event 3 71 ∷ []; firsts = 2; seconds = 1; first_done = true }
unfolding event core network join_of number_of number_by falls_after records_of records joined ahead
equal_times = refl

-- the other way round
other_way : join_of network core 45 ≡ record { written = event 1 70 ∷ event 2 80 ∷ event 3 81 ∷ event 3 71 ∷ []; firsts = 2; seconds = 2; first_done = false }
unfolding event core network join_of number_of number_by falls_after records_of records joined ahead
other_way = refl

-- nothing to join: the rest is the second's
both_empty : join_of [] [] 0 ≡ stop true
unfolding join_of number_of number_by falls_after records_of records joined
both_empty = refl

-- ---- refusals, in their order

uneven_first : number_of (1 ∷ []) network 0 ≡ 20
unfolding event network number_of number_by
uneven_first = refl

no_room_before_times : number_of (event 5 0 ++ event 4 0) network 44 ≡ 21
unfolding event network number_of number_by
no_room_before_times = refl

times_last : number_of (event 5 0 ++ event 4 0) network 45 ≡ 24
unfolding event network number_of number_by falls_after records_of records
times_last = refl

refused_writes_nothing : join_of core (event 5 0 ++ event 4 0) 45 ≡ stop false
unfolding event core join_of number_of number_by falls_after records_of records
refused_writes_nothing = refl
