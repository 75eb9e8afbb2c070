-- A start (document 01, "A fresh state", and number 19). Assumes nothing.
use Rattle.std.specs.Prelude.{cond as pick, ℕ, zero, suc, ◌+◌, ◌*◌, List, replicate, set}
use Rattle.rules.specs.Types.{Cell, Sizes, State, Stepped}
use Rattle.rules.specs.States.{free_message}
use Rattle.rules.specs.Cells.{zero_cell, recreated}
use Rattle.rules.specs.WellFormed.{sizes_fine}

-- the memory's cell: all n tokens, owner and valid, word 0
abbrev pub memory_cell : ℕ → Cell
memory_cell n = recreated n 0 zero_cell

-- empty cells, with the memory's cell of each of l lines at node c
unfoldable pub fresh_cells : ℕ → ℕ → ℕ → List Cell
fresh_cells zero c n = replicate 144 zero_cell
fresh_cells (suc l) c n = set (fresh_cells l c n) (l * 9 + c) (memory_cell n)

-- the sizes
abbrev pub sizes : ℕ → ℕ → ℕ → Sizes
sizes c l n = record { caches = c; lines = l; total = record { 0 = n } }

-- the fresh state of c caches, l lines and n tokens: the memory holds all n tokens of each line, all else is zero
unfoldable pub fresh : ℕ → ℕ → ℕ → State
fresh c l n =
    record { sizes = sizes c l n; serials = replicate 16 (record { 0 = 0 }); cells = fresh_cells l c n; pool = replicate 64 free_message }

-- the state that is all zero
unfoldable pub zero_state : State
zero_state =
    record { sizes = sizes 0 0 0; serials = replicate 16 (record { 0 = 0 }); cells = replicate 144 zero_cell; pool = replicate 64 free_message }

-- a start: the fresh state and 0, or, with a size out of range, the state that is all zero and 19
unfoldable pub start_of : ℕ → ℕ → ℕ → Stepped
start_of c l n =
    pick (sizes_fine (sizes c l n)) (record { state = fresh c l n; answer = record { number = 0; word = 0; slot = 64 } })
    (record { state = zero_state; answer = record { number = 19; word = 0; slot = 64 } })
