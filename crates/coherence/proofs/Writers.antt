-- Where a node is able to write a line, its tokens are all there are. Assumes nothing.
use Prim.Native.Nat.{ℕ, ◌+◌, ◌≤◌, ◌<◌}
use mathlib.Core.Path.{◌≡◌, sym, subst}
use mathlib.Core.Bool.{true}
use native.Mathlib.Omega.{arith}
use Rattle.coherence.specs.Types.{State}
use Rattle.coherence.specs.Demand3.{OthersEmpty, NoneInFlight}
use Rattle.rules.specs.States.{cell_at, slot_at, serial_at}
use Rattle.rules.specs.WellFormed.{in_cells, in_messages, held, borne, tokens_of}
use Rattle.rules.specs.Fresh.{sizes}
use Rattle.rules.specs.Cells.{able_to_write}
use Rattle.rules.proofs.Laws.Views.{caches_of, lines_of, total_of}
use Rattle.rules.proofs.Laws.Bears.{counts, cell_share, message_share}
use Rattle.rules.proofs.Keeps.Cells.{Able, able_write}
use Rattle.rules.proofs.Keeps.Well.{Well, place}
use Rattle.coherence.proofs.Writes.{alone}

-- tokens in cells and in messages of the line's serial are at most the total
within : {s : State} → Well s → (l : ℕ) → l < 16 → in_cells s l held + in_messages s l borne ≤ s.sizes.total.0
unfolding tokens_of
within w l h = w.sums l h

-- a node that has them all leaves none to messages
none_in_flight : {s : State} → Well s → (l n : ℕ) → l < 16 → n < 9 → Able s.sizes.total.0 (cell_at s l n) → NoneInFlight s l
none_in_flight {s} w l n hl hn able i hi b =
    omega (arith, within w l hl, able.all, cell_share s l n held hn, message_share s l i borne hi, counts l (serial_at s l) borne (slot_at s i) b)

-- in a state of c caches, l lines and n tokens
pub writer : (c l n : ℕ) {s : State} → s.sizes ≡ sizes c l n → Well s → (line node : ℕ) → line < l → node ≤ c
    → able_to_write n (cell_at s line node) ≡ true
    → OthersEmpty c s line node × NoneInFlight s line
writer c l n {s} z w line node hl hn a =
    let lines = lines_of z in
    let caches = caches_of z in
    let able = subst (λ t. Able t (cell_at s line node)) (sym (total_of z)) (able_write n (cell_at s line node) a) in
    let p = place w {l = line} {n = node} {i = 0} (omega arith) (omega arith) (omega arith) in (
      λ other ho d.
          let q = place w {l = line} {n = other} {i = 0} (omega arith) (omega arith) (omega arith) in
          alone w line node (omega arith) (omega arith) able other q.node9 d,
      none_in_flight w line node p.line16 p.node9 able,
    )
