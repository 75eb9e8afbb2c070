-- A line of which something is left is never refused with 18. Assumes nothing.
use Prim.Native.Nat.{ℕ, ◌<◌}
use mathlib.Core.Path.{◌≡◌}
use mathlib.Core.Logic.{◌≢◌}
use mathlib.Core.Bool.{true, false}
use native.Mathlib.Omega.{arith}
use Rattle.coherence.specs.Types.{State, Event}
use Rattle.rules.specs.States.{cell_at}
use Rattle.rules.specs.Refusals.{timeout, nothing_left, seen, table, table_of, refusal}
use Rattle.rules.proofs.Laws.Bools.{clash, and_both}
use Rattle.rules.proofs.Laws.Rows.{applies, given_applies}
use Rattle.rules.proofs.Keeps.Accepted.{times_named}

module _ (s : State) (e : Event) where
  -- 18 is given to a timeout of a line that has nothing left
  eighteen : (k : ℕ) → applies 18 (table_of s e k) ≡ true → (timeout k ≡ true) × (nothing_left (cell_at s e.line) ≡ true)
  unfolding applies table
  eighteen k h = and_both (timeout k) (nothing_left (cell_at s e.line)) h

  pub not_18 : (e.line < s.sizes.lines → nothing_left (cell_at s e.line) ≡ false) → refusal s e ≢ 18
  unfolding refusal
  not_18 left h =
      let p = eighteen e.kind (given_applies (seen s e) e e.kind 18 (omega arith) h) in
      clash p.1 (left (times_named s e e.kind p.0 (omega arith)).line)
