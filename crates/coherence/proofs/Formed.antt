-- Number 1 is the answer to no event of a run from a well formed state. Assumes nothing.
use Prim.Native.Nat.{ℕ, zero, suc}
use mathlib.Core.Path.{◌≡◌, sym, ◌∙◌}
use mathlib.Core.Logic.{◌≢◌}
use mathlib.Core.Bool.{true, false}
use mathlib.Core.List.{List, [], ◌∷◌}
use native.Mathlib.Omega.{arith}
use lib.ListN.{get_or}
use Rattle.coherence.specs.Types.{State, Event}
use Rattle.rules.specs.WellFormed.{well_formed}
use Rattle.rules.specs.Refusals.{seen, table, table_of, refusal}
use Rattle.rules.specs.Effects.{answer}
use Rattle.rules.specs.Runs.{answers_of}
use Rattle.rules.proofs.Laws.Bools.{clash}
use Rattle.rules.proofs.Laws.Rows.{applies, given_applies}
use Rattle.rules.proofs.Laws.Views.{Sized}
use Rattle.rules.proofs.Keeps.Well.{Well, well_formed_lem}
use Rattle.rules.proofs.Keeps.Numbers.{step_number}
use Rattle.rules.proofs.Keeps.Shapes.{step_keeps_sized}
use Rattle.rules.proofs.Keeps.Steps.{step_keeps_well}

-- in a well formed state no event is refused with 1
one : (s : State) (e : Event) (k : ℕ) → well_formed s ≡ true → applies 1 (table_of s e k) ≡ false
unfolding applies table
one s e k w = rw w

not_1 : (s : State) (e : Event) → well_formed s ≡ true → refusal s e ≢ 1
unfolding refusal
not_1 s e w h = clash (given_applies (seen s e) e e.kind 1 (omega arith) h) (one s e e.kind w)

-- nor is any event after it
pub run_not_1 : (es : List Event) {s : State} → Sized s → Well s → (i : ℕ) → (get_or (answers_of s es) i (answer 0 0 64)).number ≢ 1
unfolding answers_of
run_not_1 [] z w i = omega arith
run_not_1 (e ∷ es) {s} z w zero = λ h. not_1 s e (well_formed_lem w) (sym (step_number s e) ∙ h)
run_not_1 (e ∷ es) {s} z w (suc i) = run_not_1 es (step_keeps_sized s z e) (step_keeps_well z w e) i
