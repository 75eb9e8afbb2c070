-- Messages that come late or are lost, in a state of a run. Assumes nothing.
use mathlib.Core.Path.{◌≡◌, sym, ap, subst, ◌∙◌}
use mathlib.Core.Bool.{true}
use borrow.Author.Tests.{eqb-false}
use Rattle.coherence.specs.Types.{State, Stepped}
use Rattle.coherence.specs.Losses.{NewSerialUnborne, LateToken, SlowOrLost}
use Rattle.rules.specs.States.{free_message, slot_at, serial_at}
use Rattle.rules.specs.WellFormed.{well_formed}
use Rattle.rules.specs.Effects.{step_of}
use Rattle.rules.proofs.Laws.Views.{Sized}
use Rattle.rules.proofs.Keeps.Well.{Well, well_formed_lem}
use Rattle.rules.proofs.Keeps.Numbers.{step_number}
use Rattle.rules.proofs.Keeps.Shapes.{step_keeps_sized}
use Rattle.rules.proofs.Keeps.Steps.{step_keeps_well, step_keeps_well_formed, run_keeps_well}
use Rattle.coherence.proofs.Late.{overtaken_late, run_late, late_delivery}
use Rattle.coherence.proofs.Lost.{slot_cells, slot_serials, drops, same_answers}

module _ (s : State) (z : Sized s) (w : Well s) where
  pub unborne_after : NewSerialUnborne s
  unborne_after r i o q =
      eqb-false _ _ (overtaken_late z w r i o).stale (q ∙ ap (serial_at (step_of s r).state) (sym o.line))

  pub late_after : LateToken s
  late_after r between d o st k =
      let i = d.amount in
      let z' = step_keeps_sized s z r in
      let w' = step_keeps_well z w r in
      let late = run_late z' w' i (slot_at s i) (overtaken_late z w r i o) between st in
      late_delivery (run_keeps_well z' w' between) d (slot_at s i) late k

  pub lost_after : SlowOrLost s
  lost_after d k a =
      let i = d.amount in
      let h = drops s d k (sym (step_number s d) ∙ a) in
      let f = well_formed_lem w in
      let v = subst (λ (r : Stepped). well_formed r.state ≡ true) h (step_keeps_well_formed s z f d) in
      rw h (slot_cells s i free_message, slot_serials s i free_message, same_answers s i free_message z f v)
