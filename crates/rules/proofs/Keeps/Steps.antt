-- A step, and so a run, keeps a state well formed, whatever the event. Assumes nothing.
use Prim.Native.Nat.{ℕ}
use mathlib.Core.Path.{◌≡◌, refl, sym, subst}
use mathlib.Core.Bool.{true}
use mathlib.Core.List.{List, [], ◌∷◌}
use borrow.Author.Tests.{eqb-true}
use lib.Dec.{eqb}
use Rattle.rules.specs.Types.{Want, State, Event, Stepped}
use Rattle.rules.specs.WellFormed.{well_formed}
use Rattle.rules.specs.Refusals.{cell_of, refusal}
use Rattle.rules.specs.Effects.{write_of, want_of, step_of}
use Rattle.rules.specs.Runs.{run_of}
use Rattle.rules.specs.Cells.{able_to_write, with_want, written}
use Rattle.rules.proofs.Laws.Bools.{clash, split}
use Rattle.rules.proofs.Laws.Views.{Sized}
use Rattle.rules.proofs.Keeps.Cells.{able_write, written_ok, with_want_ok}
use Rattle.rules.proofs.Keeps.Well.{Well, well, well_formed_lem, cell_in}
use Rattle.rules.proofs.Keeps.Accepted.{Cached}
use Rattle.rules.proofs.Keeps.Changes.{cell_well}
use Rattle.rules.proofs.Keeps.Sends.{send_well}
use Rattle.rules.proofs.Keeps.Arrivals.{landed_well}
use Rattle.rules.proofs.Keeps.Renewals.{recreate_well}
use Rattle.rules.proofs.Keeps.Numbers.{step_refused}
use Rattle.rules.proofs.Keeps.Shapes.{step_keeps_sized}
use Rattle.rules.proofs.Keeps.Deeds.{Deed, quiet, write, want, send, land, renew, step_deed}

module _ {s : State} (z : Sized s) (w : Well s) (e : Event) where
  want_well : (x : Want) → Cached s e → Well (want_of s e x).state
  unfolding want_of
  want_well x c =
      let n = c.named in
      cell_well z w n.line n.node (with_want x (cell_of s e)) (with_want_ok (cell_in w n.line n.node) x (λ t. clash t c.cache)) refl

  write_well : Cached s e → able_to_write s.sizes.total.0 (cell_of s e) ≡ true → Well (write_of s e).state
  unfolding write_of
  write_well c a =
      let n = c.named in
      let v = (able_write _ _ a).valid in
      cell_well z w n.line n.node (written e.word (cell_of s e)) (written_ok (cell_in w n.line n.node) e.word v) refl

  deed_well : {k : ℕ} {t : State} → Deed s e k t → Well t
  deed_well (quiet _) = w
  deed_well (write _ c a) = write_well c a
  deed_well (want _ x c) = want_well x c
  deed_well (send _ h) = send_well z w e h
  deed_well (land _ _ i f l) = landed_well z w e.amount i f l
  deed_well (renew _ t) = recreate_well z w e t

  pub step_keeps_well : Well (step_of s e).state
  step_keeps_well =
      split (eqb (refusal s e) 0) (λ t. deed_well (step_deed s e (eqb-true (refusal s e) 0 t)))
      (λ f. subst (λ (r : Stepped). Well r.state) (sym (step_refused s e f)) w)

-- a step keeps a state well formed
pub step_keeps_well_formed : (s : State) → Sized s → well_formed s ≡ true → (e : Event) → well_formed (step_of s e).state ≡ true
step_keeps_well_formed s z h e = well_formed_lem (step_keeps_well z (well h) e)

-- so does a run, and it keeps the sizes and the lengths of the lists
pub run_keeps_well : {s : State} → Sized s → Well s → (es : List Event) → Well (run_of s es)
unfolding run_of
run_keeps_well {s = s} z w [] = w
run_keeps_well {s = s} z w (e ∷ es) = run_keeps_well {s = (step_of s e).state} (step_keeps_sized s z e) (step_keeps_well z w e) es
