-- Every step keeps the invariant, with the last words as the step leaves them. Assumes nothing.
use Prim.Native.Nat.{ℕ}
use mathlib.Core.Path.{refl, sym, subst}
use mathlib.Core.Bool.{◌&&◌, cond as pick}
use native.Mathlib.Omega.{arith}
use borrow.Author.Tests.{eqb-true}
use lib.Dec.{eqb}
use Rattle.coherence.specs.Types.{Want, State, Event, Stepped}
use Rattle.rules.specs.Cells.{with_want}
use Rattle.rules.specs.Refusals.{writing, cell_of, refusal}
use Rattle.rules.specs.Effects.{want_of, step_of}
use Rattle.coherence.specs.Histories.{wrote}
use Rattle.rules.proofs.Laws.Bools.{split}
use Rattle.rules.proofs.Laws.Views.{Sized}
use Rattle.rules.proofs.Laws.Bears.{alike}
use Rattle.rules.proofs.Keeps.Well.{Well}
use Rattle.rules.proofs.Keeps.Accepted.{Cached}
use Rattle.rules.proofs.Keeps.Numbers.{step_number, step_refused}
use Rattle.rules.proofs.Keeps.Deeds.{Deed, quiet, write, want, send, land, renew, step_deed}
use Rattle.rules.proofs.Keeps.Changes.{cell_change}
use Rattle.coherence.proofs.Invariant.{Held}
use Rattle.coherence.proofs.Changes.{held_change, kept_here, saved_here, moved}
use Rattle.coherence.proofs.Sends.{send_held}
use Rattle.coherence.proofs.Arrivals.{landed_held}
use Rattle.coherence.proofs.Writes.{write_held}
use Rattle.coherence.proofs.Recreations.{recreate_held}

module _ {s : State} (z : Sized s) (w : Well s) (W : ℕ → ℕ) (h : Held s W) (e : Event) where
  -- a want changes no count, mark or word
  want_held : (x : Want) → Cached s e → Held (want_of s e x).state W
  unfolding want_of Held
  want_held x c =
      let n = c.named in
      let k = h e.line n.line in
      let ch = cell_change z w n.line n.node (with_want x (cell_of s e)) in
      let mv = moved ch in
      let r = k.tally in
      held_change ch W (alike refl) h
      (kept_here ch (W e.line) k (omega arith) (k.words e.node ch.place.node9) (k.carried 0 (omega arith))
      (saved_here ch (W e.line) k (omega arith) (λ v. v)))

  deed_held : {k : ℕ} {t : State} → Deed s e k t → Held t (λ j. pick (writing k && eqb e.line j) e.word (W j))
  deed_held (quiet f) = rw f h
  deed_held (write t c a) = rw t (write_held z w e c a W h)
  deed_held (want f x c) = rw f (want_held x c)
  deed_held (send f a) = rw f (send_held z w e a W h)
  deed_held (land f _ i g l) = rw f (landed_held z w e.amount i g W h l)
  deed_held (renew f t) = rw f (recreate_held z w e t W h)

  refusal_held : Held (step_of s e).state (λ j. pick (eqb (refusal s e) 0 && (writing e.kind && eqb e.line j)) e.word (W j))
  refusal_held =
      split (eqb (refusal s e) 0) (λ t. rw t (deed_held (step_deed s e (eqb-true (refusal s e) 0 t))))
      (λ f. rw f (subst (λ (r : Stepped). Held r.state W) (sym (step_refused s e f)) h))

  pub step_held : Held (step_of s e).state (λ j. pick (wrote e (step_of s e).answer j) e.word (W j))
  step_held =
      subst (λ a. Held (step_of s e).state (λ j. pick (eqb a 0 && (writing e.kind && eqb e.line j)) e.word (W j)))
      (sym (step_number s e))
      refusal_held
