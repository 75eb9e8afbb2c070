-- A step keeps the sizes, and the lengths of the lists. Assumes nothing.
use Prim.Native.Nat.{ℕ}
use mathlib.Core.Path.{◌≡◌, refl, subst, ◌∙◌}
use lib.Dec.{eqb}
use lib.ListN.{length, length-set}
use Rattle.rules.specs.Types.{Cell, Message, State, Event, Stepped}
use Rattle.rules.specs.States.{slot_at, with_cell, with_slot, with_serial}
use Rattle.rules.specs.Refusals.{refusal, reading, writing, sending, delivering, dropping, wanting_read, wanting_write}
use Rattle.rules.specs.Effects.{read_of, write_of, send_of, deliver_of, want_of, recreate_of, effect, step_of}
use Rattle.rules.specs.Cells.{zero_cell}
use Rattle.rules.proofs.Laws.Bools.{by_pick}
use Rattle.rules.proofs.Laws.Sums.{length_fill}
use Rattle.rules.proofs.Laws.Views.{Sized}
use Rattle.rules.proofs.Keeps.Arrivals.{delivers}
use Rattle.rules.proofs.Keeps.Renewals.{renewing}

-- the two states have the same sizes, and lists of the same lengths
record Shaped (s s' : State) : Type 0 where
  sizes : s'.sizes ≡ s.sizes
  cells : length s'.cells ≡ length s.cells
  pool : length s'.pool ≡ length s.pool
  serials : length s'.serials ≡ length s.serials

module _ (s : State) where
  unchanged : Shaped s s
  unchanged = record { sizes = refl; cells = refl; pool = refl; serials = refl }

  shaped_cell : (l n : ℕ) (c : Cell) → Shaped s (with_cell s l n c)
  unfolding with_cell
  shaped_cell l n c = record { sizes = refl; cells = simp length-set; pool = refl; serials = refl }

  shaped_slot : (i : ℕ) (m : Message) → Shaped s (with_slot s i m)
  unfolding with_slot
  shaped_slot i m = record { sizes = refl; cells = refl; pool = simp length-set; serials = refl }

  shaped_both : (l n : ℕ) (c : Cell) (i : ℕ) (m : Message) → Shaped s (with_slot (with_cell s l n c) i m)
  unfolding with_slot with_cell
  shaped_both l n c i m = record { sizes = refl; cells = simp length-set; pool = simp length-set; serials = refl }

  shaped_deliver : (e : Event) → Shaped s (deliver_of s e).state
  shaped_deliver e =
      let h = delivers s e in
      let m = slot_at s e.amount in
      subst (Shaped s) h.state (shaped_both m.line m.destination h.cell e.amount h.reply)

  shaped_recreate : (e : Event) → Shaped s (recreate_of s e).state
  unfolding recreate_of with_serial
  shaped_recreate e =
      record { sizes = refl; cells = length_fill _ (renewing s e) s.cells zero_cell 9; pool = refl; serials = simp length-set }

  shaped_effect : (e : Event) (k : ℕ) → Shaped s (effect s e k).state
  unfolding effect read_of write_of send_of want_of
  shaped_effect e k =
      let P : Stepped → Type 0 = λ r. Shaped s r.state in
      by_pick P (reading k) (λ _. unchanged)
      (λ _. by_pick P (writing k) (λ _. shaped_cell _ _ _)
      (λ _. by_pick P (sending k) (λ _. shaped_both _ _ _ _ _)
      (λ _. by_pick P (delivering k) (λ _. shaped_deliver e)
      (λ _. by_pick P (dropping k) (λ _. shaped_slot _ _)
      (λ _. by_pick P (wanting_read k) (λ _. shaped_cell _ _ _)
      (λ _. by_pick P (wanting_write k) (λ _. shaped_cell _ _ _)
      (λ _. shaped_recreate e)))))))

  shaped : (e : Event) → Shaped s (step_of s e).state
  unfolding step_of
  shaped e =
      by_pick (λ (r : Stepped). Shaped s r.state) (eqb (refusal s e) 0) (λ _. shaped_effect e e.kind) (λ _. unchanged)

  pub step_keeps_sizes : (e : Event) → (step_of s e).state.sizes ≡ s.sizes
  step_keeps_sizes e = (shaped e).sizes

  pub step_keeps_sized : Sized s → (e : Event) → Sized (step_of s e).state
  step_keeps_sized z e =
      let h = shaped e in
      record { cells = h.cells ∙ z.cells; pool = h.pool ∙ z.pool; serials = h.serials ∙ z.serials }
