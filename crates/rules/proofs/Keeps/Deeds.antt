-- What an accepted event does, of six sorts: theorems go by these, and a kind that does one of them adds no case to them. Assumes nothing.
use Prim.Native.Nat.{ℕ, ◌<◌}
use mathlib.Core.Path.{◌≡◌, refl, sym, subst}
use mathlib.Core.Bool.{true, false}
use Rattle.rules.specs.Types.{Want, Read, Write, State, Event, Stepped}
use Rattle.rules.specs.Cells.{able_to_write}
use Rattle.rules.specs.Refusals.{writing, slotted, cell_of, free_at, table_of, refusal}
use Rattle.rules.specs.Effects.{read_of, write_of, send_of, want_of, recreate_of, effect, step_of}
use Rattle.rules.proofs.Laws.Rows.{Clear}
use Rattle.rules.proofs.Keeps.Accepted.{accepted, by_kind, kind_small, Cached, Sends, Timeout, caches, times, slots, writes, sends}
use Rattle.rules.proofs.Keeps.Arrivals.{Landed, empties, delivers}
use Rattle.rules.proofs.Keeps.Numbers.{step_effect}

-- an accepted event e of kind k takes the state s to another: nothing changes; a write; a want; a send; what a slot holds arrives or is
-- dropped; a line is recreated. Only a write changes what was last written.
pub data Deed (s : State) (e : Event) (k : ℕ) : State → Type 0 where
  quiet : writing k ≡ false → Deed s e k s
  write : writing k ≡ true → Cached s e → able_to_write s.sizes.total.0 (cell_of s e) ≡ true → Deed s e k (write_of s e).state
  want : writing k ≡ false → (x : Want) → Cached s e → Deed s e k (want_of s e x).state
  send : writing k ≡ false → Sends s e → Deed s e k (send_of s e).state
  land : writing k ≡ false → slotted k ≡ true → e.amount < 64 → free_at s e.amount ≡ false → {r : Stepped} → Landed s e.amount r
      → Deed s e k r.state
  renew : writing k ≡ false → Timeout s e → Deed s e k (recreate_of s e).state

module _ (s : State) (e : Event) where
  slot_deed : (k : ℕ) → writing k ≡ false → slotted k ≡ true → Clear (table_of s e k) → {r : Stepped} → Landed s e.amount r → Deed s e k r.state
  slot_deed k f q c l = let n = slots s e k q c in land f q n.0 n.1 l

  -- the one split by kind
  deed : (k : ℕ) → Clear (table_of s e k) → Deed s e k (effect s e k).state
  unfolding effect read_of
  deed k c =
      by_kind (λ k. Clear (table_of s e k) → Deed s e k (effect s e k).state)
      (λ c. quiet refl)
      (λ c. write refl (caches s e 1 refl refl c) (writes s e c))
      (λ c. send refl (sends s e c))
      (λ c. slot_deed 3 refl refl c (delivers s e))
      (λ c. slot_deed 4 refl refl c (empties s e.amount))
      (λ c. want refl Read (caches s e 5 refl refl c))
      (λ c. want refl Write (caches s e 6 refl refl c))
      (λ c. renew refl (times s e 7 refl c))
      (λ c. renew refl (times s e 8 refl c))
      (λ c. renew refl (times s e 9 refl c))
      k
      (kind_small s e k c)
      c

  pub step_deed : refusal s e ≡ 0 → Deed s e e.kind (step_of s e).state
  step_deed a =
      subst (λ (r : Stepped). Deed s e e.kind r.state) (sym (step_effect s e a)) (deed e.kind (accepted s e a))
