-- The number of an answer: 0 where no number refuses the event, and then the event has its effect. Assumes nothing.
use Prim.Native.Nat.{ℕ, ◌≤◌}
use mathlib.Core.Bool.{true, false}
use mathlib.Core.Path.{◌≡◌, refl, sym, ◌∙◌}
use borrow.Author.Tests.{eqb-true, eq-eqb}
use lib.Dec.{eqb}
use Rattle.rules.specs.Types.{State, Event, Stepped}
use Rattle.rules.specs.Refusals.{timeout, refusal, reading, writing, sending, delivering, dropping, wanting_read, wanting_write}
use Rattle.rules.specs.Effects.{answered, read_of, write_of, send_of, want_of, recreate_of, effect, step_of}
use Rattle.rules.proofs.Laws.Bools.{clash, split, by_pick}
use Rattle.rules.proofs.Keeps.Accepted.{Timeout, accepted, by_kind, kind_small, times}
use Rattle.rules.proofs.Keeps.Arrivals.{delivers}

effect_number : (s : State) (e : Event) (k : ℕ) → (effect s e k).answer.number ≡ 0
unfolding effect read_of write_of send_of want_of recreate_of
effect_number s e k =
    let P : Stepped → Type 0 = λ r. r.answer.number ≡ 0 in
    by_pick P (reading k) (λ _. refl)
    (λ _. by_pick P (writing k) (λ _. refl)
    (λ _. by_pick P (sending k) (λ _. refl)
    (λ _. by_pick P (delivering k) (λ _. (delivers s e).number)
    (λ _. by_pick P (dropping k) (λ _. refl)
    (λ _. by_pick P (wanting_read k) (λ _. refl)
    (λ _. by_pick P (wanting_write k) (λ _. refl) (λ _. refl)))))))

-- the number that a step gives back is the table's
pub step_number : (s : State) (e : Event) → (step_of s e).answer.number ≡ refusal s e
unfolding step_of
step_number s e =
    split (eqb (refusal s e) 0) (λ t. rw t (effect_number s e e.kind ∙ sym (eqb-true (refusal s e) 0 t))) (λ f. rw f)

-- with 0 the event has its effect
pub step_effect : (s : State) (e : Event) → refusal s e ≡ 0 → step_of s e ≡ effect s e e.kind
unfolding step_of
step_effect s e h = rw (eq-eqb (refusal s e) 0 h)

-- with another number nothing changes
pub step_refused : (s : State) (e : Event) → eqb (refusal s e) 0 ≡ false → step_of s e ≡ answered s (refusal s e) 0 64
unfolding step_of
step_refused s e h = rw h

-- an accepted timeout recreates the line's tokens
pub timeout_effect : (s : State) (e : Event) (k : ℕ) → k ≤ 9 → timeout k ≡ true → effect s e k ≡ recreate_of s e
unfolding effect
timeout_effect s e k h =
    by_kind (λ k. timeout k ≡ true → effect s e k ≡ recreate_of s e) (λ t. clash t refl) (λ t. clash t refl) (λ t. clash t refl)
    (λ t. clash t refl)
    (λ t. clash t refl)
    (λ t. clash t refl)
    (λ t. clash t refl)
    (λ _. refl)
    (λ _. refl)
    (λ _. refl)
    k
    h

pub recreates : (s : State) (e : Event) → timeout e.kind ≡ true → refusal s e ≡ 0 → Timeout s e × (step_of s e ≡ recreate_of s e)
recreates s e t h =
    let c = accepted s e h in
    (times s e e.kind t c, step_effect s e h ∙ timeout_effect s e e.kind (kind_small s e e.kind c) t)
