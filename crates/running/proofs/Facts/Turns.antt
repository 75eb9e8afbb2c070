-- A turn: what a method of the run leaves is what the step of the event leaves. Assumes nothing.
use Prim.Native.Nat.{ℕ, ◌<◌}
use mathlib.Core.Bool.{true}
use mathlib.Core.Path.{◌≡◌, sym, ap, ◌∙◌}
use mathlib.Core.List.{List}
use native.Mathlib.Omega.{arith}
use native.Mathlib.Decide.{ℕ_discrete}
use lib.ListN.{length, set}
use lib.Seq.{get_or-set_same, get_or-set_other}
use mathlib.Core.Logic.{◌≢◌}
use borrow.Author.Tests.{ne_eqb}
use Rattle.rules.specs.declared.refusals.Refusal.{Refusal}
use Rattle.running.specs.declared.steps.Run.{Run}
use Rattle.running.specs.Types.{Message, State, Event, Answer, Stepped}
use Rattle.rules.specs.States.{free_message}
use Rattle.rules.specs.Kinds.{number_of}
use Rattle.rules.specs.WellFormed.{well_formed}
use Rattle.rules.specs.Refusals.{refusal}
use Rattle.rules.specs.Effects.{answer, step_of}
use Rattle.numbers.specs.Tags.{slot_tag, Tagged}
use Rattle.running.specs.Steps.{said, stepped}
use Rattle.std.specs.Prelude.{Result, Ok, Err, IsErrAnd}
use Rattle.rules.proofs.Laws.Views.{Sized}
use Rattle.rules.proofs.Keeps.Numbers.{step_refused}
use Rattle.rules.proofs.Keeps.Steps.{step_keeps_well_formed}

-- the tags of the slots, after one is replaced
pub tag_set : {tags : List ℕ} {pool : List Message} (i : ℕ) {tag : ℕ} (m : Message) → Tagged tags pool → length tags ≡ 64 → length pool ≡ 64 → i < 64
    → tag ≡ slot_tag m → Tagged (set tags i tag) (set pool i m)
tag_set {tags} {pool} i {tag} m h lt lp l e =
    record {
      each = λ j b.
          elim (ℕ_discrete j i) [
            | yes q ↦ rw (q, get_or-set_same tags i tag 0 (omega arith), get_or-set_same pool i m free_message (omega arith)) e
            | no d ↦ rw (get_or-set_other tags i j tag 0 d, get_or-set_other pool i j m free_message d) (h.each j b)
          ];
    }

-- what a run holds between two events
pub record Held (t : State) (tags : List ℕ) : Type 0 where
  pub sized : Sized t
  pub well : well_formed t ≡ true
  pub tagged : Tagged tags t.pool
  pub slots : length tags ≡ 64

pub held : (r : Run) → (length r.state.cells ≡ 144) × (length r.state.pool ≡ 64) × (length r.state.serials ≡ 16) × (length r.tags ≡ 64) → Held r.state r.tags
held r n = record { sized = record { cells = n.0; pool = n.1; serials = n.2 }; well = r.well; tagged = r.tagged; slots = n.3 }

-- what an accepted event leaves
pub record Taken (t : State) (e : Event) (u : State) (a : Answer) (tags : List ℕ) : Type 0 where
  pub step : step_of t e ≡ stepped u a
  pub well : well_formed u ≡ true
  pub tagged : Tagged tags u.pool

pub taken : {t : State} {old : List ℕ} → Held t old → (e : Event) {u : State} {a : Answer} {tags : List ℕ} → step_of t e ≡ stepped u a → Tagged tags u.pool → Taken t e u a tags
taken {t} h e {u} d m =
    record { step = d; well = ap (λ s. well_formed s.state) (sym d) ∙ step_keeps_well_formed t h.sized h.well e; tagged = m }

-- no reason has the number 0
pub number_some : (why : Refusal) → number_of why ≢ 0
number_some why h = grind arith

-- a refusal leaves all as it was
pub refused_turn : (t : State) (e : Event) {n : ℕ} → refusal t e ≡ n → n ≢ 0 → step_of t e ≡ stepped t (answer n 0 64)
refused_turn t e {n} h d = step_refused t e (rw h (ne_eqb n 0 d)) ∙ rw h

pub refused : (t : State) (e : Event) (why : Refusal) → refusal t e ≡ number_of why → step_of t e ≡ stepped t (answer (number_of why) 0 64)
refused t e why h = refused_turn t e h (number_some why)

-- what a `?` gives back
pub told : (r : Result Answer Refusal) (why : Refusal) {t : State} {u : Stepped} → IsErrAnd r (λ given. given ≡ why) → u ≡ stepped t (answer (number_of why) 0 64) → u ≡ stepped t (said r)
told (Ok a) why {t} h g = absurd h
told (Err given) why {t} h g = g ∙ ap (λ why. stepped t (answer (number_of why) 0 64)) (sym h)
