-- Every run from an accepted start keeps the invariant, and answers its events one by one. Assumes nothing.
use Prim.Native.Nat.{ℕ, zero, suc, ◌<◌}
use mathlib.Core.Path.{◌≡◌, refl, sym, subst, ◌∙◌}
use mathlib.Core.Logic.{◌≢◌}
use mathlib.Core.Bool.{true, false, cond as pick}
use mathlib.Core.List.{List, [], ◌∷◌, ◌++◌}
use native.Mathlib.Omega.{arith}
use lib.ListN.{length, get_or}
use Rattle.coherence.specs.Types.{State, Event, Answer}
use Rattle.coherence.specs.Histories.{after, answers, wrote, last_write_after, last_write}
use Rattle.rules.specs.States.{cell_at}
use Rattle.rules.specs.WellFormed.{sizes_fine}
use Rattle.rules.specs.Fresh.{sizes, fresh, start_of}
use Rattle.rules.specs.Refusals.{nothing_left}
use Rattle.rules.specs.Effects.{answer, step_of}
use Rattle.rules.specs.Runs.{run_of, answers_of}
use Rattle.rules.proofs.Laws.Bools.{split}
use Rattle.rules.proofs.Laws.Views.{Sized}
use Rattle.rules.proofs.Keeps.Well.{Well}
use Rattle.rules.proofs.Keeps.Numbers.{step_number}
use Rattle.rules.proofs.Keeps.Shapes.{step_keeps_sizes, step_keeps_sized}
use Rattle.rules.proofs.Keeps.Steps.{step_keeps_well}
use Rattle.rules.proofs.Keeps.Starts.{sole, fresh_sized, fresh_well}
use Rattle.coherence.proofs.Invariant.{Held, kept_sole}
use Rattle.coherence.proofs.Recreations.{something_left}
use Rattle.coherence.proofs.Copies.{not_18}
use Rattle.coherence.proofs.Steps.{step_held}

-- what a run keeps: the sizes, the lists' lengths, well formed, and the invariant with the last words W
pub record Good (c l n : ℕ) (s : State) (W : ℕ → ℕ) : Type 0 where
  pub same : s.sizes ≡ sizes c l n
  pub sized : Sized s
  pub well : Well s
  pub held : Held s W

step_good : {c l n : ℕ} {s : State} {W : ℕ → ℕ} → Good c l n s W → (e : Event)
    → Good c l n (step_of s e).state (λ k. pick (wrote e (step_of s e).answer k) e.word (W k))
step_good {s = s} {W = W} g e =
    record {
      same = step_keeps_sizes s e ∙ g.same;
      sized = step_keeps_sized s g.sized e;
      well = step_keeps_well g.sized g.well e;
      held = step_held g.sized g.well W g.held e;
    }

run_good : {c l n : ℕ} (es : List Event) {s : State} {W : ℕ → ℕ} → Good c l n s W
    → Good c l n (run_of s es) (λ k. last_write_after k es (answers_of s es) (W k))
unfolding run_of answers_of last_write_after
run_good [] g = g
run_good (e ∷ es) g = run_good es (step_good g e)

-- each line has an owner, a valid cell or a backup, and no event of a run is refused with 18
lines_left : {c l n : ℕ} {s : State} {W : ℕ → ℕ} → Good c l n s W → (line : ℕ) → line < s.sizes.lines
    → nothing_left (cell_at s line) ≡ false
unfolding Held
lines_left {s = s} g line h = something_left s line (g.held line h).tally

run_not_18 : {c l n : ℕ} (es : List Event) {s : State} {W : ℕ → ℕ} → Good c l n s W → (i : ℕ)
    → (get_or (answers_of s es) i (answer 0 0 64)).number ≢ 18
unfolding answers_of
run_not_18 [] g i = omega arith
run_not_18 (e ∷ es) {s} g zero = λ h. not_18 s e (lines_left g e.line) (sym (step_number s e) ∙ h)
run_not_18 (e ∷ es) g (suc i) = run_not_18 es (step_good g e) i

-- a fresh state is kept with the word 0
fresh_good : (c l n : ℕ) → sizes_fine (sizes c l n) ≡ true → Good c l n (fresh c l n) (λ _. 0)
unfolding fresh Held
fresh_good c l n f =
    record {
      same = refl;
      sized = fresh_sized c l n f;
      well = fresh_well c l n f;
      held = λ k hk. kept_sole 0 (sole c l n f k hk) refl refl refl refl refl;
    }

-- a start that answers 0 is of sizes in range, and its state is the fresh one
start_fresh : (c l n : ℕ) → (start_of c l n).answer.number ≡ 0
    → (sizes_fine (sizes c l n) ≡ true) × ((start_of c l n).state ≡ fresh c l n)
unfolding start_of
start_fresh c l n h =
    split (sizes_fine (sizes c l n)) (λ t. (t, rw t)) (λ f. let z : ◌≡◌ {A = ℕ} 19 0 = rw f at h in absurd (omega arith))

start_good : (c l n : ℕ) → (start_of c l n).answer.number ≡ 0 → Good c l n (start_of c l n).state (λ _. 0)
start_good c l n begun =
    let f = start_fresh c l n begun in
    subst (λ s. Good c l n s (λ _. 0)) (sym f.1) (fresh_good c l n f.0)

-- every run from a start that answers 0
module _ (c l n : ℕ) (begun : (start_of c l n).answer.number ≡ 0) (es : List Event) where
  pub good : Good c l n (after c l n es) (λ k. last_write es (answers c l n es) k)
  unfolding last_write
  good = run_good es (start_good c l n begun)

  pub line_left : (line : ℕ) → line < l → nothing_left (cell_at (after c l n es) line) ≡ false
  line_left line h = lines_left good line (rw good.same h)

  pub never_18 : (i : ℕ) → (get_or (answers c l n es) i (answer 0 0 64)).number ≢ 18
  never_18 i = run_not_18 es (start_good c l n begun) i

-- the answer to an event is that of a step from the state that the events before it lead to
pub answer_at_lem : (before : List Event) (s : State) (e : Event) (rest : List Event) (a : Answer)
    → get_or (answers_of s (before ++ (e ∷ rest))) (length before) a ≡ (step_of (run_of s before) e).answer
unfolding answers_of run_of
answer_at_lem [] s e rest a = refl
answer_at_lem (b ∷ before) s e rest a = answer_at_lem before (step_of s b).state e rest a

-- the last write of the events before does not look at later answers
pub last_before : (line : ℕ) (before : List Event) (s : State) (rest : List Event) (w : ℕ)
    → last_write_after line before (answers_of s (before ++ rest)) w ≡ last_write_after line before (answers_of s before) w
unfolding answers_of last_write_after
last_before line [] s rest w = refl
last_before line (b ∷ before) s rest w =
    last_before line before (step_of s b).state rest (pick (wrote b (step_of s b).answer line) b.word w)
