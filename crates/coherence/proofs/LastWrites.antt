-- An accepted read answers the word of the last accepted write before it. Assumes nothing.
use Prim.Native.Nat.{ℕ}
use mathlib.Core.Path.{◌≡◌, refl, sym, ap, subst, ◌∙◌}
use mathlib.Core.Bool.{true}
use mathlib.Core.List.{List, ◌∷◌, ◌++◌}
use native.Mathlib.Omega.{arith}
use borrow.Author.Tests.{eqb-true}
use lib.ListN.{length, get_or}
use Rattle.coherence.specs.Types.{State, Event, Answer, Stepped}
use Rattle.coherence.specs.Histories.{after, answers, last_write}
use Rattle.rules.specs.Fresh.{start_of}
use Rattle.rules.specs.Refusals.{reading, cell_of, table_of, refusal}
use Rattle.rules.specs.Effects.{answer, read_of, effect, step_of}
use Rattle.rules.proofs.Keeps.Cells.{able_read}
use Rattle.rules.proofs.Keeps.Well.{Well, place}
use Rattle.rules.proofs.Laws.Rows.{Clear}
use Rattle.rules.proofs.Keeps.Accepted.{accepted, caches, reads}
use Rattle.rules.proofs.Keeps.Numbers.{step_number, step_effect}
use Rattle.coherence.proofs.Invariant.{Held}
use Rattle.coherence.proofs.Runs.{good, answer_at_lem, last_before}

-- a read that is not refused answers the last word
read_effect : (s : State) (W : ℕ → ℕ) → Well s → Held s W → (e : Event) → Clear (table_of s e 0)
    → (effect s e 0).answer.word ≡ W e.line
unfolding effect read_of Held
read_effect s W w h e c =
    let n = (caches s e 0 refl refl c).named in
    let p = place w {i = 0} n.line n.node (omega arith) in
    (h e.line n.line).words e.node p.node9 (able_read (cell_of s e) (reads s e c))

read_word : (s : State) (W : ℕ → ℕ) → Well s → Held s W → (e : Event) → reading e.kind ≡ true → refusal s e ≡ 0
    → (step_of s e).answer.word ≡ W e.line
read_word s W w h e k a =
    let k0 = eqb-true e.kind 0 k in
    ap (λ (r : Stepped). r.answer.word) (step_effect s e a ∙ ap (effect s e) k0)
    ∙ read_effect s W w h e (subst (λ q. Clear (table_of s e q)) k0 (accepted s e a))

-- among the answers to the whole list
pub read_at : (c l n : ℕ) → (start_of c l n).answer.number ≡ 0 → (before : List Event) (e : Event) (rest : List Event)
    → reading e.kind ≡ true
    → (get_or (answers c l n (before ++ (e ∷ rest))) (length before) (answer 0 0 64)).number ≡ 0
    → (get_or (answers c l n (before ++ (e ∷ rest))) (length before) (answer 0 0 64)).word
    ≡ last_write before (answers c l n (before ++ (e ∷ rest))) e.line
unfolding last_write
read_at c l n begun before e rest k h =
    let s = after c l n before in
    let g = good c l n begun before in
    let a = answer_at_lem before (start_of c l n).state e rest (answer 0 0 64) in
    ap (λ (x : Answer). x.word) a
    ∙ read_word s (λ j. last_write before (answers c l n before) j) g.well g.held e k
    (sym (step_number s e) ∙ sym (ap (λ (x : Answer). x.number) a) ∙ h)
    ∙ sym (last_before e.line before (start_of c l n).state (e ∷ rest) 0)
