-- The rows of the table, where no function asks them: a test turned round, a kind with no row of its own, a slot beyond the list. Assumes nothing.
use Rattle.std.proofs.Common.{ℕ, ◌≡◌, ◌≤◌, Bool, true, false, not, ◌||◌, cond as pick, refl, List, lt-ltb, ne_eqb}
use Rattle.numbers.specs.Types.{Cell, Event}
use Rattle.rules.specs.Refusals.{given, table}
use Rattle.numbers.specs.Rows.{before, from, slot_refusal, own_refusal}

-- a test turned round, also where it is joined to one that fails; one that is joined to tests that fail
turn_or : (b : Bool) (n : ℕ) → pick b 0 n ≡ pick (not b || false) n 0
turn_or true n = refl
turn_or false n = refl

turn_round : (b : Bool) (n : ℕ) → pick b 0 n ≡ pick (not b) n 0
turn_round true n = refl
turn_round false n = refl

turn_both : (i : Bool) (n m : ℕ) → pick i n m ≡ pick (not i) m n
turn_both true n m = refl
turn_both false n m = refl

or_nothing : (b : Bool) (n : ℕ) → pick b n 0 ≡ pick (b || false || false) n 0
or_nothing true n = refl
or_nothing false n = refl

turn_want : (i a : Bool) (n m : ℕ) → pick i (pick a n 0) m ≡ pick (not i) m (pick (a || false) n 0)
turn_want true true n m = refl
turn_want true false n m = refl
turn_want false a n m = refl

-- the other kinds, those above 9 too
pub own_none : (k n : ℕ) (x : Cell) → (k ≡ 0 → ⊥) → (k ≡ 1 → ⊥) → (k ≡ 5 → ⊥) → (k ≡ 6 → ⊥) → (k ≡ 7 → ⊥) → (k ≡ 8 → ⊥) → (k ≡ 9 → ⊥) → 0 ≡ own_refusal k n x
unfolding own_refusal from before table given
own_none k n x a b c d f g h =
    rw (ne_eqb k 0 a, ne_eqb k 1 b, ne_eqb k 5 c, ne_eqb k 6 d, ne_eqb k 7 f, ne_eqb k 8 g, ne_eqb k 9 h)

-- number 6, of a slot beyond
pub slot_beyond : (tags : List ℕ) (e : Event) → 64 ≤ e.amount → 6 ≡ slot_refusal tags e
unfolding slot_refusal table given
slot_beyond tags e h = rw (lt-ltb 63 e.amount h)
