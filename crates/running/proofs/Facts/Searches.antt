-- What a search finds depends on what it looks at alone. Assumes nothing.
use Prim.Native.Nat.{ℕ, zero, suc, ◌+◌, ◌*◌, ◌<◌}
use mathlib.Core.Bool.{Bool, true, false, not, ◌&&◌, or-true, cond as pick}
use mathlib.Core.Path.{◌≡◌, refl, sym, ap, ap₂, ◌∙◌}
use mathlib.Core.List.{List}
use native.Mathlib.Omega.{arith}
use lib.Dec.{eqb, ltb}
use lib.ListN.{get_or, set}
use native.Mathlib.Decide.{ℕ_discrete}
use borrow.Author.Tests.{ltb-true, ltb-false, eq-eqb, ne_eqb}
use Rattle.running.specs.Types.{Cell, MessageKind, Free, Tokens, OwnershipAck, DeletionAck, State, Event}
use Rattle.rules.specs.Tools.{first_to, fill_to}
use Rattle.rules.specs.States.{slot_at, is_free, bears}
use Rattle.rules.specs.WellFormed.{well_formed}
use Rattle.rules.specs.Refusals.{free_at, lowest, copyless, backupless, lowest_free, unborne}
use Rattle.rules.specs.Effects.{word_for, recreated_line}
use Rattle.numbers.specs.Tags.{tag_of, Tagged, first_untagged, absent}
use Rattle.numbers.specs.Rows.{slot_sight, slot_refusal}
use Rattle.rules.specs.Refusals.{table, given}
use Rattle.rules.proofs.Laws.Bools.{split}
use Rattle.rules.proofs.Keeps.Well.{well_address}
use Rattle.rules.proofs.Facts.Loops.{all_same}

pub first_same : (k : ℕ) {p q : ℕ → Bool} → ((i : ℕ) → i < k → p i ≡ q i) → first_to k p ≡ first_to k q
unfolding first_to
first_same zero h = refl
first_same (suc k) {p} {q} h = ap₂ (λ b n. pick b 0 (suc n)) (h 0 (omega arith)) (first_same k (λ i l. h (suc i) (omega arith)))

pub fill_same : {A : Type 0} (k at : ℕ) {f g : ℕ → A} (l : List A) → ((i : ℕ) → i < k → f i ≡ g i) → fill_to k at f l ≡ fill_to k at g l
unfolding fill_to
fill_same zero at l h = refl
fill_same (suc k) at l h = ap₂ (λ cs x. set cs (at + k) x) (fill_same k at l (λ i b. h i (omega arith))) (h k (omega arith))

-- a tag tells of a free slot
tag_free : (k : MessageKind) (line q : ℕ) → eqb (tag_of k line q) 0 ≡ is_free k
tag_free Free line q = refl
tag_free Tokens line q = ne_eqb (line * 256 + q + 1) 0 (λ z. omega arith)
tag_free OwnershipAck line q = ne_eqb (line * 256 + q + 1) 0 (λ z. omega arith)
tag_free DeletionAck line q = ne_eqb (line * 256 + q + 1) 0 (λ z. omega arith)

-- and of the line and the serial
same_tag : (a b line q : ℕ) → b < 256 → q < 256 → eqb (a * 256 + b + 1) (line * 256 + q + 1) ≡ eqb a line && eqb b q
same_tag a b line q hb hq =
    elim (ℕ_discrete a line) [
      | yes h ↦
          elim (ℕ_discrete b q) [
            | yes g ↦ rw (eq-eqb a line h, eq-eqb b q g) (eq-eqb (a * 256 + b + 1) (line * 256 + q + 1) (omega arith))
            | no d ↦ rw (eq-eqb a line h, ne_eqb b q d) (ne_eqb (a * 256 + b + 1) (line * 256 + q + 1) (λ z. d (omega arith)))
          ]
      | no d ↦ rw (ne_eqb a line d) (ne_eqb (a * 256 + b + 1) (line * 256 + q + 1) (λ z. d (omega arith)))
    ]

tag_bears : (k : MessageKind) (a b line q : ℕ) → (is_free k ≡ false → b < 256) → q < 256
    → eqb (tag_of k a b) (tag_of Tokens line q) ≡ not (is_free k) && eqb a line && eqb b q
tag_bears Free a b line q hb hq = ne_eqb 0 (line * 256 + q + 1) (λ z. omega arith)
tag_bears Tokens a b line q hb hq = same_tag a b line q (hb refl) hq
tag_bears OwnershipAck a b line q hb hq = same_tag a b line q (hb refl) hq
tag_bears DeletionAck a b line q hb hq = same_tag a b line q (hb refl) hq

module _ {tags : List ℕ} (t : State) (tagged : Tagged tags t.pool) where
  free_at_lem : (i : ℕ) → i < 64 → eqb (get_or tags i 0) 0 ≡ free_at t i
  unfolding slot_at
  free_at_lem i l = ap (λ n. eqb n 0) (tagged.each i l) ∙ tag_free (slot_at t i).kind (slot_at t i).line (slot_at t i).serial.0

  -- the lowest free slot
  pub free_found : first_untagged tags ≡ lowest_free t
  unfolding first_untagged lowest_free
  free_found = first_same 64 free_at_lem

  -- number 6
  pub slot_refusal_lem : (e : Event) → slot_refusal tags e ≡ given (table (slot_sight (free_at t e.amount)) e 3)
  unfolding slot_refusal table given
  slot_refusal_lem e = split (ltb 63 e.amount) (λ y. rw y) (λ n. rw (n, free_at_lem e.amount (omega (arith, ltb-false 63 e.amount n))))

  pub slot_busy : (e : Event) → slot_refusal tags e ≡ 0 → free_at t e.amount ≡ false
  unfolding table given
  slot_busy e h =
      split (free_at t e.amount)
      (λ y. absurd (let g : given (table (slot_sight (free_at t e.amount)) e 3) ≡ 0 = sym (slot_refusal_lem e) ∙ h in omega (arith, rw (y, or-true) at g)))
      (λ n. n)

  -- number 17: no slot has the tag of the line with the serial
  pub absent_is : well_formed t ≡ true → (line q : ℕ) → q < 256 → absent tags (tag_of Tokens line q) ≡ unborne t line q
  unfolding absent unborne bears slot_at
  absent_is w line q small =
      all_same 64
      (λ i l.
      ap not
      (ap (λ n. eqb n (tag_of Tokens line q)) (tagged.each i l)
      ∙ tag_bears (slot_at t i).kind (slot_at t i).line (slot_at t i).serial.0 line q (λ f. let ad = well_address t w i l f in omega arith) small))

pub slot_near : (tags : List ℕ) (e : Event) → 0 ≡ slot_refusal tags e → e.amount < 64
unfolding slot_refusal table given
slot_near tags e h =
    split (ltb 63 e.amount) (λ y. absurd (let z : 0 ≡ 6 = rw y at h in omega arith)) (λ f. omega (arith, ltb-false 63 e.amount f))

-- two views of a line's nine cells that agree
module _ {f g : ℕ → Cell} (same : (n : ℕ) → n < 9 → f n ≡ g n) where
  lowest_same : (mark : Cell → Bool) → lowest f mark ≡ lowest g mark
  unfolding lowest
  lowest_same mark = first_same 9 (λ n l. ap mark (same n l))

  pub copyless_same : copyless f ≡ copyless g
  unfolding copyless
  copyless_same = rw (lowest_same (λ c. c.owner), lowest_same (λ c. c.valid))

  pub backupless_same : backupless f ≡ backupless g
  unfolding backupless
  backupless_same = rw (lowest_same (λ c. c.backup))

  found : (o : ℕ) (pr : Cell → ℕ) {x y : ℕ} → x ≡ y → pick (ltb o 9) (pr (f o)) x ≡ pick (ltb o 9) (pr (g o)) y
  found o pr h = split (ltb o 9) (λ t. rw t (ap pr (same o (ltb-true o 9 t)))) (λ n. rw n h)

  pub word_same : (x : Cell) → word_for x f ≡ word_for x g
  unfolding word_for
  word_same x =
      rw (lowest_same (λ c. c.owner), lowest_same (λ c. c.valid))
      (found (lowest g (λ c. c.owner)) (λ c. c.word) (found (lowest g (λ c. c.valid)) (λ c. c.word) refl))

  pub after_same : (n node : ℕ) → node < 9 → (j : ℕ) → j < 9 → recreated_line n node f j ≡ recreated_line n node g j
  after_same n node h j l = rw (same node h, word_same (g node), same j l)
