-- A cell able to write stands alone, and a write makes its word the line's last. Assumes nothing.
use Prim.Native.Nat.{ℕ, ◌+◌, ◌≤◌, ◌<◌}
use mathlib.Core.Path.{◌≡◌, refl, sym, ap, subst, ◌∙◌}
use mathlib.Core.Logic.{◌≢◌}
use mathlib.Core.Bool.{true, cond as pick}
use native.Mathlib.Omega.{arith}
use native.Mathlib.Decide.{ℕ_discrete}
use borrow.Author.Tests.{eq-eqb, ne_eqb}
use lib.Dec.{eqb}
use Rattle.coherence.specs.Types.{State, Event}
use Rattle.rules.specs.States.{cell_at, slot_at, serial_at, with_cell}
use Rattle.rules.specs.WellFormed.{counted, in_cells, in_messages, held, borne, tokens_of}
use Rattle.rules.specs.Cells.{able_to_write, written}
use Rattle.rules.specs.Refusals.{cell_of}
use Rattle.rules.specs.Effects.{write_of}
use Rattle.rules.proofs.Laws.Bools.{bit_of}
use Rattle.rules.proofs.Laws.Sums.{sum_le, sum_two}
use Rattle.rules.proofs.Laws.Views.{Sized, lines_of, kept_slot}
use Rattle.rules.proofs.Laws.Bears.{alike, counts, counted_mono, cell_share, message_share}
use Rattle.rules.proofs.Keeps.Cells.{Able, able_write}
use Rattle.rules.proofs.Keeps.Messages.{tokened}
use Rattle.rules.proofs.Keeps.Well.{Well, place, marks, slot_sort}
use Rattle.rules.proofs.Keeps.Accepted.{Cached}
use Rattle.rules.proofs.Keeps.Changes.{cell_change}
use Rattle.coherence.proofs.Invariant.{passed, Has, Carries, Kept, Held}
use Rattle.coherence.proofs.Changes.{kept_other, moved}

module _ {s : State} (w : Well s) (l n : ℕ) (hl : l < s.sizes.lines) (hn : n ≤ s.sizes.caches) (able : Able s.sizes.total.0 (cell_at s l n)) where
  -- its tokens are all there are
  whole : in_cells s l held + in_messages s l borne ≤ s.sizes.total.0
  unfolding tokens_of
  whole = w.sums l (place w {i = 0} hl hn (omega arith)).line16

  -- every other cell of the line has none
  pub alone : (j : ℕ) → j < 9 → j ≢ n → held (cell_at s l j) ≡ 0
  unfolding in_cells
  alone j hj d =
      let p = place w {i = 0} hl hn (omega arith) in
      omega (arith, whole, able.all, sum_two 9 (λ i. held (cell_at s l i)) j n hj p.node9 d)

  -- owner marks in messages need tokens
  owners_tokens : in_messages s l passed ≤ in_messages s l borne
  unfolding in_messages
  owners_tokens =
      sum_le 64 (λ i. counted l (serial_at s l) passed (slot_at s i)) (λ i. counted l (serial_at s l) borne (slot_at s i))
      (λ i hi. counted_mono l (serial_at s l) passed borne (slot_at s i) (tokened (slot_sort w i hi)).owner)

  -- no message carries data
  idle : (y i : ℕ) → i < 64 → Carries l (serial_at s l) y (slot_at s i)
  idle y i hi b f =
      let p = place w {i = 0} hl hn (omega arith) in
      absurd
      (omega (
        arith,
        whole,
        able.all,
        cell_share s l n held p.node9,
        message_share s l i borne hi,
        counts l (serial_at s l) borne (slot_at s i) b,
        (tokened (slot_sort w i hi)).full,
        bit_of (slot_at s i).full f,
      ))

  write_kept : Sized s → (x : ℕ) → Kept s l x → (y : ℕ) → Kept (with_cell s l n (written y (cell_at s l n))) l y
  write_kept z x k y =
      let c = written y (cell_at s l n) in
      let ch = cell_change z w hl hn c in
      let p = ch.place in
      let mv = moved ch in
      let r = k.tally in
      let all = whole in
      let o = owners_tokens in
      let mine = cell_share s l n held p.node9 in
      let a = able.all in
      record {
        tally = omega arith;
        words = λ j hj.
            elim (ℕ_discrete j n) [
              | yes e ↦ subst (Has y) (sym (ap (cell_at _ l) e ∙ ch.cell)) (λ _. refl)
              | no d ↦ subst (Has y) (sym (ch.other_node j hj d)) (λ v. absurd (omega (arith, alone j hj d, bit_of (cell_at s l j).valid v, (marks w l j p.line16 hj).valid_token)))
            ];
        saved = λ none j hj _. absurd (omega arith);
        carried = λ i hi. rw (ch.serial l) (subst (Carries l (serial_at s l) y) (kept_slot s l n c i) (idle y i hi));
      }

-- every line is kept, the line written with the new word
pub write_held : {s : State} (z : Sized s) (w : Well s) (e : Event) → Cached s e → able_to_write s.sizes.total.0 (cell_of s e) ≡ true → (W : ℕ → ℕ) → Held s W
    → Held (write_of s e).state (λ j. pick (eqb e.line j) e.word (W j))
unfolding write_of Held
write_held {s} z w e c a W h k hk =
    let n = c.named in
    let x = written e.word (cell_of s e) in
    let ch = cell_change z w n.line n.node x in
    elim (ℕ_discrete k e.line) [
      | yes y ↦ subst (λ j. Kept (with_cell s e.line e.node x) j (pick (eqb e.line j) e.word (W j))) (sym y)
          (rw (eq-eqb e.line e.line refl)
          (write_kept w e.line e.node n.line n.node (able_write _ _ a) z (W e.line) (h e.line n.line) e.word))
      | no d ↦ rw (ne_eqb e.line k (λ y. d (sym y)))
          (kept_other ch (alike refl) k d (W k) (h k (subst (λ y. k < y) (lines_of ch.sizes) hk)))
    ]
