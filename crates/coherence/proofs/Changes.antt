-- The invariant after a change of one cell and one slot: other lines keep it, and how the line's own counts move. Assumes nothing.
use Prim.Native.Nat.{ℕ, ◌+◌, ◌≤◌, ◌<◌}
use mathlib.Core.Path.{◌≡◌, sym, ap, subst, ◌∙◌}
use mathlib.Core.Logic.{◌≢◌}
use mathlib.Core.Bool.{true, false}
use native.Mathlib.Omega.{arith}
use native.Mathlib.Decide.{ℕ_discrete}
use Rattle.coherence.specs.Types.{Cell, Message, State}
use Rattle.rules.specs.States.{cell_at, slot_at, serial_at, bears}
use Rattle.rules.specs.WellFormed.{counted, in_cells, in_messages, held, borne}
use Rattle.rules.proofs.Laws.Bools.{clash}
use Rattle.rules.proofs.Laws.Sums.{sum_le}
use Rattle.rules.proofs.Laws.Views.{lines_of, total_of}
use Rattle.rules.proofs.Laws.Bears.{Off, Like, alike, apart, counts, counts_not}
use Rattle.rules.proofs.Laws.Changes.{Changed, cells_at, cells_other, messages_at, messages_other}
use Rattle.rules.proofs.Keeps.Well.{Well, marks}
use Rattle.coherence.proofs.Invariant.{owners, backups, blocks, passed, ownership_acks, deletion_acks, CountsOf, Has, Saves, Carries, Kept, Held, kept_same}

-- what a message adds to its line's counts: tokens, owner marks, ownership and deletion acknowledgments
pub record Shares (l q : ℕ) (m : Message) (t o a d : ℕ) : Type 0 where
  pub tokens : counted l q borne m ≡ t
  pub owner : counted l q passed m ≡ o
  pub ownership : counted l q ownership_acks m ≡ a
  pub deletion : counted l q deletion_acks m ≡ d

shares : (l q : ℕ) (m : Message) (g : (Message → ℕ) → ℕ) → ((f : Message → ℕ) → counted l q f m ≡ g f)
    → Shares l q m (g borne) (g passed) (g ownership_acks) (g deletion_acks)
shares l q m g h = record { tokens = h borne; owner = h passed; ownership = h ownership_acks; deletion = h deletion_acks }

pub live : (l q : ℕ) (m : Message) → bears l q m ≡ true → Shares l q m (borne m) (passed m) (ownership_acks m) (deletion_acks m)
live l q m h = shares l q m (λ f. f m) (λ f. counts l q f m h)

pub dead : (l q : ℕ) (m : Message) → bears l q m ≡ false → Shares l q m 0 0 0 0
dead l q m h = shares l q m (λ _. 0) (λ f. counts_not l q f m h)

-- how a sum over a line's cells, over its messages, moves with one of them
abbrev pub CellsMove : State → State → ℕ → ℕ → Cell → (Cell → ℕ) → Type 0
CellsMove s s' l n c f = in_cells s' l f + f (cell_at s l n) ≡ in_cells s l f + f c

abbrev pub MessagesMove : State → State → ℕ → ℕ → Message → (Message → ℕ) → Type 0
MessagesMove s s' l i m f =
    in_messages s' l f + counted l (serial_at s l) f (slot_at s i) ≡ in_messages s l f + counted l (serial_at s l) f m

-- blocked cells are owners
pub blocked_owners : {s : State} → Well s → (l : ℕ) → l < 16 → in_cells s l blocks ≤ in_cells s l owners
unfolding in_cells
blocked_owners {s} w l hl =
    sum_le 9 (λ j. blocks (cell_at s l j)) (λ j. owners (cell_at s l j)) (λ j hj. (marks w l j hl hj).blocked_owner)

module _ {s s' : State} {l n : ℕ} {c : Cell} {i : ℕ} {m : Message} (ch : Changed s s' l n c i m) where
  -- another line: its messages are those that were there
  carried_other : Like l (slot_at s i) m → (k : ℕ) → k ≢ l → (x : ℕ) → Kept s k x → (j : ℕ) → j < 64
      → Carries k (serial_at s k) x (slot_at s' j)
  unfolding Off
  carried_other (alike e) k d x h j hj =
      elim (ℕ_discrete j i) [
        | yes q ↦ subst (Carries k (serial_at s k) x) (sym (ap (slot_at s') q ∙ ch.slot ∙ sym e)) (h.carried i ch.place.slot64)
        | no b ↦ subst (Carries k (serial_at s k) x) (sym (ch.other_slot j b)) (h.carried j hj)
      ]
  carried_other (apart _ p) k d x h j hj =
      elim (ℕ_discrete j i) [
        | yes q ↦ subst (Carries k (serial_at s k) x) (sym (ap (slot_at s') q ∙ ch.slot)) (λ t _. clash t (p k (serial_at s k) d))
        | no b ↦ subst (Carries k (serial_at s k) x) (sym (ch.other_slot j b)) (h.carried j hj)
      ]

  pub kept_other : Like l (slot_at s i) m → (k : ℕ) → k ≢ l → (x : ℕ) → Kept s k x → Kept s' k x
  kept_other o k d x h =
      kept_same ch.sizes (cells_other ch k d) (messages_other ch o k d) (λ j hj. ch.other_line k d j hj)
      (λ j hj. rw (ch.serial k) (carried_other o k d x h j hj))
      h

  -- the line that the change is on has to be shown
  pub held_change : (W : ℕ → ℕ) → Like l (slot_at s i) m → Held s W → Kept s' l (W l) → Held s' W
  unfolding Held
  held_change W o h p k hk =
      elim (ℕ_discrete k l) [
        | yes e ↦ subst (λ j. Kept s' j (W j)) (sym e) p
        | no d ↦ kept_other o k d (W k) (h k (subst (λ x. k < x) (lines_of ch.sizes) hk))
      ]

  -- its counts, the new cell and message, and the other backups if no owner is left
  pub kept_here : (x : ℕ) → Kept s l x → CountsOf s' l → Has x c → Carries l (serial_at s l) x m
      → (in_cells s' l owners ≡ 0 → Saves x c × ((j : ℕ) → j < 9 → j ≢ n → Saves x (cell_at s l j)))
      → Kept s' l x
  kept_here x h t v y b =
      record {
        tally = t;
        words = λ j hj.
            elim (ℕ_discrete j n) [
              | yes q ↦ subst (Has x) (sym (ap (cell_at s' l) q ∙ ch.cell)) v
              | no d ↦ subst (Has x) (sym (ch.other_node j hj d)) (h.words j hj)
            ];
        saved = λ o j hj.
            elim (ℕ_discrete j n) [
              | yes q ↦ subst (Saves x) (sym (ap (cell_at s' l) q ∙ ch.cell)) (b o).0
              | no d ↦ subst (Saves x) (sym (ch.other_node j hj d)) ((b o).1 j hj d)
            ];
        carried = λ j hj.
            rw (ch.serial l)
            (elim (ℕ_discrete j i) [
              | yes q ↦ subst (Carries l (serial_at s l) x) (sym (ap (slot_at s') q ∙ ch.slot)) y
              | no d ↦ subst (Carries l (serial_at s l) x) (sym (ch.other_slot j d)) (h.carried j hj)
            ]);
      }

  -- no owner leaves and the cell keeps its backup: all backups are as they were
  pub saved_here : (x : ℕ) → Kept s l x → in_cells s l owners ≤ in_cells s' l owners → (Saves x (cell_at s l n) → Saves x c)
      → in_cells s' l owners ≡ 0 → Saves x c × ((j : ℕ) → j < 9 → j ≢ n → Saves x (cell_at s l j))
  saved_here x h le f o =
      let g = h.saved (omega arith) in
      (f (g n ch.place.node9), λ j hj d. g j hj)

  -- how the line's counts move
  pub record Moved : Type 0 where
    pub total : s'.sizes.total.0 ≡ s.sizes.total.0
    pub tokens : CellsMove s s' l n c held
    pub owned : CellsMove s s' l n c owners
    pub backed : CellsMove s s' l n c backups
    pub blocked : CellsMove s s' l n c blocks
    pub in_tokens : MessagesMove s s' l i m borne
    pub in_owners : MessagesMove s s' l i m passed
    pub in_ownership : MessagesMove s s' l i m ownership_acks
    pub in_deletion : MessagesMove s s' l i m deletion_acks

  pub moved : Moved
  moved =
      record {
        total = total_of ch.sizes;
        tokens = cells_at ch held;
        owned = cells_at ch owners;
        backed = cells_at ch backups;
        blocked = cells_at ch blocks;
        in_tokens = messages_at ch l borne;
        in_owners = messages_at ch l passed;
        in_ownership = messages_at ch l ownership_acks;
        in_deletion = messages_at ch l deletion_acks;
      }
