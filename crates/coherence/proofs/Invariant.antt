-- What every run keeps of a line whose last accepted write was of the word x. Assumes nothing.
use Prim.Native.Nat.{ℕ, ◌+◌, ◌≤◌, ◌<◌}
use mathlib.Core.Path.{◌≡◌, sym, ap, subst, ◌∙◌}
use mathlib.Core.Bool.{true}
use native.Mathlib.Omega.{arith}
use native.Mathlib.Decide.{ℕ_discrete}
use lib.Dec.{eqb}
use Rattle.coherence.specs.Types.{Cell, MessageKind, Free, Tokens, OwnershipAck, DeletionAck, Message, State}
use Rattle.rules.specs.States.{cell_at, slot_at, serial_at, bears}
use Rattle.rules.specs.WellFormed.{in_cells, in_messages, held, borne}
use Rattle.rules.proofs.Laws.Bools.{bit, bit_not, clash}
use Rattle.rules.proofs.Laws.Views.{total_of}
use Rattle.rules.proofs.Laws.Sole.{Sole, sole_cells, sole_messages}

-- what is counted in cells besides tokens: owners, backups, blocked owners
abbrev pub owners : Cell → ℕ
owners c = bit c.owner

abbrev pub backups : Cell → ℕ
backups c = bit c.backup

abbrev pub blocks : Cell → ℕ
blocks c = bit c.blocked

-- and in messages: owner marks, the two acknowledgments
abbrev pub passed : Message → ℕ
passed m = bit m.owner

-- which acknowledgment a message is: 1 of ownership, 2 of the deletion of a backup, 0 none
abbrev pub ack_of : MessageKind → ℕ
ack_of Free = 0
ack_of Tokens = 0
ack_of OwnershipAck = 1
ack_of DeletionAck = 2

abbrev pub ownership_acks : Message → ℕ
ownership_acks m = bit (eqb (ack_of m.kind) 1)

abbrev pub deletion_acks : Message → ℕ
deletion_acks m = bit (eqb (ack_of m.kind) 2)

-- of a line's counts: tokens, owners, backups, blocked owners in cells; tokens, owners, acknowledgments in messages
pub record Counts (n tok own bak blk mtok mown oac dac : ℕ) : Type 0 where
  pub one_owner : own + mown ≤ 1
  pub one_backup : bak ≤ 1
  pub acks : oac + dac ≤ blk
  pub guarded : own + bak ≤ 1 + blk
  pub deleted : dac + bak ≤ 1
  pub copy : 1 ≤ own + bak
  pub lost : tok + mtok + 1 ≤ n + own + mown

abbrev pub CountsOf : State → ℕ → Type 0
CountsOf s l =
    Counts s.sizes.total.0 (in_cells s l held) (in_cells s l owners) (in_cells s l backups) (in_cells s l blocks) (in_messages s l borne) (in_messages s l passed) (in_messages s l ownership_acks) (in_messages s l deletion_acks)

-- a valid cell has the word x, a backup is of x, a message of the line's serial carries x
abbrev pub Has : ℕ → Cell → Type 0
Has x c = c.valid ≡ true → c.word ≡ x

abbrev pub Saves : ℕ → Cell → Type 0
Saves x c = c.backup ≡ true → c.saved ≡ x

abbrev pub Carries : ℕ → ℕ → ℕ → Message → Type 0
Carries l q x m = bears l q m ≡ true → m.full ≡ true → m.word ≡ x

-- the counts, and every copy that a read or a recreation may take is of x
pub record Kept (s : State) (l x : ℕ) : Type 0 where
  pub tally : CountsOf s l
  pub words : (j : ℕ) → j < 9 → Has x (cell_at s l j)
  pub saved : in_cells s l owners ≡ 0 → (j : ℕ) → j < 9 → Saves x (cell_at s l j)
  pub carried : (i : ℕ) → i < 64 → Carries l (serial_at s l) x (slot_at s i)

-- every line within the sizes is kept, with the last words W
unfoldable pub Held : State → (ℕ → ℕ) → Type 0
Held s W = (k : ℕ) → k < s.sizes.lines → Kept s k (W k)

-- a line that a step leaves alone is kept
pub kept_same : {s s' : State} {k x : ℕ} → s'.sizes ≡ s.sizes
    → ((f : Cell → ℕ) → in_cells s' k f ≡ in_cells s k f)
    → ((f : Message → ℕ) → in_messages s' k f ≡ in_messages s k f)
    → ((j : ℕ) → j < 9 → cell_at s' k j ≡ cell_at s k j)
    → ((i : ℕ) → i < 64 → Carries k (serial_at s' k) x (slot_at s' i))
    → Kept s k x
    → Kept s' k x
kept_same {x = x} z c m e v h =
    record {
      tally =
          (let r = h.tally in
          omega (
            arith,
            total_of z,
            c held,
            c owners,
            c backups,
            c blocks,
            m borne,
            m passed,
            m ownership_acks,
            m deletion_acks,
          ));
      words = λ j hj. subst (Has x) (sym (e j hj)) (h.words j hj);
      saved = λ y j hj. subst (Saves x) (sym (e j hj)) (h.saved (sym (c owners) ∙ y) j hj);
      carried = v;
    }

-- a line whose tokens all stand in one cell, an owner with the word x, is kept
pub kept_sole : {s : State} {l n : ℕ} {c : Cell} (x : ℕ) → Sole s l n c → held c ≡ s.sizes.total.0 → owners c ≡ 1
    → backups c ≡ 0 → blocks c ≡ 0 → c.word ≡ x
    → Kept s l x
kept_sole {s} {l} {n} {c} x h t o b u y =
    let own = sole_cells h owners (λ c b. bit_not c.owner b.owner) in
    record {
      tally =
          omega (
            arith,
            sole_cells h held (λ _ b. b.none),
            sole_cells h backups (λ c b. bit_not c.backup b.backup),
            sole_cells h blocks (λ c b. bit_not c.blocked b.blocked),
            sole_messages h borne,
            sole_messages h passed,
            sole_messages h ownership_acks,
            sole_messages h deletion_acks,
          );
      words = λ j hj.
          elim (ℕ_discrete j n) [
            | yes q ↦ subst (Has x) (sym (ap (cell_at s l) q ∙ h.cell)) (λ _. y)
            | no d ↦ (λ v. clash v (h.other j hj d).valid)
          ];
      saved = λ none j hj. absurd (omega arith);
      carried = λ i hi v. clash v (h.unborne i hi);
    }
