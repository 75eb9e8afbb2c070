-- Number 23: what it tells, and how the holder of the backup mends the line. Assumes nothing.
use Prim.Native.Nat.{ℕ, ◌≤◌, ◌<◌}
use mathlib.Core.Path.{◌≡◌, sym, ap, subst, ◌∙◌}
use mathlib.Core.Bool.{true, false, not, ◌&&◌, or-true}
use native.Mathlib.Omega.{arith}
use borrow.Author.Tests.{leb-true, lt-ltb, lt-leb, le-ltb, eqb-true, not-true}
use lib.Dec.{leb}
use Rattle.coherence.specs.Types.{Cell, State, Event, Stepped}
use Rattle.coherence.specs.Backups.{HeldElsewhere, HolderTimesOut, Mends}
use Rattle.coherence.specs.Events.{Number23LostToken}
use Rattle.rules.specs.States.{cell_at, serial_at}
use Rattle.rules.specs.WellFormed.{well_formed, cell_zero, cell_fine}
use Rattle.rules.specs.Refusals.{lost_token, lost_data, timeout, next, unborne, lowest, copyless, backupless, backup_elsewhere, causeless, cell_of, seen, table, table_of, given, refusal}
use Rattle.rules.proofs.Laws.Bools.{clash, split, bit_of, of_bit, every_all, and_left, and_both}
use Rattle.rules.proofs.Laws.Rows.{applies, given_applies, given_first}
use Rattle.rules.proofs.Laws.Views.{Sized}
use Rattle.rules.proofs.Keeps.Accepted.{Named, times_named, unborne_by}
use Rattle.rules.proofs.Keeps.Well.{Well, well, place, marks}
use Rattle.rules.proofs.Keeps.Numbers.{step_number, recreates}
use Rattle.rules.proofs.Keeps.Renewals.{sole}
use Rattle.coherence.proofs.Invariant.{Held}
use Rattle.coherence.proofs.Recreations.{lowest_has, lowest_unmarked, lowest_found, last_word}

module _ (s : State) (e : Event) where
  -- 23 is given to a timeout of a line that has no copy, and a backup, but none at the node named
  twenty_three : (k : ℕ) → applies 23 (table_of s e k) ≡ true → (timeout k ≡ true) × (backup_elsewhere (cell_of s e) (cell_at s e.line) ≡ true)
  unfolding applies table
  twenty_three k h = and_both (timeout k) (backup_elsewhere (cell_of s e) (cell_at s e.line)) h

  -- where 1 is not given the state is well formed, where 16 is not the timeout has its cause
  formed : (k : ℕ) → applies 1 (table_of s e k) ≡ false → well_formed s ≡ true
  unfolding applies table
  formed k h = split (well_formed s) (λ t. t) (λ f. clash (simp f) h)

  caused : (k : ℕ) → applies 16 (table_of s e k) ≡ false → causeless k (cell_of s e) ≡ false
  unfolding applies table
  caused k h = h

-- what is known of an event that is refused with 23
pub record Elsewhere (s : State) (e : Event) : Type 0 where
  pub timed : timeout e.kind ≡ true
  pub formed : well_formed s ≡ true
  pub named : Named s e
  pub caused : causeless e.kind (cell_of s e) ≡ false
  pub unborne : unborne s e.line (next (serial_at s e.line)) ≡ true
  pub copyless : copyless (cell_at s e.line) ≡ true
  pub backed : backupless (cell_at s e.line) ≡ false
  pub unheld : (cell_of s e).backup ≡ false

pub elsewhere : (s : State) (e : Event) → refusal s e ≡ 23 → Elsewhere s e
unfolding refusal
elsewhere s e h =
    let k = e.kind in
    let p = twenty_three s e k (given_applies (seen s e) e k 23 (omega arith) h) in
    let above : (n : ℕ) → n < 23 → applies n (table_of s e k) ≡ false = λ n l. given_first (seen s e) e k n (omega (arith, h)) in
    let lost = copyless (cell_at s e.line) in
    let none = backupless (cell_at s e.line) in
    let r = and_both (lost && not none) (not (cell_of s e).backup) p.1 in
    let b = and_both lost (not none) r.0 in
    record {
      timed = p.0;
      formed = formed s e k (above 1 (omega arith));
      named = times_named s e k p.0 (omega (arith, h));
      caused = caused s e k (above 16 (omega arith));
      unborne = unborne_by s e k p.0 (above 17 (omega arith));
      copyless = b.0;
      backed = not-true none b.1;
      unheld = not-true (cell_of s e).backup r.1;
    }

-- a cell that is all zero has no backup
zero_unbacked : (c : Cell) → cell_zero c ≡ true → c.backup ≡ false
unfolding cell_zero
zero_unbacked c h = let e = every_all _ h in search not-true

-- a line with no copy has no owner
ownerless : (s : State) (l j : ℕ) → j < 9 → copyless (cell_at s l) ≡ true → (cell_at s l j).owner ≡ false
unfolding copyless
ownerless s l j hj h =
    let o = lowest (cell_at s l) (λ c. c.owner) in
    let none = eqb-true o 9 (and_left _ _ h) in
    lowest_unmarked s l (λ c. c.owner) (omega arith) j hj

-- a timeout of kind 8 or 9 that has its cause, at a node that has no backup: the node is blocked
blocked_cause : (k : ℕ) (c : Cell) → timeout k ≡ true → causeless k c ≡ false → lost_token k ≡ false → c.backup ≡ false → c.blocked ≡ true
blocked_cause k c t h f b =
    split (lost_data k) (λ d. clash (rw (f, d, b)) h)
    (λ d. split c.blocked (λ u. u) (λ u. clash (rw (f, d, rw (f, d) at t, u)) h))

-- a blocked cell is an owner, so 23 is not given to kind 9; kind 8 has its cause where the node has a backup
pub number_23 : Number23LostToken
number_23 s e h =
    let x = elsewhere s e (sym (step_number s e) ∙ h) in
    let w = well x.formed in
    let p = place w {i = 0} x.named.line x.named.node (omega arith) in
    split (lost_token e.kind) (λ t. t)
    (λ f.
    let blocked = blocked_cause e.kind (cell_of s e) x.timed x.caused f x.unheld in
    let owner = of_bit (cell_of s e).owner (omega (arith, bit_of (cell_of s e).blocked blocked, (marks w e.line e.node p.line16 p.node9).blocked_owner)) in
    clash owner (ownerless s e.line e.node p.node9 x.copyless))

module _ {s : State} (w : Well s) (e : Event) (x : Elsewhere s e) where
  -- a backup is at a node that exists
  backup_within : (j : ℕ) → j < 9 → (cell_at s e.line j).backup ≡ true → j ≤ s.sizes.caches
  unfolding cell_fine
  backup_within j hj b =
      let p = place w {i = 0} x.named.line x.named.node (omega arith) in
      split (leb j s.sizes.caches) (leb-true j s.sizes.caches)
      (λ f. clash b (zero_unbacked (cell_at s e.line j) (rw (lt-ltb e.line s.sizes.lines x.named.line, f) at (w.cells e.line p.line16 j hj))))

  found : lowest (cell_at s e.line) (λ c. c.backup) < 9
  unfolding backupless
  found = lowest_found s e.line (λ c. c.backup) x.backed

  pub holds : HeldElsewhere s e.line e.node
  holds =
      let b = lowest_has s e.line (λ c. c.backup) found in
      record {
        holder = lowest (cell_at s e.line) (λ c. c.backup);
        within = backup_within _ found b;
        other = λ q. clash (subst (λ j. (cell_at s e.line j).backup ≡ true) q b) x.unheld;
        backup = b;
      }

  module _ (m : Event) (h : HolderTimesOut s e.line m) where
    -- no number refuses the holder's lost data timeout
    rows : given (table_of s m 8) ≡ 0
    unfolding table given
    rows =
        let b : (cell_at s e.line m.node).backup ≡ true = rw h.same_line at h.backup in
        simp (h.same_line, x.formed, lt-leb s.sizes.lines e.line x.named.line, le-ltb s.sizes.caches m.node h.within, b, x.unborne, x.copyless, x.backed)

    clear : refusal s m ≡ 0
    unfolding refusal
    clear = ap (λ k. given (table_of s m k)) (eqb-true m.kind 8 h.kind) ∙ rows

    pub mends : Sized s → (W : ℕ → ℕ) → Held s W → Mends s m (W e.line)
    unfolding Held
    mends z W held =
        let r = recreates s m (rw (h.kind, or-true)) clear in
        let p = place w {i = 0} r.0.named.line r.0.named.node (omega arith) in
        let c = ap (λ (t : State). cell_of t m) (ap (λ (r : Stepped). r.state) r.1) ∙ (sole z w m r.0).cell in
        record {
          accepted = step_number s m ∙ clear;
          owner = ap (λ (c : Cell). c.owner) c;
          word =
              ap (λ (c : Cell). c.word) c
              ∙ last_word w m.line m.node p.line16 p.node9 r.0.copy (W m.line) (held m.line r.0.named.line)
              ∙ ap W h.same_line;
        }
