-- The start line. Assumes nothing.
use Prim.Native.Nat.{ℕ, ◌+◌, ◌/◌, ◌≤◌, ◌<◌, min}
use mathlib.Core.Path.{◌≡◌, refl, sym, ap, subst, ◌∙◌}
use mathlib.Core.Bool.{Bool, true, false, cond as pick}
use mathlib.Core.List.{List, [], ◌∷◌, append-nil}
use mathlib.Core.Option.{Option, none, some}
use mathlib.Core.Logic.{◌⊎◌, ⊎_elim}
use native.Mathlib.Omega.{arith}
use native.Mathlib.Nat.{add-zero, zero-add}
use borrow.Author.Tests.{eqb-true, leb-false, ne_eqb, eq-eqb}
use lib.Dec.{eqb, leb}
use lib.ListN.{length, get_or, take, replicate}
use lib.Seq.{sets, take-nil}
use Rattle.rules.specs.declared.events.Stepped.{Stepped}
use Rattle.rules.specs.Tools.{every}
use Rattle.rules.specs.WellFormed.{sizes_fine}
use Rattle.rules.specs.Fresh.{zero_state, start_of}
use Rattle.rules.specs.Runs.{answers_of, words_of, events_to}
use Rattle.text.specs.declared.reading.Taken.{Taken}
use Rattle.text.specs.Lines.{lines_of, first_line, passed, passed_by}
use Rattle.text.specs.Reading.{numbers_of, exactly, packed, taken_at}
use Rattle.text.specs.Chunks.{words_in}
use Rattle.text.proofs.Lines.{lines_some, passed_nil}
use Rattle.text.proofs.Events.{next_any}
use Rattle.writing.specs.Writing.{answer_text, put_at, put_count}
use Rattle.writing.proofs.Puts.{answer_short, is_put}
use Rattle.lines.specs.declared.kept.Kept.{Kept}
use Rattle.lines.specs.declared.kept.Advanced.{Advanced}
use Rattle.lines.specs.Program.{nothing_kept, unreadable, start_line, line_does, kept_after, line_text, kept_by, printed_by}
use Rattle.lines.specs.Chunks.{Lent, lent, most_lines, advanced, lent_after}
use Rattle.lines.specs.Parts.{running, start_fields}

is_running : (k : Kept) → k.started ≡ true → running k.state ≡ k
is_running k e = λ i. record { started = sym e i; state = k.state }

-- what a call does after it
pub run_is : (k : Kept) (s : List ℕ) (l : Lent) → k.started ≡ true → (r : Advanced) (words marks answers out : List ℕ)
    → (r ≡ advanced (running k.state) s l) × (lent words marks answers out ≡ lent_after (running k.state) s l)
    → (r ≡ advanced k s l) × (lent words marks answers out ≡ lent_after k s l)
run_is k s l e r words marks answers out =
    subst (λ (j : Kept). (r ≡ advanced j s l) × (lent words marks answers out ≡ lent_after j s l)) (is_running k e)

-- ---- its numbers

pub zero_start : (start_of 0 0 0).state ≡ zero_state
unfolding start_of sizes_fine every
zero_start = refl

pub start_three : (count : ℕ) (words : List ℕ) → count ≡ 3
    → start_of (get_or words 0 0) (get_or words 1 0) (get_or words 2 0) ≡ start_fields count words
unfolding start_fields
start_three count words e = rw (eq-eqb count 3 e)

pub start_other : (count : ℕ) (words : List ℕ) (k : Kept) → k ≡ nothing_kept → (count ≡ 3 → ⊥)
    → record { state = k.state; answer = unreadable } ≡ start_fields count words
unfolding start_fields
start_other count words k e n = rw (ne_eqb count 3 n, e)

three : (ns : List ℕ) → length ns ≡ 3
    → start_fields 3 (sets (replicate 8 0) 0 ns) ≡ start_line (some ns)
unfolding start_fields start_line
three [] h = absurd (omega arith)
three (a ∷ []) h = absurd (omega arith)
three (a ∷ b ∷ []) h = absurd (omega arith)
three (a ∷ b ∷ c ∷ []) h = refl
three (a ∷ b ∷ c ∷ d ∷ ns) h = absurd (omega arith)

fields_some : (ns : List ℕ) (next : ℕ) (t u : Bool) → leb (length ns) 8 ≡ t → eqb (length ns) 3 ≡ u
    → start_fields (packed (some ns) next).count (packed (some ns) next).words ≡ start_line (pick u (some ns) none)
unfolding packed start_fields start_line
fields_some ns next true true e f = rw (e, f) (three ns (eqb-true (length ns) 3 f))
fields_some ns next true false e f = rw (e, f)
fields_some ns next false true e f = absurd (let a = leb-false (length ns) 8 e in let b = eqb-true (length ns) 3 f in omega arith)
fields_some ns next false false e f = rw e

fields_any : (o : Option (List ℕ)) (next : ℕ) → start_fields (packed o next).count (packed o next).words ≡ start_line (exactly 3 o)
unfolding packed start_fields start_line
fields_any none next = refl
fields_any (some ns) next = fields_some ns next _ _ refl refl

-- the line at the start of an input
taken_start : (s : List ℕ) (r : Taken) → r ≡ taken_at s 0
    → (start_fields r.count r.words ≡ start_line (exactly 3 (numbers_of (first_line s)))) × (r.next ≡ passed s)
unfolding taken_at
taken_start s r e = rw e (fields_any (numbers_of (first_line s)) (0 + passed s), next_any (numbers_of (first_line s)) (0 + passed s) ∙ zero-add (passed s))

nil_of : (s : List ℕ) → length s ≡ 0 → s ≡ []
nil_of [] h = refl
nil_of (b ∷ s) h = absurd (omega arith)

-- ---- what a call does before it

-- the other lists play no part
module _ (k : Kept) (s : List ℕ) (l : Lent) (first : k.started ≡ false) where
  pub lists_aside : (r : Advanced) (out : List ℕ)
      → (r ≡ advanced k s (lent [] [] [] l.out)) × (out ≡ (lent_after k s (lent [] [] [] l.out)).out)
      → (r ≡ advanced k s l) × (lent l.words l.marks l.answers out ≡ lent_after k s l)
  unfolding advanced lent_after words_in answers_of words_of events_to
  lists_aside r out p = let q = rw first at p in rw first (q.0, ap (lent l.words l.marks l.answers) q.1)

module _ (k : Kept) (s out : List ℕ) (first : k.started ≡ false) where
  abbrev alone : Lent
  alone = lent [] [] [] out

  abbrev Does : Advanced → List ℕ → Type 0
  Does r out' = (r ≡ advanced k s alone) × (out' ≡ (lent_after k s alone).out)

  most : (n : ℕ) → n ≡ min (length out / 33) 1 → most_lines k alone ≡ n
  most n e = rw first (sym e)

  -- no line is taken
  nothing : take (most_lines k alone) (lines_of s) ≡ [] → passed_by (most_lines k alone) s ≡ 0 → Does (record { kept = k; read = 0; written = 0 }) out
  unfolding advanced lent_after kept_by printed_by
  nothing e f = rw (e, f) (refl, refl)

  pub no_line : length s ≡ 0 → Does (record { kept = k; read = 0; written = 0 }) out
  unfolding lines_of
  no_line h = let e = nil_of s h in nothing (rw (e, take-nil (most_lines k alone))) (rw (e, passed_nil (most_lines k alone)))

  pub no_room : length out < 33 → Does (record { kept = k; read = 0; written = 0 }) out
  unfolding passed_by
  no_room h = let z : most_lines k alone ≡ 0 = most 0 (omega arith) in nothing (rw z) (rw z)

  pub none_taken : (length s ≡ 0) ⊎ (length out < 33) → Does (record { kept = k; read = 0; written = 0 }) out
  none_taken = ⊎_elim no_line no_room

  -- it is taken
  pub start_taken : 0 < length s → 33 ≤ length out → (t : Taken) → t ≡ taken_at s 0 → (r : Stepped) → r ≡ start_fields t.count t.words
      → (w : ℕ) (out' : List ℕ)
      → (w ≡ put_count out 0 (answer_text r.answer.number r.answer.word r.answer.slot))
      × (out' ≡ put_at out 0 (answer_text r.answer.number r.answer.word r.answer.slot))
      → Does (record { kept = running r.state; read = t.next; written = w }) out'
  unfolding advanced lent_after kept_by printed_by kept_after line_does line_text passed_by
  start_taken h g t e r f w out' p =
      let z : most_lines k alone ≡ 1 = most 1 (omega arith) in
      let i = taken_start s t e in
      let l = lines_some s h in
      let q = is_put out 0 (answer_text r.answer.number r.answer.word r.answer.slot) (let a = answer_short r.answer.number r.answer.word r.answer.slot in omega arith) in
      let d : start_line (exactly 3 (numbers_of (first_line s))) ≡ r = sym (f ∙ i.0) in
      let x : t.next ≡ passed s + 0 = i.1 ∙ sym (add-zero (passed s)) in
      let y : w ≡ length (answer_text r.answer.number r.answer.word r.answer.slot) = p.0 ∙ sym q.0 in
      rw (z, l, first, d, append-nil)
      ((λ j. record { kept = running r.state; read = x j; written = y j }), p.1 ∙ sym q.1)
