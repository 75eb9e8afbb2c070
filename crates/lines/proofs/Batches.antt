-- One batch over the events among lines answers as the lines do one after the other. Assumes nothing.
use Prim.Native.Nat.{ℕ, suc, ◌+◌, ◌*◌, ◌/◌, ◌%◌, ◌≤◌, ◌<◌, min}
use mathlib.Core.Path.{◌≡◌, refl, sym, ap, ◌∙◌}
use mathlib.Core.List.{List, [], ◌∷◌, ◌++◌, map}
use mathlib.Core.Option.{Option, none, some}
use native.Mathlib.Omega.{arith}
use borrow.Author.Tests.{eq-eqb, le-leb, le-ltb}
use lib.ListN.{length, get_or, take, drop, length-append, length-map, length-take, length-drop, get_or-append}
use lib.Seq.{sets, sets-eq, take_at, drop_at}
use Rattle.rules.specs.declared.states.State.{State}
use Rattle.rules.specs.declared.events.Answer.{Answer}
use Rattle.rules.specs.declared.events.Batched.{Batched}
use Rattle.rules.specs.Effects.{step_of}
use Rattle.rules.specs.Runs.{run_of, answers_of, event_of, events_to, events_of, words_of, batch_number, batch_of, batch_answers}
use Rattle.text.specs.declared.chunks.Parsed.{Parsed}
use Rattle.text.specs.Lines.{lines_of}
use Rattle.text.specs.Reading.{numbers_of}
use Rattle.text.specs.Chunks.{known, is_known, event_in, mark_of, words_in, room, Parses}
use Rattle.text.proofs.Laws.{exactly_long}
use Rattle.writing.specs.Writing.{answer_text, answers_text, printed, printed_count}
use Rattle.lines.specs.Program.{unreadable, event_line, line_does, kept_after, line_text, kept_by, printed_by}
use Rattle.lines.specs.Chunks.{Lent, lent, most_lines, lines_taken, advanced, lent_after}
use Rattle.lines.specs.Parts.{running}

-- ---- the events among lines

has_eight : (l ns : List ℕ) → event_in l ≡ some ns → length ns ≡ 8
unfolding event_in
has_eight l ns e = exactly_long 8 (numbers_of l) ns e

event_first : (ns ws : List ℕ) → length ns ≡ 8 → event_of (ns ++ ws) ≡ event_of ns
event_first ns ws h =
    let at : (i : ℕ) → i < 8 → get_or (ns ++ ws) i 0 ≡ get_or ns i 0 = λ i k. get_or-append ns ws 0 i (omega arith) in
    rw (at 0 (omega arith), at 1 (omega arith), at 2 (omega arith), at 3 (omega arith), at 4 (omega arith), at 5 (omega arith), at 6 (omega arith), at 7 (omega arith))

events_cons : (ns ws : List ℕ) → length ns ≡ 8 → events_of (ns ++ ws) ≡ event_of ns ∷ events_of ws
unfolding events_to
events_cons ns ws h =
    let e : length (ns ++ ws) / 8 ≡ suc (length ws / 8) = let l = length-append ns ws in omega arith in
    rw (e, event_first ns ws h, drop_at ns ws 8 h)

-- eight words for each, and no more events than lines
words_count : (ls : List (List ℕ)) → (n : ℕ) × (length (words_in ls) ≡ 8 * n) × (n ≤ length ls)
unfolding words_in
words_count [] = (0, refl, omega arith)
words_count (l ∷ ls) = by (event_in l) refl (words_count ls)
  where
    by : (o : Option (List ℕ)) → event_in l ≡ o → (n : ℕ) × (length (words_in ls) ≡ 8 * n) × (n ≤ length ls)
        → (n : ℕ) × (length (known (event_in l) ++ words_in ls) ≡ 8 * n) × (n ≤ suc (length ls))
    by none e i = (i.0, rw e i.1, let h = i.2 in omega arith)
    by (some ns) e i = (
      suc i.0,
      rw (e, length-append ns (words_in ls)) (let h = has_eight l ns e in let g = i.1 in omega arith),
      let h = i.2 in omega arith,
    )

-- ---- what they do

does_none : (s : State) (l : List ℕ) → event_in l ≡ none → line_does (running s) l ≡ record { state = s; answer = unreadable }
unfolding line_does event_line event_in
does_none s l e = rw e

does_some : (s : State) (l ns : List ℕ) → event_in l ≡ some ns → line_does (running s) l ≡ step_of s (event_of ns)
unfolding line_does event_line event_in
does_some s l ns e = rw e

mark_is : (l : List ℕ) (o : Option (List ℕ)) → event_in l ≡ o → mark_of l ≡ is_known o
unfolding mark_of
mark_is l o e = rw e

-- one line and the rest
step_one : (s t : State) (ls : List (List ℕ)) (l : List ℕ) (a : Answer) → line_does (running s) l ≡ record { state = t; answer = a }
    → (kept_by (running s) (l ∷ ls) ≡ kept_by (running t) ls) × (printed_by (running s) (l ∷ ls) ≡ answer_text a.number a.word a.slot ++ printed_by (running t) ls)
unfolding kept_by printed_by kept_after line_text
step_one s t ls l a e = rw e (refl, refl)

record Same (s : State) (ls : List (List ℕ)) (ws : List ℕ) (ms : List ℕ) : Type 0 where
  kept : running (run_of s (events_of ws)) ≡ kept_by (running s) ls
  text : (rest : List ℕ) → answers_text ms (words_of (answers_of s (events_of ws)) ++ rest) ≡ printed_by (running s) ls

same : (ls : List (List ℕ)) (s : State) → Same s ls (words_in ls) (map mark_of ls)
unfolding kept_by printed_by words_in answers_text run_of answers_of words_of events_to
same [] s = record { kept = refl; text = λ rest. refl }
same (l ∷ ls) s = by (event_in l) refl (λ t. same ls t)
  where
    by : (o : Option (List ℕ)) → event_in l ≡ o → ((t : State) → Same t ls (words_in ls) (map mark_of ls))
        → Same s (l ∷ ls) (known (event_in l) ++ words_in ls) (mark_of l ∷ map mark_of ls)
    by none e i =
        let o = step_one s s ls l unreadable (does_none s l e) in
        record {
          kept = rw e ((i s).kept ∙ sym o.0);
          text = λ rest. rw (e, mark_is l none e) (ap (λ (x : List ℕ). answer_text 22 0 64 ++ x) ((i s).text rest) ∙ sym o.1);
        }
    by (some ns) e i =
        let r = step_of s (event_of ns) in
        let o = step_one s r.state ls l r.answer (does_some s l ns e) in
        let v = events_cons ns (words_in ls) (has_eight l ns e) in
        record {
          kept = rw (e, v) ((i r.state).kept ∙ sym o.0);
          text = λ rest. rw (e, v, mark_is l (some ns) e)
              (ap (λ (x : List ℕ). answer_text r.answer.number r.answer.word r.answer.slot ++ x) ((i r.state).text rest) ∙ sym o.1);
        }

-- ---- a chunk

-- what was put first
take_sets : (vs l : List ℕ) → length vs ≤ length l → take (length vs) (sets l 0 vs) ≡ vs
take_sets vs l h = ap (take (length vs)) (sets-eq vs l 0 (omega arith)) ∙ take_at vs _ (length vs) refl

-- a batch over them is never refused
module _ (s : State) (ls : List (List ℕ)) (answers : List ℕ) (room_for : 3 * length ls ≤ length answers) where
  accepted : batch_number (words_in ls) answers ≡ 0
  unfolding batch_number
  accepted =
      let n = words_count ls in
      let e = n.1 in
      let h = n.2 in
      rw (eq-eqb (length (words_in ls) % 8) 0 (omega arith), le-ltb (length answers) (3 * (length (words_in ls) / 8)) (omega arith))

  batch_state : running (batch_of s (words_in ls) answers).state ≡ kept_by (running s) ls
  unfolding batch_of
  batch_state = rw accepted (same ls s).kept

  batch_text : answers_text (map mark_of ls) (batch_answers s (words_in ls) answers) ≡ printed_by (running s) ls
  unfolding batch_answers
  batch_text = rw accepted ((same ls s).text (drop (3 * (length (words_in ls) / 8)) answers))

-- there is room to print
room_printed : (d ms ws t : List ℕ) → length ms ≤ length d / 33 → length ms ≤ length ws / 3 → answers_text ms ws ≡ t
    → (printed_count d ms ws ≡ length t) × (printed d ms ws ≡ sets d 0 t)
unfolding printed_count printed
room_printed d ms ws t h k e = rw (le-leb _ _ h, le-leb _ _ k, e) (refl, refl)

-- the lists that were lent hold the words and the marks, however many lines were asked for
pub parsed_within : (n : ℕ) (src words marks words' marks' : List ℕ) (p : Parsed) → Parses src (room n words marks) words marks words' marks' p
    → (p.words ≤ length words) × (p.lines ≤ length marks)
parsed_within n src words marks words' marks' p g =
    let l = length-take (room n words marks) (lines_of src) in
    let w = words_count (take (room n words marks) (lines_of src)) in
    let e = w.1 in
    let h = w.2 in
    let a = g.lines in
    let b = g.count in
    (omega arith, omega arith)

-- what replaced the front
front_is : (v l : List ℕ) (n : ℕ) → n ≤ length l → length (v ++ drop n l) ≡ length l → v ++ drop n l ≡ sets l 0 v
front_is v l n h g =
    let a = length-append v (drop n l) in
    let d = length-drop n l in
    let e : 0 + length v ≡ n = omega arith in
    sym (sets-eq v l 0 (omega arith) ∙ rw e)

module _ (s : State) (src : List ℕ) (l : Lent) where
  abbrev ls : List (List ℕ)
  ls = lines_taken (running s) src l

  few : (length ls ≤ length l.out / 33) × (length ls ≤ length l.marks) × (length ls ≤ length l.answers / 3) × (8 * length ls ≤ length l.words)
  few = let e = length-take (most_lines (running s) l) (lines_of src) in (omega arith, omega arith, omega arith, omega arith)

  words_short : length (words_in ls) ≤ length l.words
  words_short = let n = words_count ls in let e = n.1 in let h = n.2 in let f = few in omega arith

  roomy : 3 * length ls ≤ length l.answers
  roomy = let f = few in omega arith

  answers_put : (answers : List ℕ) → answers ≡ batch_answers s (words_in ls) l.answers → length answers ≡ length l.answers
      → answers ≡ sets l.answers 0 (words_of (answers_of s (events_of (words_in ls))))
  unfolding batch_answers
  answers_put answers f long =
      let n = words_count ls in
      let e = n.1 in
      let h = n.2 in
      let r = roomy in
      let g = rw (accepted s ls l.answers roomy) at f in
      g ∙ front_is (words_of (answers_of s (events_of (words_in ls)))) l.answers (3 * (length (words_in ls) / 8)) (omega arith) (sym (ap length g) ∙ long)

  -- the lines are parsed, their events run, their answers printed
  pub chunk : (n : ℕ) → n ≡ min (length l.out / 33) (length l.answers / 3) → (words marks : List ℕ) (p : Parsed)
      → Parses src (room n l.words l.marks) l.words l.marks words marks p
      → (b : Batched) (answers : List ℕ)
      → (b ≡ batch_of s (take p.words words) l.answers) × (answers ≡ batch_answers s (take p.words words) l.answers)
      → length answers ≡ length l.answers → (k : ℕ) (out : List ℕ)
      → (k ≡ printed_count l.out (take p.lines marks) answers) × (out ≡ printed l.out (take p.lines marks) answers)
      → (record { kept = running b.state; read = p.next; written = k } ≡ advanced (running s) src l)
      × (lent words marks answers out ≡ lent_after (running s) src l)
  unfolding advanced lent_after
  chunk n en words marks p g b answers f long k out x =
      let room-is : room n l.words l.marks ≡ most_lines (running s) l = omega arith in
      let m = rw room-is at g in
      let w : take p.words words ≡ words_in ls = rw (m.count, m.events) (take_sets (words_in ls) l.words words_short) in
      let e = length-map ls mark_of in
      let v : take p.lines marks ≡ map mark_of ls = rw (m.lines, m.marked, ← e) (take_sets (map mark_of ls) l.marks (let h = few in omega arith)) in
      let fa : answers ≡ batch_answers s (words_in ls) l.answers = f.1 ∙ ap (λ (x : List ℕ). batch_answers s x l.answers) w in
      let st : running b.state ≡ kept_by (running s) ls =
      ap (λ (r : Batched). running r.state) (f.0 ∙ ap (λ (x : List ℕ). batch_of s x l.answers) w) ∙ batch_state s ls l.answers roomy in
      let tx : answers_text (map mark_of ls) answers ≡ printed_by (running s) ls =
      ap (answers_text (map mark_of ls)) fa ∙ batch_text s ls l.answers roomy in
      let q = room_printed l.out (map mark_of ls) answers (printed_by (running s) ls) (let h = few in omega arith) (let h = few in omega arith) tx in
      let kk : k ≡ length (printed_by (running s) ls) = x.0 ∙ ap (λ (y : List ℕ). printed_count l.out y answers) v ∙ q.0 in
      let oo : out ≡ sets l.out 0 (printed_by (running s) ls) = x.1 ∙ ap (λ (y : List ℕ). printed l.out y answers) v ∙ q.1 in
      let aa = answers_put answers fa long in (
        (λ i. record { kept = st i; read = m.next i; written = kk i }),
        (λ i. record { words = m.events i; marks = m.marked i; answers = aa i; out = oo i }),
      )
