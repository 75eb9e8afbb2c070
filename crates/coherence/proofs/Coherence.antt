-- The theorems: demand 3, what was asked about late and lost messages and about backups, for every accepted start and every list of events; and three facts of every event in every state. Assumes nothing.
use Prim.Native.Nat.{ℕ}
use mathlib.Core.Path.{refl, sym, ◌∙◌}
use mathlib.Core.List.{List, []}
use borrow.Author.Tests.{ne_eqb}
use lib.ListN.{take}
use Rattle.coherence.specs.Types.{Event}
use Rattle.coherence.specs.Histories.{Started, after, answers, last_write}
use Rattle.coherence.specs.Demand3.{StaysWellFormed, ReadsLastWrite, WriterAlone, CopyRemains, Demand3}
use Rattle.coherence.specs.Losses.{NewSerialUnborne, LateToken, SlowOrLost}
use Rattle.coherence.specs.Backups.{HolderMends}
use Rattle.coherence.specs.Events.{RefusedLeavesState, Number23LostToken, UnusedWordsUnseen}
use Rattle.rules.specs.Refusals.{refusal}
use Rattle.rules.specs.Runs.{run_of}
use Rattle.rules.proofs.Keeps.Well.{well_formed_lem}
use Rattle.rules.proofs.Keeps.Numbers.{step_number, step_refused}
use Rattle.coherence.proofs.Runs.{good, line_left, never_18}
use Rattle.coherence.proofs.Formed.{run_not_1}
use Rattle.coherence.proofs.LastWrites.{read_at}
use Rattle.coherence.proofs.Writers.{writer}
use Rattle.coherence.proofs.Losses.{unborne_after, late_after, lost_after}
use Rattle.coherence.proofs.Backups.{elsewhere, holds, mends, number_23}
use Rattle.coherence.proofs.Uses.{same_used}

-- a start of c caches, l lines and n tokens that is accepted, and any list of events
module _ (c l n : ℕ) (begun : Started c l n) (es : List Event) where
  -- Every state of a run is well formed, whatever the events are and in whatever order they come.
  -- So number 1 is the answer to no event of a test that begins with a good start line.
  pub stays_well_formed : StaysWellFormed c l n es
  unfolding run_of
  stays_well_formed =
      let g = good c l n begun [] in
      (λ i. well_formed_lem (good c l n begun (take i es)).well, λ i _. run_not_1 es g.sized g.well i)

  -- Every accepted read answers the word of the last accepted write to its line earlier in the list, or 0 if there is none.
  -- The answers are those of the run itself, so a test bench can replay a list and compare.
  pub reads_last_write : ReadsLastWrite c l n es
  reads_last_write before e rest is = rw is (read_at c l n begun before e rest)

  -- Whenever a node is able to write a line, every other node, the memory included, holds no token of that line, and no message that bears the line's current serial has one.
  -- So at that moment no other node is able to read the line.
  pub writer_alone : WriterAlone c l n es
  writer_alone i = let g = good c l n begun (take i es) in writer c l n g.same g.well

  -- Each line always has an owner, a valid cell or a backup: its word is never lost.
  -- So number 18 is the answer to no event of a run.
  pub copy_remains : CopyRemains c l n es
  copy_remains = (λ i line h. line_left c l n begun (take i es) line h, λ i _. never_18 c l n begun es i)

  -- Demand 3: the four facts above, of every list of events, so also of every order in which messages are delivered.
  pub demand_3 : Demand3 c l n es
  demand_3 = (stays_well_formed, reads_last_write, writer_alone, copy_remains)

  -- While a message of a line stands in the pool, no accepted timeout makes the message's serial the line's serial, however often the four serials have gone round.
  -- Number 17 refuses the timeout that would.
  pub new_serial_unborne : NewSerialUnborne (after c l n es)
  new_serial_unborne = let g = good c l n begun es in unborne_after (after c l n es) g.sized g.well

  -- The incident: a message that is in the pool when its line is recreated has no effect ever after.
  -- However many events follow, further recreations among them, its delivery answers 0, 0, 64 and only empties its slot.
  pub late_token : LateToken (after c l n es)
  late_token = let g = good c l n begun es in late_after (after c l n es) g.sized g.well

  -- Dropping any message, tokens or an acknowledgment, changes no cell and no serial.
  -- So with a message lost any list of reads and writes is answered as with the same message still on its way.
  -- Once it is delivered the two can differ: before a recreation of its line it may have an effect, after one it has none (`late_token`).
  pub slow_or_lost : SlowOrLost (after c l n es)
  slow_or_lost = let g = good c l n begun es in lost_after (after c l n es) g.sized g.well

  -- Only the holder may use a backup: where a lost token timeout is refused with 23 (no other event is, `number_23_lost_token`), another node
  -- has a backup of the line, and that node's lost data timeout, in the same state, makes it the line's owner with the word of the last accepted write.
  -- So 23 never leaves a line that nothing can mend.
  pub holder_mends : HolderMends c l n es
  holder_mends e is =
      let g = good c l n begun es in
      let x = elsewhere (after c l n es) e (sym (step_number (after c l n es) e) ∙ is) in
      (holds g.well e x, λ m h. mends g.well e x m h g.sized (λ k. last_write es (answers c l n es) k) g.held)

-- In every state, well formed or not, 23 is the answer to a lost token timeout alone.
-- A lost data timeout has its cause where the node itself has a backup, a lost backup deletion acknowledgment timeout where it is blocked, so an owner.
pub number_23_lost_token : Number23LostToken
number_23_lost_token = number_23

-- In every state, well formed or not, an event that is refused leaves the state as it came, and its answer has word 0 and slot 64.
pub refused_leaves_state : RefusedLeavesState
refused_leaves_state s e d = rw (step_refused s e (ne_eqb (refusal s e) 0 (λ z. d (step_number s e ∙ z)))) (refl, refl, refl)

-- In every state, well formed or not, words that a kind does not use are not looked at.
-- So two events that differ in such words alone have the same answer and lead to the same state.
pub unused_words_unseen : UnusedWordsUnseen
unused_words_unseen = same_used
