use Rattle.running.proofs.Facts.Turns.{held, number_some, told}
use Rattle.running.proofs.Facts.Sends.{send_refused, send_taken}
use borrow.Author.Rules.{rules}
use Rattle.running.proofs.steps.Run.send.Goals as goal

pub returns-in_err-slot : goal.returns-in_err-slot
returns-in_err-slot c =
    let h = held c.args.self.now (search rules) in
    told _ _ c.from_residual.ensures.1 (send_refused _ h _ c.requires c.place-k.ensures.1 _ c.lowest_free.ensures.lowest c.lowest_free.ensures.within c.in_err-slot.ensures.value (number_some _))

pub invariant_of-self : goal.invariant_of-self
invariant_of-self c =
    let h = held c.args.self.now (search rules) in
    let d = send_taken _ h _ c.requires c.place-k.ensures.1 _ c.lowest_free.ensures.lowest c.lowest_free.ensures.within c.in_ok-slot.ensures.value c.in_ok-slot.ensures.slot c.row-line.ensures.1 c.sent_cell.ensures c.sent_message.ensures c.tag.ensures in
    record { well = d.well; tagged = d.tagged }

pub returns : goal.returns
returns c =
    let h = held c.args.self.now (search rules) in
    let d = send_taken _ h _ c.requires c.place-k.ensures.1 _ c.lowest_free.ensures.lowest c.lowest_free.ensures.within c.in_ok-slot.ensures.value c.in_ok-slot.ensures.slot c.row-line.ensures.1 c.sent_cell.ensures c.sent_message.ensures c.tag.ensures in
    rw c.answer.ensures d.step
