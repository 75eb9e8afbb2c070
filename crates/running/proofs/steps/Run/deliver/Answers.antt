use Rattle.running.proofs.Facts.Turns.{held, number_some, told}
use Rattle.running.proofs.Facts.Searches.{slot_near}
use Rattle.running.proofs.Facts.Slots.{slot_refused, slot_taken}
use borrow.Author.Rules.{rules}
use Rattle.running.proofs.steps.Run.deliver.Goals as goal

pub returns-in_err-slot_refusal : goal.returns-in_err-slot_refusal
returns-in_err-slot_refusal c =
    told _ _ c.from_residual.ensures.1 (slot_refused _ _ c.requires c.args.self.now.well c.args.self.now.tagged c.in_err-slot_refusal.ensures (number_some _))

pub bounds-self-slot : goal.bounds-self-slot
bounds-self-slot c = slot_near _ _ c.in_ok-slot_refusal.ensures

pub bounds-self-slot-2 : goal.bounds-self-slot-2
bounds-self-slot-2 c = slot_near _ _ c.in_ok-slot_refusal.ensures

pub bounds-self-slot-3 : goal.bounds-self-slot-3
bounds-self-slot-3 c = slot_near _ _ c.in_ok-slot_refusal.ensures

pub invariant_of-self : goal.invariant_of-self
invariant_of-self c =
    let h = held c.args.self.now (search rules) in
    let d = slot_taken _ _ c.requires h c.in_ok-slot_refusal.ensures c.place-k.ensures.1 c.row.ensures.1 c.arrived-arrival.ensures c.reply.ensures c.tag.ensures in
    record { well = d.well; tagged = d.tagged }

pub returns : goal.returns
returns c =
    let h = held c.args.self.now (search rules) in
    let d = slot_taken _ _ c.requires h c.in_ok-slot_refusal.ensures c.place-k.ensures.1 c.row.ensures.1 c.arrived-arrival.ensures c.reply.ensures c.tag.ensures in
    d.step
