use Rattle.running.proofs.Facts.Turns.{held, number_some, told}
use Rattle.running.proofs.Facts.Timeouts.{timeout_refused, renewal_refused, renewal_taken}
use borrow.Author.Rules.{rules}
use Rattle.running.proofs.steps.Run.recreate.Goals as goal

pub returns-in_err-cell_refusal : goal.returns-in_err-cell_refusal
returns-in_err-cell_refusal c =
    told _ _ c.from_residual.ensures.1 (timeout_refused _ c.args.self.now.well _ c.requires c.place-k.ensures.1 _ c.in_err-cell_refusal.ensures)

pub returns-in_err-renewal_refusal : goal.returns-in_err-renewal_refusal
returns-in_err-renewal_refusal c =
    told _ _ c.from_residual-in_err-renewal_refusal.ensures.1 (renewal_refused _ c.args.self.now.well _ c.requires c.place-k.ensures.1 c.args.self.now.tagged c.in_ok-cell_refusal.ensures c.row-line.ensures.1 c.next_serial-next.ensures c.line_cells-nine.ensures c.tag.ensures c.absent-free.ensures c.in_err-renewal_refusal.ensures (number_some _))

pub invariant_of-self : goal.invariant_of-self
invariant_of-self c =
    let h = held c.args.self.now (search rules) in
    let d = renewal_taken _ h.well _ c.requires c.place-k.ensures.1 h.tagged c.in_ok-cell_refusal.ensures c.row-line.ensures.1 c.next_serial-next.ensures c.line_cells-nine.ensures c.tag.ensures c.absent-free.ensures h c.in_ok-renewal_refusal.ensures c.word_for-word.ensures c.renew_line.ensures in
    record { well = d.well; tagged = d.tagged }

pub returns : goal.returns
returns c =
    let h = held c.args.self.now (search rules) in
    let d = renewal_taken _ h.well _ c.requires c.place-k.ensures.1 h.tagged c.in_ok-cell_refusal.ensures c.row-line.ensures.1 c.next_serial-next.ensures c.line_cells-nine.ensures c.tag.ensures c.absent-free.ensures h c.in_ok-renewal_refusal.ensures c.word_for-word.ensures c.renew_line.ensures in
    rw c.answer.ensures d.step
