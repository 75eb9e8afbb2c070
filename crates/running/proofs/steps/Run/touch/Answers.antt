use Rattle.running.proofs.Facts.Turns.{held, told}
use Rattle.running.proofs.Facts.Cells.{touch_refused, touch_taken}
use borrow.Author.Rules.{rules}
use Rattle.running.proofs.steps.Run.touch.Goals as goal

pub returns-in_err-cell_refusal : goal.returns-in_err-cell_refusal
returns-in_err-cell_refusal c =
    told _ _ c.from_residual.ensures.1 (touch_refused _ c.args.self.now.well _ c.requires c.place-k.ensures.1 _ c.in_err-cell_refusal.ensures)

pub invariant_of-self : goal.invariant_of-self
invariant_of-self c =
    let h = held c.args.self.now (search rules) in
    let d = touch_taken _ h.well _ c.requires c.place-k.ensures.1 h c.in_ok-cell_refusal.ensures c.touch.ensures in
    record { well = d.well; tagged = d.tagged }

pub returns : goal.returns
returns c =
    let h = held c.args.self.now (search rules) in
    let d = touch_taken _ h.well _ c.requires c.place-k.ensures.1 h c.in_ok-cell_refusal.ensures c.touch.ensures in
    rw (c.answer.ensures, c.either-word.ensures) d.step
