use Rattle.running.proofs.Facts.Turns.{told}
use Rattle.running.proofs.Facts.Ill.{unknown_refused}
use Rattle.running.proofs.steps.Run.try_step.Goals as goal

pub returns-in_err-try_from : goal.returns-in_err-try_from
returns-in_err-try_from c =
    told _ _ c.from_residual.ensures.1 (rw c.in_err-try_from.ensures.1 (unknown_refused _ _ c.args.self.now.well c.in_err-try_from.ensures.0))
