use Rattle.model.proofs.Facts.Batches.{batch_refused, batch_ran}
use Rattle.model.proofs.steps.batch.Goals as goal

pub returns-in-Ok : goal.returns-in-Ok
returns-in-Ok c = batch_ran _ _ _ c.in-Ok.ensures.number c.run.ensures.state c.run.ensures.answers c.in-Ok.ensures.count

pub returns-in-Err : goal.returns-in-Err
returns-in-Err c = rw c.number.ensures (batch_refused _ _ _ _ c.in-Err.ensures.number)
