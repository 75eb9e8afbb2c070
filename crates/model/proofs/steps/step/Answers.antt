use Rattle.model.proofs.Facts.Batches.{step_ran}
use Rattle.model.proofs.steps.step.Goals as goal

pub returns : goal.returns
returns c = step_ran _ c.args.e c.run-after.ensures.state c.run-after.ensures.answers c.answer.ensures
