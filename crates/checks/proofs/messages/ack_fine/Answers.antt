use Rattle.rules.proofs.Laws.Bools.{every_is}
use Rattle.rules.specs.WellFormed.{ack_fine}
use Rattle.checks.proofs.messages.ack_fine.Goals as goal

pub returns : goal.returns
unfolding ack_fine
returns c = every_is _
