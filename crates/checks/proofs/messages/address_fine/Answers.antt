use Rattle.rules.proofs.Laws.Bools.{every_is}
use Rattle.rules.specs.WellFormed.{address_fine}
use Rattle.checks.proofs.messages.address_fine.Goals as goal

pub returns : goal.returns
unfolding address_fine
returns c = every_is _
