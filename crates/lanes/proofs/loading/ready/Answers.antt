use Rattle.held.proofs.Wholes.{cut}
use Rattle.lanes.proofs.loading.ready.Goals as goal

pub returns-clause-within : goal.returns-clause-within
returns-clause-within c = rw c.whole-end.ensures (cut c.args.s.now).within
