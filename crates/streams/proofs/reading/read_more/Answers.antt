use Rattle.std.proofs.lemmas.Bool.{eqb-true}
use Rattle.streams.proofs.reading.read_more.Goals as goal

pub returns-clause-end : goal.returns-clause-end
returns-clause-end g c = λ z. c.in_ok-more.ensures.end (eqb-true _ _ z)
