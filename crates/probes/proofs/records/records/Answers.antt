use mathlib.Core.Path.{◌∙◌}
use Rattle.probes.specs.Records.{records_of}
use Rattle.probes.proofs.Words.{chunks}
use Rattle.probes.proofs.records.records.Goals as goal

pub returns-clause-cut : goal.returns-clause-cut
unfolding records_of
returns-clause-cut c = c.as_chunks.ensures.front ∙ chunks _ _
