use Rattle.numbers.proofs.Facts.Tags.{none_is}
use Rattle.numbers.proofs.tags.absent.Goals as goal

pub returns : goal.returns
returns c = none_is _ c.told-tags _ _ c.contains.ensures.cases
