use Rattle.rules.proofs.Laws.Bools.{told}
use Rattle.whole.proofs.Facts.Fresh.{start_refused}
use Rattle.whole.proofs.starts.start.Goals as goal

pub returns-else-sizes_fine : goal.returns-else-sizes_fine
returns-else-sizes_fine c =
    start_refused _ _ _ (told c.sizes_fine.ensures c.if-sizes_fine.false) c.fresh-else-sizes_fine.ensures c.refused.ensures
