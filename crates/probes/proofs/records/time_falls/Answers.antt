use Rattle.std.proofs.Common.{rules}
use Rattle.std.proofs.lemmas.List.Sorted.{answers_always}
use lib.Dec.{leb}
use Rattle.probes.specs.Records.{time_of}
use Rattle.probes.proofs.Falls.{falls_told}
use Rattle.probes.proofs.records.time_falls.Goals as goal

pub returns : goal.returns
returns c =
    falls_told _ _ (c.is_sorted_by.ensures.cases (λ a b. leb (time_of a) (time_of b)) (answers_always _ _ _ (λ f a r f' h. search rules)))
