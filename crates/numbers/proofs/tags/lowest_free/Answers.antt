use Rattle.numbers.proofs.Facts.Searches.{◌≡◌, true, false, eqb, rules, tests, YieldsList-from_slice, IsFirst-from_position}
use Rattle.numbers.proofs.Facts.Tags.{slot_first}
use Rattle.numbers.proofs.tags.lowest_free.Goals as goal

pub returns-clause-lowest : goal.returns-clause-lowest
returns-clause-lowest c =
    slot_first _ c.told-tags _
    (IsFirst-from_position _ _ _ (λ x. eqb x 0 ≡ true) (λ x. eqb x 0 ≡ false) c.position.ensures.ran (YieldsList-from_slice c.args.tags.now cc)
    (λ x q k. search (rules, tests))
    (λ x q k. search (rules, tests)))
