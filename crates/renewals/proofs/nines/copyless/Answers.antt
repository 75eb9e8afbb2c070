use Rattle.std.proofs.Common.{◌≡◌, ◌||◌, true, false, rules}
use Rattle.std.proofs.lemmas.Iterator.{YieldsList-from_slice, cases_from_any}
use borrow.Author.Tests.{tests}
use Rattle.renewals.proofs.Words.{no_copy}
use Rattle.renewals.proofs.nines.copyless.Goals as goal

pub returns : goal.returns
returns c =
    no_copy _ c.told-nine _
    (cases_from_any _ _ _ (λ c. c.owner || c.valid ≡ true) (λ c. c.owner || c.valid ≡ false) c.any.ensures.ran (YieldsList-from_slice c.args.nine.now cc)
    (λ x q k. search (rules, tests))
    (λ x q k. search (rules, tests)))
