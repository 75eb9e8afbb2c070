use Rattle.std.proofs.Common.{◌≡◌, true, false, rules}
use Rattle.std.proofs.lemmas.Iterator.{YieldsList-from_slice, cases_from_any}
use borrow.Author.Tests.{tests}
use Rattle.renewals.proofs.Words.{no_backup}
use Rattle.renewals.proofs.nines.backupless.Goals as goal

pub returns : goal.returns
returns c =
    no_backup _ c.told-nine _
    (cases_from_any _ _ _ (λ c. c.backup ≡ true) (λ c. c.backup ≡ false) c.any.ensures.ran (YieldsList-from_slice c.args.nine.now cc)
    (λ x q k. search (rules, tests))
    (λ x q k. search (rules, tests)))
