use Rattle.rules.specs.Refusals.{table, given}
use Rattle.rules.proofs.Laws.Bools.{told}
use Rattle.numbers.specs.Rows.{from}
use Rattle.renewals.specs.Nines.{copy_refusal}
use Rattle.renewals.proofs.nines.copy_refusal.Goals as goal

pub returns-then-backupless : goal.returns-then-backupless
unfolding copy_refusal from table given
returns-then-backupless c =
    simp (told c.copyless.ensures c.if-not-copyless.false, told c.backupless.ensures c.if-backupless.true)

pub returns-then-x : goal.returns-then-x
unfolding copy_refusal from table given
returns-then-x c =
    simp (told c.copyless.ensures c.if-not-copyless.false, told c.backupless.ensures c.if-backupless.false, c.if-x.true)

pub returns-else-x : goal.returns-else-x
unfolding copy_refusal from table given
returns-else-x c =
    simp (told c.copyless.ensures c.if-not-copyless.false, told c.backupless.ensures c.if-backupless.false, c.if-x.false)
