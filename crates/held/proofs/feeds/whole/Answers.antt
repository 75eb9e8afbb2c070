use mathlib.Core.Path.{sym}
use borrow.Author.Rules.{rules}
use Rattle.held.proofs.Feeding.{whole_none, whole_last}
use Rattle.held.proofs.feeds.whole.Goals as goal

pub returns-in-Some : goal.returns-in-Some
returns-in-Some c = sym (whole_last c.args.s.now c.in-Some.last (search rules) (search rules) (search rules))

pub returns-in-None : goal.returns-in-None
returns-in-None c = sym (whole_none c.args.s.now (search rules))
