use mathlib.Core.Path.{◌∙◌}
use Rattle.lines.proofs.Starts.{start_three, start_other}
use Rattle.lines.proofs.starting.start_line.Goals as goal

pub returns-then-line-eq3 : goal.returns-then-line-eq3
returns-then-line-eq3 c = c.start.ensures ∙ start_three _ _ c.if-line-eq3.true

pub returns : goal.returns
returns c = start_other _ _ _ c.unstarted.ensures c.if-line-eq3.false
