use Rattle.rules.specs.Cells.{want_after}
use mathlib.Core.Path.{sym, ◌∙◌}
use Rattle.rules.proofs.cells.Cell.want_left.Goals as goal

pub returns-then-is_served : goal.returns-then-is_served
unfolding want_after
returns-then-is_served c = rw (sym c.is_served.ensures ∙ c.if-is_served.true)

pub returns-else-is_served : goal.returns-else-is_served
unfolding want_after
returns-else-is_served c = rw (sym c.is_served.ensures ∙ c.if-is_served.false)
