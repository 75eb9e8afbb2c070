use Rattle.rules.proofs.Facts.Loops.{fill_none}
use Rattle.running.proofs.Facts.Timeouts.{renewed_more}
use mathlib.Core.Path.{refl}
use Rattle.running.proofs.steps.renew_line.Goals as goal

pub loop-node-init : goal.loop-node-init
loop-node-init c = fill_none _ _ _

pub loop-node-preserved : goal.loop-node-preserved
loop-node-preserved c = renewed_more _ _ _ _ _ _ c.loop-node.invariant refl c.renewed.ensures
