use native.Mathlib.Omega.{arith}
use Rattle.running.proofs.Facts.Running.{begins, goes_on, ends}
use Rattle.running.proofs.turns.turns.Goals as goal

pub loop-i-init : goal.loop-i-init
loop-i-init c = begins _ _ _ c.new-run.ensures

pub loop-i-preserved : goal.loop-i-preserved
loop-i-preserved c = goes_on c.loop-i.invariant c.loop-i-test.true c.decode-e.ensures c.step.ensures c.put.ensures

pub returns : goal.returns
returns c = let d = ends c.loop-i.invariant (omega arith) in record { state = d.0; answers = d.1 }
