use Rattle.running.proofs.Facts.Running.{refuse_begins, refuse_more, refuse_ends}
use native.Mathlib.Omega.{arith}
use Rattle.running.proofs.runs.refuse_all.Goals as goal

pub loop-i-init : goal.loop-i-init
loop-i-init c = refuse_begins c.args.n c.args.answers.now

pub loop-i-preserved : goal.loop-i-preserved
loop-i-preserved c = refuse_more c.loop-i.answers c.loop-i-test.true c.refused.ensures c.put.ensures c.loop-i.invariant

pub returns : goal.returns
returns c = refuse_ends {n = c.args.n} {i = c.loop-i.i} c.loop-i.answers (omega arith) c.loop-i.invariant
