use mathlib.Core.Path.{◌∙◌}
use native.Mathlib.Omega.{arith}
use Rattle.text.proofs.Takes.{ends_none, ends_here, goes_on}
use Rattle.text.proofs.reading.finish.Goals as goal

pub returns-then-s-end : goal.returns-then-s-end
returns-then-s-end c = ends_none _ _ _ _ c.if-s-end.true

pub returns-then-s-end-eq10 : goal.returns-then-s-end-eq10
returns-then-s-end-eq10 c = ends_here _ _ _ _ (omega arith) c.if-s-end-eq10.true

pub returns : goal.returns
returns c = c.skip.ensures ∙ goes_on _ _ _ _ (omega arith) c.if-s-end-eq10.false
