use native.Mathlib.Omega.{arith}
use lib.ListN.{length-take}
use Rattle.held.proofs.Wholes.{cut}
use Rattle.trace.proofs.holding.ready.Goals as goal

pub slice_bounds-result-end : goal.slice_bounds-result-end
slice_bounds-result-end c = let h = (cut c.args.s.now).within in omega (arith, length-take c.whole.result c.args.s.now)
