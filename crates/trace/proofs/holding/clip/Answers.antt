use mathlib.Core.Path.{sym, ◌∙◌}
use native.Mathlib.Omega.{arith}
use borrow.Author.Tests.{eq-eqb, ne_eqb}
use Rattle.held.specs.Wholes.{whole_of}
use Rattle.held.proofs.Fronts.{take_least}
use Rattle.trace.specs.Arrivals.{clipped}
use Rattle.trace.proofs.holding.clip.Goals as goal

pub returns-then-whole-eq0 : goal.returns-then-whole-eq0
unfolding clipped
returns-then-whole-eq0 c =
    let s = c.args.s.now in
    rw (eq-eqb (whole_of s) 0 (sym c.whole.ensures ∙ c.if-whole-eq0.true)) (take_least 97 c.min.result s (omega arith))

pub returns-else-whole-eq0 : goal.returns-else-whole-eq0
unfolding clipped
returns-else-whole-eq0 c = rw (ne_eqb (whole_of c.args.s.now) 0 (λ z. c.if-whole-eq0.false (c.whole.ensures ∙ z)))
