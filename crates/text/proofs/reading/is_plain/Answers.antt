use mathlib.Core.Path.{◌≡◌, refl}
use native.Mathlib.Omega.{arith}
use native.Mathlib.Numerals.{add-one}
use Rattle.text.specs.Parts.{tabbed, plain_line}
use Rattle.text.proofs.reading.is_plain.Goals as goal

pub loop-k-init : goal.loop-k-init
unfolding tabbed
loop-k-init c = refl

pub loop-k-preserved : goal.loop-k-preserved
unfolding tabbed
loop-k-preserved c = rw (add-one c.loop-k.k, c.loop-k.invariant, c.one_digit-fine.ensures)

pub returns : goal.returns
unfolding plain_line
returns c =
    let l = c.loop-k in
    let e : l.k ≡ 7 = omega arith in
    rw (l.invariant, e, c.one_digit.ensures)
