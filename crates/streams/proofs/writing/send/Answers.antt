use native.Mathlib.Omega.{arith}
use lib.ListN.{length-take, length-drop}
use Rattle.std.proofs.Common.{refl}
use Rattle.streams.proofs.writing.send.Goals as goal

pub loop-rest-smaller : goal.loop-rest-smaller
loop-rest-smaller g c =
    let taken = c.if-put-eq0.false in
    simp (length-take, length-drop) (omega arith)

pub returns : goal.returns
returns g c = record { none = λ _. refl }
