use mathlib.Core.Path.{ap, ◌∙◌}
use lib.ListN.{length}
use lib.Seq.{sets}
use Rattle.trace.proofs.Turns.{moved}
use Rattle.trace.proofs.holding.hold.Goals as goal

pub returns : goal.returns
returns c =
    let a = c.args in
    let n = c.clip-n.ensures in
    let m = c.move_up.ensures in
    let e = moved a.buf.now a.from a.to c.requires.0 c.requires.1 in
    record { value = (rw n at m.value) ∙ ap length e; buf_after = (rw n at m.list_after) ∙ ap (sets a.buf.now 0) e }
