use Rattle.std.proofs.Common.{arith}
use Rattle.lines.specs.Chunks.{lent}
use Rattle.trace.proofs.Turns.{fits}
use Rattle.tokens.proofs.Rooms.{room_after}
use Rattle.tokens.proofs.Turns.go.Goals as goal

pub invariant_of-self-2 : goal.invariant_of-self-2
invariant_of-self-2 g c =
    let s = c.args.self.now in
    let got = c.in_ok-got.got in
    let t = c.turn-t in
    let f = fits s.kept c.read_more.new.buf got.held got.last (lent s.words s.marks s.answers s.out) _ _ t.ensures.value t.ensures.buf_after in
    record { room = room_after f (omega (arith, t.auto, c.read_more.auto)) }
