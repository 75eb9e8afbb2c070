use Rattle.lines.specs.Chunks.{lent}
use Rattle.lines.proofs.Starts.{lists_aside}
use Rattle.lines.proofs.advancing.advance.Goals as goal

pub returns : goal.returns
returns c =
    let a = c.args in
    let b = c.begin in
    let n =
    lists_aside a.kept a.s.now (lent a.words.now a.marks.now a.answers.now a.out.now) c.if-kept.false b.result b.new.out
    (b.ensures.value, b.ensures.out_after) in
    record { value = n.0; out_after = n.1 }
