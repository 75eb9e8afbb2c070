use mathlib.Core.Path.{◌∙◌}
use native.Mathlib.Omega.{arith}
use lib.Seq.{sets}
use Rattle.writing.specs.Writing.{answer_text}
use Rattle.writing.proofs.Puts.{length_answer, no_room, is_put}
use Rattle.writing.proofs.answers.write.Goals as goal

pub returns-then-saturating_sub-count : goal.returns-then-saturating_sub-count
returns-then-saturating_sub-count c =
    let a = c.args in
    let l = length_answer a.number a.word a.slot in
    let s = c.saturating_sub.ensures in
    let p = no_room a.dst.now a.at (answer_text a.number a.word a.slot) (omega arith) in
    record { value = p.0; dst_after = p.1 }

pub place-requires : goal.place-requires
place-requires c =
    let a = c.args in
    let l = length_answer a.number a.word a.slot in
    omega arith

pub returns : goal.returns
returns c =
    let a = c.args in
    let l = length_answer a.number a.word a.slot in
    let t = answer_text a.number a.word a.slot in
    let w = is_put a.dst.now a.at t (omega arith) in
    record { value = omega arith; dst_after = ◌∙◌ {b = sets a.dst.now a.at t} c.place.ensures.dst_after w.1 }
