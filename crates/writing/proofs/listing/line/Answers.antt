use native.Mathlib.Omega.{arith}
use Rattle.writing.proofs.Rows.{no_line, is_line}
use Rattle.writing.proofs.listing.line.Goals as goal

pub returns-then-dst-at : goal.returns-then-dst-at
returns-then-dst-at c =
    let a = c.args in
    let n = no_line a.dst.now a.at a.numbers.now (omega arith) in
    record { value = n.0; dst_after = n.1 }

pub returns-then-dst-at-2 : goal.returns-then-dst-at-2
returns-then-dst-at-2 c =
    let a = c.args in
    let n = no_line a.dst.now a.at a.numbers.now (omega arith) in
    record { value = n.0; dst_after = n.1 }

pub returns : goal.returns
returns c =
    let a = c.args in
    let p = c.place_line in
    let n = is_line a.dst.now a.at a.numbers.now p.result p.new.dst (omega arith) p.ensures.value p.ensures.dst_after in
    record { value = n.0; dst_after = n.1 }
