use native.Mathlib.Omega.{arith}
use Rattle.probes.proofs.Chunks.{word_written, word_kept}
use Rattle.probes.proofs.records.put.Goals as goal

pub loop-k-preserved : goal.loop-k-preserved
loop-k-preserved c =
    let l = c.loop-k in
    let p = c.args in
    record {
      written = word_written p.words.now l.words p.«record».now p.at l.k (omega arith) (omega arith) l.invariant.written;
      kept = word_kept p.words.now l.words p.«record».now p.at l.k (omega arith) _ l.invariant.kept;
    }
