use Rattle.std.proofs.Common.{◌≡◌, get_or, arith, length-set}
use Rattle.rules.specs.States.{free_message}
use Rattle.rules.proofs.Facts.Loops.{table_more}
use Rattle.numbers.specs.Tags.{slot_tag}
use Rattle.numbers.proofs.tags.tags_of.Goals as goal

pub loop-i-preserved : goal.loop-i-preserved
loop-i-preserved c =
    let w = c.loop-i.invariant in
    (simp length-set w.0, table_more 0 (λ j x. x ≡ slot_tag (get_or c.args.pool j free_message)) _ _ _ (omega arith) w.1 c.tag.ensures)
