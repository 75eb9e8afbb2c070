use Rattle.text.proofs.NineFields.{nine_none, nine_end, nine_eight, nine_other}
use Rattle.text.proofs.nines.take_nine.Goals as goal

pub returns-in_default : goal.returns-in_default
returns-in_default c = nine_none _ _ c.in_default.ensures _ c.next_line.ensures

pub returns-then-f-ne9 : goal.returns-then-f-ne9
returns-then-f-ne9 c = nine_end _ _ c.in-Some.f c.in-Some.ensures c.if-f-ne9.true _ c.next_line-then-f-ne9.ensures

pub returns-then-t-ne8 : goal.returns-then-t-ne8
returns-then-t-ne8 c = nine_other _ _ c.in-Some.f c.in-Some.ensures c.if-f-ne9.false _ c.take-t.ensures c.if-t-ne8.true

pub returns : goal.returns
returns c = nine_eight _ _ c.in-Some.f c.in-Some.ensures c.if-f-ne9.false _ c.take-t.ensures c.if-t-ne8.false _ c.nine_of.ensures
