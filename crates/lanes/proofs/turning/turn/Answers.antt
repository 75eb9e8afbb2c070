use Rattle.lanes.proofs.Rounds.{of_first_words}
use Rattle.lanes.proofs.turning.turn.Goals as goal

pub returns : goal.returns
returns c =
    let a = c.args in
    of_first_words a.first.now a.second.now a.third.now a.out.now a.n a.m _ _ c.min-n.ensures c.min-m.ensures _ _ _ _ _ c.turn_both.ensures
