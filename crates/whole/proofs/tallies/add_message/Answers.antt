use Rattle.whole.proofs.Facts.Tables.{message_adds, message_adds_few, message_adds_none}
use lib.ListN.{get_or}
use native.Mathlib.Omega.{arith}
use Rattle.whole.proofs.tallies.add_message.Goals as goal

pub returns-then-at-lt16 : goal.returns-then-at-lt16
returns-then-at-lt16 c =
    let a = c.args in
    let more = c.counted_tokens.ensures in
    record {
      sum = λ k h. message_adds a.sums.now (λ j. (get_or a.serials.now j (record { 0 = 0 })).0) a.m (omega arith) more.0 k;
      small = λ k h. message_adds_few a.sums.now (λ j. (get_or a.serials.now j (record { 0 = 0 })).0) a.m (omega arith) more.0 more.1 k;
    }

pub returns-else-at-lt16 : goal.returns-else-at-lt16
returns-else-at-lt16 c =
    let a = c.args in
    record {
      sum = λ k h. message_adds_none a.sums.now (λ j. (get_or a.serials.now j (record { 0 = 0 })).0) a.m c.if-at-lt16.false k h;
      small = λ k h. omega arith;
    }
