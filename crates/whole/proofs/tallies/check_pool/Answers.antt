use Rattle.rules.proofs.Facts.Loops.{all_more, all_none, sum_none, sum_onto}
use Rattle.rules.specs.States.{serial_at, slot_at}
use Rattle.rules.specs.WellFormed.{borne, counted, in_messages, slot_fine}
use Rattle.whole.proofs.Facts.Tables.{all_fails}
use native.Mathlib.Omega.{arith}
use mathlib.Core.Path.{◌≡◌, sym}
use Rattle.whole.proofs.tallies.check_pool.Goals as goal

pub loop-m-init : goal.loop-m-init
loop-m-init c = record {
  long = c.told-before;
  fine = sym (all_none _);
  sum = λ k h. omega (arith, sum_none (λ j. counted k (serial_at c.args.s.now k) borne (slot_at c.args.s.now j)));
  small = λ k h. omega (arith, c.requires k h);
}

pub returns-then-not-message_fine : goal.returns-then-not-message_fine
unfolding slot_at
returns-then-not-message_fine c =
    all_fails 64 c.loop-m.m-index (slot_fine c.args.s.now) c.loop-m-test.true (sym c.if-not-message_fine.ensures)

pub loop-m-preserved : goal.loop-m-preserved
unfolding slot_at serial_at
loop-m-preserved c =
    let s = c.args.s.now in
    let w = c.loop-m.invariant in
    record {
      long = c.type_inv.sums;
      fine = sym (all_more _ (slot_fine s) (sym w.fine) c.if-not-message_fine.ensures);
      sum = λ k h. sum_onto _ _ (λ j. counted k (serial_at s k) borne (slot_at s j)) (c.add_message.ensures.sum k h) (w.sum k h);
      small = λ k h. omega (arith, c.add_message.ensures.small k h, w.small k h);
    }

pub returns : goal.returns
unfolding in_messages
returns c =
    let e : c.loop-m.m-index ≡ 64 = omega arith in
    record { fine = rw e at c.loop-m.invariant.fine; long = c.loop-m.invariant.long; sum = rw e at c.loop-m.invariant.sum }
