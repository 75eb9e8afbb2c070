use mathlib.Core.Path.{◌≡◌, refl}
use Rattle.std.proofs.Common.{rules}
use Rattle.std.specs.Prelude.{Some}
use lib.ListN.{length}
use Rattle.probes.specs.declared.joining.Refusal.TheVariants.{NoRoom}
use Rattle.lanes.proofs.Rounds.{no_text, refused, leaves, done}
use Rattle.lanes.proofs.turning.turn_both.Goals as goal

pub returns-then-out-n : goal.returns-then-out-n
returns-then-out-n c =
    let a = c.args in
    let e : c.refused.result ≡ record { refused = Some NoRoom; first = length a.first.now; second = length a.second.now; written = 0 } = search rules in
    rw e (no_text a.first.now a.second.now a.third.now a.out.now c.if-out-n.true)

pub move_rest-left-requires : goal.move_rest-left-requires
move_rest-left-requires c =
    let a = c.args in
    leaves a.first.now a.second.now a.third.now a.out.now c.if-out-n.false _ _ _ _ _ c.in-Ok.ensures refl

pub returns-in-Ok : goal.returns-in-Ok
returns-in-Ok c =
    let a = c.args in
    done a.first.now a.second.now a.third.now a.out.now c.if-out-n.false _ _ _ _ _ c.in-Ok.ensures refl _ _ _ c.move_rest-left.ensures

pub returns-in-Err : goal.returns-in-Err
returns-in-Err c =
    let a = c.args in
    let e : c.refused-in-Err.result ≡ record { refused = Some c.in-Err.why; first = length a.first.now; second = length a.second.now; written = 0 } = search rules in
    rw e (refused a.first.now a.second.now a.third.now a.out.now c.if-out-n.false _ _ _ _ _ c.in-Err.ensures c.in-Err.why refl)
