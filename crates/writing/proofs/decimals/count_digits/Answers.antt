use Rattle.writing.proofs.Digits.{width_by_log}
use Rattle.writing.proofs.decimals.count_digits.Goals as goal

pub returns : goal.returns
returns c =
    let e = c.checked_ilog10.ensures in
    rw c.unwrap_or.ensures (width_by_log c.args.n c.checked_ilog10.result c.ranges.n.fits e.none e.power_le e.next_power_gt e.bound)
