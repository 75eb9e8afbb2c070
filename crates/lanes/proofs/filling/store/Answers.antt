use Rattle.std.proofs.Common.{arith}
use Rattle.lanes.proofs.Lined.{put_there}
use Rattle.lanes.proofs.filling.store.Goals as goal

pub returns : goal.returns
returns c = put_there c.args.dst.now c.args.at _ _ c.args.w c.copy_from_slice.ensures.after (omega arith) (omega arith)
