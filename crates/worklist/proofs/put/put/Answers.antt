use Rattle.std.proofs.Common.{refl}
use Rattle.worklist.proofs.Puts.{put_part}
use Rattle.worklist.proofs.put.put.Goals as goal

pub returns : goal.returns
returns c = put_part c.args.out.now c.args.bytes.now _ c.args.at _ c.copy_from_slice.ensures.after refl c.requires
