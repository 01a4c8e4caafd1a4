use Rattle.worklist.proofs.Puts.{put_one}
use Rattle.worklist.proofs.put.put_byte.Goals as goal

pub returns : goal.returns
returns c = put_one c.args.out.now c.args.at c.args.b c.requires
