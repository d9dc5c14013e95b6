use Rattle.pd_array.proofs.ArrayWritten.{word_within}
use Rattle.pd_array.proofs.array.lies_within.Goals as goal

pub returns : goal.returns
returns c = word_within c.args.word c.args.block.now.0 c.args.i c.requires
