use Rattle.pd_texts.proofs.StateLemmas.{unused_is}
use Rattle.pd_texts.proofs.leaves.Leaves.has_unused.Goals as goal

pub returns : goal.returns
returns c = unused_is c.args.self.now
