use Rattle.pd_pool_dumps.proofs.RunLemmas.{count_both}
use Rattle.pd_pool_dumps.proofs.counts.DumpCounts.add.Goals as goal

pub returns : goal.returns
returns c = count_both c.args.self.now _ c.args.other.now c.saturating_add-self.ensures c.saturating_add-self-2.ensures
