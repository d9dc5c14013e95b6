use Rattle.std.proofs.Common.{refl}
use Rattle.pd_grammar.specs.ThinText.{end_line}
use Rattle.pd_pool_dumps.proofs.RunLemmas.{count_plain}
use Rattle.pd_pool_dumps.proofs.counts.DumpCounts.count_end.Goals as goal

pub returns : goal.returns
returns c = count_plain _ _ end_line refl c.saturating_add-self.ensures refl
