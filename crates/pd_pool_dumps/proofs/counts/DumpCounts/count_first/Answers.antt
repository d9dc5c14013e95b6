use Rattle.std.proofs.Common.{refl}
use Rattle.pd_grammar.specs.ThinText.{first_line}
use Rattle.pd_pool_dumps.proofs.RunLemmas.{count_plain}
use Rattle.pd_pool_dumps.proofs.counts.DumpCounts.count_first.Goals as goal

pub returns : goal.returns
returns c = count_plain _ _ first_line refl c.saturating_add-self.ensures refl
