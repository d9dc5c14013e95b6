use Rattle.pd_check.proofs.ArrayMarkLemmas.{shown_counted}
use Rattle.pd_check.proofs.array_rules.shown_blocks_are_counted.Goals as goal

pub returns : goal.returns
returns c = shown_counted
