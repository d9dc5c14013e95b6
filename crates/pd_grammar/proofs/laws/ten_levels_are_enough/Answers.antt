use Rattle.pd_grammar.proofs.NeedLemmas.{none_above_one, one_level_more}
use Rattle.pd_grammar.proofs.laws.ten_levels_are_enough.Goals as goal

pub returns : goal.returns
returns c = record { none = none_above_one; more = one_level_more }
