use Rattle.std.proofs.Common.{◌∙◌}
use Rattle.pd_damaged.proofs.GivenLemmas.{search_is}
use Rattle.pd_damaged.proofs.given.contains.Goals as goal

pub returns : goal.returns
returns c = c.is_ok.ensures.value ∙ search_is c.args.ids.now c.args.id c.binary_search.result c.requires c.binary_search.ensures.position
