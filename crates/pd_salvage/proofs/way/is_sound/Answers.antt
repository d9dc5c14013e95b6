use Rattle.pd_kinds.specs.Node.{node_bad}
use Rattle.pd_kinds.specs.Rule.{has_rule}
use Rattle.pd_laid.specs.Salvage.{is_damaged}
use Rattle.pd_salvage.proofs.WayLemmas.{sound_is}
use Rattle.pd_salvage.proofs.way.is_sound.Goals as goal

pub returns : goal.returns
unfolding is_damaged
returns g c =
    sound_is (node_bad g.V.Value.SIZE c.args.place c.args.block.now.0) (has_rule c.node_rules.result) c.is_empty.result c.node_rules.ensures c.is_empty.ensures
