use Rattle.pd_salvage_shapes.proofs.LeafTable.{more_uses}
use Rattle.pd_salvage_shapes.proofs.uses.count_use.Goals as goal

pub returns-clause-counted : goal.returns-clause-counted
returns-clause-counted c = λ blocks are. more_uses c.args.uses.now blocks c.args.block c.next_use-next.result c.requires c.next_use-next.ensures are
