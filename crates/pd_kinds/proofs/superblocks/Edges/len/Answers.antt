use Rattle.pd_kinds.proofs.SuperLemmas.{length-down}
use Rattle.pd_kinds.proofs.superblocks.Edges.len.Goals as goal

pub returns : goal.returns
returns c = rw (← c.self.view_is) (length-down c.self.inside.items c.self.inside.count)
