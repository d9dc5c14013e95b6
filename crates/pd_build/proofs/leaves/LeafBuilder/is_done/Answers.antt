use Rattle.pd_node.proofs.Begun.{length-entries_in}
use Rattle.pd_build.proofs.TakesLemmas.{done_test, sizes_done}
use Rattle.pd_build.proofs.leaves.LeafBuilder.is_done.Goals as goal

pub returns-clause-done : goal.returns-clause-done
returns-clause-done g c =
    let count = length-entries_in g.V.Value.SIZE c.self.inside.block.value.0 c.self.inside.count in
    rw (← c.self.view_is) (rw count (done_test c.self.invariant.0))

pub returns-clause-sizes : goal.returns-clause-sizes
returns-clause-sizes g c none =
    let count = length-entries_in g.V.Value.SIZE c.self.inside.block.value.0 c.self.inside.count in
    rw (← c.self.view_is) (sizes_done c.self.invariant.0 (rw count at (rw (← c.self.view_is) at none)))
