use Rattle.pd_laid.specs.Shape.{pool_of}
use Rattle.pd_laws_changed.proofs.MovedShapes.{shape_lawful}
use Rattle.pd_laws_changed.proofs.moved.moved_shapes_are_lawful.Goals as goal

pub returns : goal.returns
returns c = λ w end free lawful moving.
    shape_lawful c.moved_shapes_mean_moved_pools.ensures w end free lawful (c.moved_pool_is_lawful.ensures (pool_of w) end free lawful.pool moving)
