use Rattle.pd_shrink.proofs.kept.move_kept.Goals as goal

pub move_pool-requires : goal.move_pool-requires
move_pool-requires c = record { moves = rw c.in-Pool.is at c.requires.moves }

pub move_shape-requires : goal.move_shape-requires
move_shape-requires c = record { moves = rw c.in-Shape.is at c.requires.moves }

pub returns-in_ok-move_pool-in-Pool : goal.returns-in_ok-move_pool-in-Pool
returns-in_ok-move_pool-in-Pool c = rw c.in-Pool.is c.in_ok-move_pool-in-Pool.ensures

pub returns-in_ok-move_shape-in-Shape : goal.returns-in_ok-move_shape-in-Shape
returns-in_ok-move_shape-in-Shape c = rw c.in-Shape.is c.in_ok-move_shape-in-Shape.ensures
