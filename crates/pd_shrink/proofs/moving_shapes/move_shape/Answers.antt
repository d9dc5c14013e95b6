use Rattle.std.proofs.Common.{ap, ◌∙◌}
use Rattle.pd_salvage.specs.declared.saved.SavedHead.{SavedHead}
use Rattle.pd_salvage.specs.SavedShape.{held_shape}
use Rattle.pd_shrink.specs.Moves.{moves_in}
use Rattle.pd_shrink.specs.Moves.{head_to}
use Rattle.pd_shrink.proofs.ShapeMoves.{leaf_runs_fit, own_runs_fit, shape_after, shape_moves_ordered, shape_sound}
use Rattle.pd_shrink.proofs.moving_shapes.move_shape.Goals as goal

pub move_all-requires-clause-ordered : goal.move_all-requires-clause-ordered
move_all-requires-clause-ordered c = shape_moves_ordered c.args.saved.now c.head.ensures.sound c.args.end (moves_in c.args.moves.now) c.requires.moves

pub move_all-requires-clause-fits : goal.move_all-requires-clause-fits
move_all-requires-clause-fits c = rw c.leaf_runs.ensures (leaf_runs_fit c.args.saved.now c.head.ensures.sound)

pub move_all-requires-2-clause-ordered : goal.move_all-requires-2-clause-ordered
move_all-requires-2-clause-ordered c = shape_moves_ordered c.args.saved.now c.head.ensures.sound c.args.end (moves_in c.args.moves.now) c.requires.moves

pub move_all-requires-2-clause-fits : goal.move_all-requires-2-clause-fits
move_all-requires-2-clause-fits c = rw c.runs.ensures (own_runs_fit c.args.saved.now c.head.ensures.sound)

pub of_parts-requires : goal.of_parts-requires
of_parts-requires c =
    shape_sound c.args.saved.now c.head.ensures.sound c.args.end (moves_in c.args.moves.now) c.requires.moves c.head_to-head.result c.in_ok-leaves.leaves c.in_ok-pieces.pieces c.in_ok-devices.devices.items
    (c.head_to-head.ensures ∙ ap (λ (h : SavedHead). head_to h c.args.end) c.head.ensures.head) (c.in_ok-devices.ensures.items ∙ c.devices.ensures)
    (rw (c.leaves.ensures, c.leaf_runs.ensures) at c.in_ok-leaves.ensures) (rw (c.pieces.ensures, c.runs.ensures) at c.in_ok-pieces.ensures) c.moved_shapes_are_lawful.ensures

pub returns : goal.returns
returns c =
    ap held_shape c.of_parts.ensures
    ∙ shape_after c.args.saved.now c.head.ensures.sound c.args.end (moves_in c.args.moves.now) c.requires.moves c.head_to-head.result c.in_ok-leaves.leaves c.in_ok-pieces.pieces c.in_ok-devices.devices.items
    (c.head_to-head.ensures ∙ ap (λ (h : SavedHead). head_to h c.args.end) c.head.ensures.head) (c.in_ok-devices.ensures.items ∙ c.devices.ensures)
    (rw (c.leaves.ensures, c.leaf_runs.ensures) at c.in_ok-leaves.ensures) (rw (c.pieces.ensures, c.runs.ensures) at c.in_ok-pieces.ensures)
