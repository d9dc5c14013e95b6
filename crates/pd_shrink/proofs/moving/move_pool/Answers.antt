use Rattle.std.proofs.Common.{ap, ◌∙◌}
use Rattle.pd_salvage.specs.declared.saved.SavedHead.{SavedHead}
use Rattle.pd_salvage.specs.Saved.{pool_of}
use Rattle.pd_shrink.specs.Moves.{moves_in}
use Rattle.pd_shrink.specs.Moves.{head_to}
use Rattle.pd_shrink.proofs.MovesLemmas.{after_sound, moves_are_ordered, pool_after, runs_fit}
use Rattle.pd_shrink.proofs.moving.move_pool.Goals as goal

pub move_all-requires-clause-ordered : goal.move_all-requires-clause-ordered
move_all-requires-clause-ordered c = moves_are_ordered (pool_of c.args.saved.now) c.head.ensures.sound.lawful c.args.end (moves_in c.args.moves.now) c.requires.moves

pub move_all-requires-clause-fits : goal.move_all-requires-clause-fits
move_all-requires-clause-fits c = rw c.runs.ensures (runs_fit c.args.saved.now c.head.ensures.sound c.args.end (moves_in c.args.moves.now) c.requires.moves)

pub of_parts-requires : goal.of_parts-requires
of_parts-requires c =
    after_sound c.args.saved.now c.head.ensures.sound c.args.end (moves_in c.args.moves.now) c.requires.moves c.head_to-head.result c.in_ok-moved.moved.parts.items c.in_ok-moved.moved.runs
    (c.head_to-head.ensures ∙ ap (λ (h : SavedHead). head_to h c.args.end) c.head.ensures.head) (rw (c.devices.ensures, c.runs.ensures) at c.in_ok-moved.ensures) c.moved_pool_is_lawful.ensures

pub returns : goal.returns
returns c =
    ap pool_of c.of_parts.ensures
    ∙ pool_after c.args.saved.now c.head.ensures.sound c.args.end (moves_in c.args.moves.now) c.requires.moves c.head_to-head.result c.in_ok-moved.moved.parts.items c.in_ok-moved.moved.runs
    (c.head_to-head.ensures ∙ ap (λ (h : SavedHead). head_to h c.args.end) c.head.ensures.head) (rw (c.devices.ensures, c.runs.ensures) at c.in_ok-moved.ensures)
