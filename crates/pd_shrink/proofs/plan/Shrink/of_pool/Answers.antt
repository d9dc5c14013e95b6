use Rattle.std.proofs.Common.{ap, sym, ◌∙◌, arith}
use Rattle.std.proofs.lemmas.Result.{err_from_is_err_and}
use Rattle.pd_answers.specs.Writebacks.{blocks_each, is_block_size_bad}
use Rattle.pd_shrink.specs.Kept.{moved_in, shared_of}
use Rattle.pd_shrink.specs.Moves.{moves_in}
use Rattle.pd_shrink.proofs.RoomLemmas.{pool_number, pool_size}
use Rattle.pd_shrink.proofs.PlanLemmas.{finished_counts, finished_plans, lacks_pool_size, missed_plans}
use Rattle.pd_shrink.proofs.plan.Shrink.of_pool.Goals as goal

pub returns-then-is_block_size_bad-clause-plans : goal.returns-then-is_block_size_bad-clause-plans
returns-then-is_block_size_bad-clause-plans g c =
    lacks_pool_size c.args.output_blocks c.args.pool_blocks c.args.blocks (g.A.Device.state c.args.meta.now).held c.args.map.now c.args.kept.now c.requires.sound
    (ap is_block_size_bad (pool_size c.args.kept.now c.head_of-head.result.now c.head_of-head.ensures.head) ∙ (sym c.is_block_size_bad.ensures ∙ c.if-is_block_size_bad.true))

pub find_moves-requires-clause-end : goal.find_moves-requires-clause-end
find_moves-requires-clause-end g c =
    let number = pool_number c.args.kept.now c.head_of-head.result.now c.head_of-head.ensures.head in
    omega (arith, number, c.min-end.ensures)

pub finish-requires-clause-moves : goal.finish-requires-clause-moves
finish-requires-clause-moves g c = c.in_ok-moves.ensures.found.1.moving

pub finish-requires-clause-across : goal.finish-requires-clause-across
finish-requires-clause-across g c = c.in_ok-moves.ensures.found.1.across

pub finish-requires-clause-once : goal.finish-requires-clause-once
finish-requires-clause-once g c = c.in_ok-moves.ensures.found.1.once

pub returns-clause-plans : goal.returns-clause-plans
returns-clause-plans g c =
    let head = c.head_of-head.result.now in
    let size = pool_size c.args.kept.now head c.head_of-head.ensures.head in
    let number = pool_number c.args.kept.now head c.head_of-head.ensures.head in
    finished_plans (g.A.Device.state c.args.meta.now).held c.args.map.now c.args.kept.now c.min-end.result (blocks_each head.block_size) c.args.output_blocks c.args.pool_blocks c.args.blocks c.requires.sound
    (omega (arith, number, c.min-end.ensures)) (ap is_block_size_bad size ∙ (sym c.is_block_size_bad.ensures ∙ c.if-is_block_size_bad.false)) (ap blocks_each (sym size))
    c.in_ok-moves.ensures.found.0 c.in_ok-moves.moves.items c.in_ok-moves.ensures.found.1 c.finish.result c.finish.ensures

pub returns-clause-faults : goal.returns-clause-faults
returns-clause-faults g c =
    finished_counts (shared_of c.args.kept.now) (moved_in c.args.kept.now c.min-end.result (moves_in c.in_ok-moves.moves.items)) c.in_ok-moves.moves.items (blocks_each c.head_of-head.result.now.block_size) c.args.output_blocks
    c.args.pool_blocks c.finish.result c.finish.ensures c.in_ok-moves.ensures.faults

pub returns-in_err-moves-clause-plans : goal.returns-in_err-moves-clause-plans
returns-in_err-moves-clause-plans g c =
    let head = c.head_of-head.result.now in
    let size = pool_size c.args.kept.now head c.head_of-head.ensures.head in
    let number = pool_number c.args.kept.now head c.head_of-head.ensures.head in
    let p = err_from_is_err_and c.from_residual.result c.from_residual.ensures.1 in
    rw (p.1, p.2)
    (missed_plans (g.A.Device.state c.args.meta.now).held c.args.map.now c.args.kept.now c.min-end.result (blocks_each head.block_size) c.args.output_blocks c.args.pool_blocks c.args.blocks
    c.requires.sound (omega (arith, number, c.min-end.ensures)) (ap is_block_size_bad size ∙ (sym c.is_block_size_bad.ensures ∙ c.if-is_block_size_bad.false))
    (ap blocks_each (sym size)) c.in_err-moves.field-0.0 c.in_err-moves.ensures.found)
