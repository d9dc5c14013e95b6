use Rattle.std.proofs.Common.{ℕ, List, Err, subst, arith}
use Rattle.std.proofs.lemmas.Result.{err_from_is_err_and}
use Rattle.pd_shrink.specs.Kept.{kept_pool}
use Rattle.pd_shrink.specs.Making.{LooksAtRoom, lack_of_moves}
use Rattle.pd_shrink.proofs.PlanLemmas.{free_in, has_moves, misses_moves}
use Rattle.pd_shrink.proofs.making.find_moves.Goals as goal

pub returns-in_err-look_at_room-clause-found : goal.returns-in_err-look_at_room-clause-found
returns-in_err-look_at_room-clause-found g c =
    let held = (g.A.Device.state c.args.meta.now).held in
    let m = kept_pool c.args.kept.now in
    let found = c.in_ok-free.free in
    let is = c.in_ok-free.ensures in
    let laws = c.stored_free_blocks_are_free.ensures in
    let free = free_in c.args.map.now c.args.kept.now c.args.end c.len.result found.number found.first.items laws.index laws.overflow laws.free held c.requires.sound c.requires.end is.few is.number is.first in
    let p = err_from_is_err_and c.from_residual-in_err-look_at_room.result c.from_residual-in_err-look_at_room.ensures.1 in
    rw (p.1, p.2)
    (misses_moves held m c.args.end c.args.each c.args.pool_blocks c.len.result found.number c.in_ok-sources.sources.items found.first.items c.in_ok-sources.ensures free c.in_err-look_at_room.field-0.0
    (subst (λ (xs : List ℕ). LooksAtRoom (lack_of_moves c.args.each xs found.number c.args.end c.args.pool_blocks) (Err c.in_err-look_at_room.field-0.0)) c.as_slice-from.ensures.value c.in_err-look_at_room.ensures))

pub returns-clause-found : goal.returns-clause-found
returns-clause-found g c =
    let held = (g.A.Device.state c.args.meta.now).held in
    let m = kept_pool c.args.kept.now in
    let found = c.in_ok-free.free in
    let is = c.in_ok-free.ensures in
    let laws = c.stored_free_blocks_are_free.ensures in
    let free = free_in c.args.map.now c.args.kept.now c.args.end c.len.result found.number found.first.items laws.index laws.overflow laws.free held c.requires.sound c.requires.end is.few is.number is.first in (
      free.all,
      has_moves held m c.args.end c.args.each c.args.pool_blocks c.len.result found.number c.in_ok-sources.sources.items found.first.items c.in_ok-sources.ensures free (rw c.as_slice-from.ensures.value at c.in_ok-look_at_room.ensures)
          (omega (arith, c.len.ensures, c.in_ok-sources.sources.ok.0)) is.few c.in_ok-pair_up.field-0.items (rw (c.as_slice-from.ensures.value, c.as_slice-to.ensures.value) at c.in_ok-pair_up.ensures) is.below is.ascend c.requires.end,
    )
