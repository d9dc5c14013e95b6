use Rattle.std.proofs.Common.{true, false, map, sym, ap, ◌∙◌, arith}
use Rattle.std.specs.Option.{is_some}
use Rattle.std.proofs.lemmas.Bool.{eqb-true}
use Rattle.pd_kinds.proofs.CrashLemmas.{still_tells}
use Rattle.pd_answers.specs.Shrinks.{copy_of_move}
use Rattle.pd_writeback.proofs.PlanLemmas.{kept_here, kept_synced}
use Rattle.pd_shrink.specs.Moves.{moves_in}
use Rattle.pd_shrink.proofs.CopiedLemmas.{copied_synced, left_of_ground, none_moved, number_moved}
use Rattle.pd_shrink.proofs.plan.Shrink.copy.Goals as goal

pub returns-clause-copied : goal.returns-clause-copied
returns-clause-copied g c is_shared basis held of synced =
    copied_synced basis c.args.self.now of held (g.C.Device.state c.args.pool.now) (g.C.Device.state c.copy_moved.new.pool) (g.C.Device.state c.sync.new.self)
    (rw c.as_slice.ensures.value at c.in_ok-copy_moved.ensures.copied) c.in_ok-sync.ensures.synced.crash c.sync.ensures.synced.held synced

pub returns-then-is_empty-clause-count : goal.returns-then-is_empty-clause-count
returns-then-is_empty-clause-count g c is_shared basis of none =
    let empty = eqb-true _ 0 (sym c.is_empty.ensures ∙ c.if-is_empty.true) in
    let number = number_moved basis c.args.self.now of none in
    omega (arith, empty, number, c.args.self.now.moves.ok.0)

pub returns-then-is_empty-clause-copied : goal.returns-then-is_empty-clause-copied
returns-then-is_empty-clause-copied g c is_shared basis held of synced =
    let empty = eqb-true _ 0 (sym c.is_empty.ensures ∙ c.if-is_empty.true) in
    none_moved basis c.args.self.now of held (g.C.Device.state c.args.pool.now) (omega (arith, empty, c.args.self.now.moves.ok.0)) synced

pub returns-in_err-copy_moved-clause-crash : goal.returns-in_err-copy_moved-clause-crash
returns-in_err-copy_moved-clause-crash g c is_shared basis held of synced =
    let plan = c.args.self.now in
    left_of_ground basis plan of held
    ((rw c.as_slice.ensures.value at (c.copy_moved.ensures.crash held)) (kept_here plan.each (map copy_of_move (moves_in plan.moves.items)) held (g.C.Device.state c.args.pool.now) synced))

pub returns-clause-count : goal.returns-clause-count
returns-clause-count g c is_shared basis of none =
    let number = number_moved basis c.args.self.now of none in
    omega (arith, number, c.len.ensures, c.args.self.now.moves.ok.0)

pub returns-clause-crash : goal.returns-clause-crash
returns-clause-crash g c is_shared basis held of synced =
    let plan = c.args.self.now in
    let copies = map copy_of_move (moves_in plan.moves.items) in
    left_of_ground basis plan of held
    (kept_synced plan.each copies held true ((rw c.as_slice.ensures.value at (c.copy_moved.ensures.crash held)) (kept_here plan.each copies held (g.C.Device.state c.args.pool.now) synced))
    c.in_ok-sync.ensures.synced.crash c.sync.ensures.synced.held)

pub returns-in_err-sync-clause-crash : goal.returns-in_err-sync-clause-crash
returns-in_err-sync-clause-crash g c is_shared basis held of synced =
    let plan = c.args.self.now in
    let copies = map copy_of_move (moves_in plan.moves.items) in
    left_of_ground basis plan of held
    (kept_synced plan.each copies held false ((rw c.as_slice.ensures.value at (c.copy_moved.ensures.crash held)) (kept_here plan.each copies held (g.C.Device.state c.args.pool.now) synced))
    c.in_err-sync.ensures.synced.crash c.sync.ensures.synced.held)

pub returns-in_err-copy_moved-clause-told : goal.returns-in_err-copy_moved-clause-told
returns-in_err-copy_moved-clause-told g c = still_tells (g.C.Device.state c.args.pool.now) (g.C.Device.state c.copy_moved.new.pool) c.copy_moved.ensures.told

pub returns-clause-told : goal.returns-clause-told
returns-clause-told g c =
    still_tells (g.C.Device.state c.args.pool.now) (g.C.Device.state c.sync.new.self) (ap is_some c.sync.ensures.synced.held ∙ c.copy_moved.ensures.told)

pub returns-in_err-sync-clause-told : goal.returns-in_err-sync-clause-told
returns-in_err-sync-clause-told g c =
    still_tells (g.C.Device.state c.args.pool.now) (g.C.Device.state c.sync.new.self) (ap is_some c.sync.ensures.synced.held ∙ c.copy_moved.ensures.told)
