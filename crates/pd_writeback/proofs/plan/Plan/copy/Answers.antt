use Rattle.std.proofs.Common.{ℕ, List, true, false, sym, ap, ◌∙◌, subst, arith}
use Rattle.std.specs.Option.{is_some}
use Rattle.std.proofs.lemmas.Bool.{eqb-true}
use Rattle.std.proofs.lemmas.Option.{IfSome_then}
use Rattle.pd_kinds.specs.Crash.{HoldsSynced}
use Rattle.pd_kinds.specs.Meaning.{cache_meaning}
use Rattle.pd_kinds.proofs.CrashLemmas.{still_tells}
use Rattle.pd_answers.specs.Writebacks.{blocks_each, hot_blocks}
use Rattle.pd_writeback.specs.Copied.{IsEachOnce}
use Rattle.pd_writeback.specs.Plan.{plan_hot}
use Rattle.pd_writeback.proofs.OverlaidLemmas.{once_in_any_order}
use Rattle.pd_writeback.proofs.PlanLemmas.{cold_blocks, cold_told, copied_synced, kept_here, kept_in_any_order, kept_synced, warm_copied}
use Rattle.pd_writeback.proofs.plan.Plan.copy.Goals as goal

pub returns-then-is_empty-clause-copied : goal.returns-then-is_empty-clause-copied
returns-then-is_empty-clause-copied g c image none of =
    let cold = cold_blocks (hot_blocks (cache_meaning image)) c.args.self.now.hot.items of.hot (let empty = eqb-true _ 0 (sym c.is_empty.ensures ∙ c.if-is_empty.true) in omega (arith, c.args.self.now.hot.ok.0)) in
    cold_told image cold (g.C.Device.state c.args.fast.now).held (g.B.Device.state c.args.origin.now)

pub returns-in_err-copy_hot-clause-crash : goal.returns-in_err-copy_hot-clause-crash
returns-in_err-copy_hot-clause-crash g c hot old moved synced =
    let cs = plan_hot c.args.self.now in
    kept_in_any_order c.args.self.now.each hot cs old moved
    ((rw c.as_slice.ensures.value at (c.copy_hot.ensures.crash old)) (kept_here c.args.self.now.each cs old (g.B.Device.state c.args.origin.now) synced))

pub returns-in-Ok-clause-copied : goal.returns-in-Ok-clause-copied
returns-in-Ok-clause-copied g c image none of =
    let k = c.args.self.now.each in
    let cs = plan_hot c.args.self.now in
    let old = g.B.Device.state c.args.origin.now in
    let mid = g.B.Device.state c.copy_hot.new.origin in
    let new = g.B.Device.state c.sync.new.self in
    let fast = g.C.Device.state c.args.fast.now in
    let once = c.hot_blocks_are_apart.ensures image (blocks_each (cache_meaning image).block_size) none in
    let once' : IsEachOnce k cs = subst (λ (n : ℕ). IsEachOnce n cs) (sym of.each) (once_in_any_order (blocks_each (cache_meaning image).block_size) (hot_blocks (cache_meaning image)) cs of.hot once) in
    IfSome_then fast.held
    (copied_synced k cs fast.held old.held mid new ((rw c.as_slice.ensures.value at c.in_ok-copy_hot.ensures.overlaid) once') c.in-Ok.ensures.synced.crash c.sync.ensures.synced.held)
    (λ held done o synced. subst (λ (i : List (List ℕ)). HoldsSynced i new) (warm_copied image o held k cs of.each of.hot once) (done o synced.held))

pub returns-in-Ok-clause-crash : goal.returns-in-Ok-clause-crash
returns-in-Ok-clause-crash g c hot old moved synced =
    let cs = plan_hot c.args.self.now in
    kept_in_any_order c.args.self.now.each hot cs old moved
    (kept_synced c.args.self.now.each cs old true
    ((rw c.as_slice.ensures.value at (c.copy_hot.ensures.crash old)) (kept_here c.args.self.now.each cs old (g.B.Device.state c.args.origin.now) synced))
    c.in-Ok.ensures.synced.crash c.sync.ensures.synced.held)

pub returns-in-Err-clause-crash : goal.returns-in-Err-clause-crash
returns-in-Err-clause-crash g c hot old moved synced =
    let cs = plan_hot c.args.self.now in
    kept_in_any_order c.args.self.now.each hot cs old moved
    (kept_synced c.args.self.now.each cs old false
    ((rw c.as_slice.ensures.value at (c.copy_hot.ensures.crash old)) (kept_here c.args.self.now.each cs old (g.B.Device.state c.args.origin.now) synced))
    c.in-Err.ensures.synced.crash c.sync.ensures.synced.held)

pub returns-in_err-copy_hot-clause-told : goal.returns-in_err-copy_hot-clause-told
returns-in_err-copy_hot-clause-told g c = still_tells (g.B.Device.state c.args.origin.now) (g.B.Device.state c.copy_hot.new.origin) c.copy_hot.ensures.told

pub returns-in-Ok-clause-told : goal.returns-in-Ok-clause-told
returns-in-Ok-clause-told g c =
    still_tells (g.B.Device.state c.args.origin.now) (g.B.Device.state c.sync.new.self) (ap is_some c.sync.ensures.synced.held ∙ c.copy_hot.ensures.told)

pub returns-in-Err-clause-told : goal.returns-in-Err-clause-told
returns-in-Err-clause-told g c =
    still_tells (g.B.Device.state c.args.origin.now) (g.B.Device.state c.sync.new.self) (ap is_some c.sync.ensures.synced.held ∙ c.copy_hot.ensures.told)
