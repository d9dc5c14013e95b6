use Rattle.std.proofs.Common.{◌≡◌, ◌≤◌, ℕ, List, length, ap, subst, arith}
use Rattle.pd_kinds.specs.Crash.{HoldsSynced, LeavesOnly}
use Rattle.pd_kinds.specs.declared.block.Block.{Block}
use Rattle.pd_image.proofs.CrashLemmas.{at_some}
use Rattle.pd_writeback.specs.Copied.{IsOldNoneOrMarked, marked_image}
use Rattle.pd_writeback.proofs.PlanLemmas.{plan_settles}
use Rattle.pd_writeback.proofs.plan.Plan.write_marks.Goals as goal

-- at least as many as there must be
at_least : {m n least : ℕ} → m ≡ n → n ≡ least → 1 ≤ least → 1 ≤ m
at_least first second some = omega arith

pub returns-in-Ok-clause-done : goal.returns-in-Ok-clause-done
returns-in-Ok-clause-done g c image of synced =
    let plan = c.args.self.now in
    let old = g.A.Device.state c.args.meta.now in
    let new = g.A.Device.state c.mark_places.new.meta in
    let number = at_some old.held (λ (i : List (List ℕ)). length i ≡ old.blocks) image synced.held (g.met.A.Device.measured c.args.meta.now) in
    let some : 1 ≤ length image = at_least number c.requires.blocks plan.some in
    let settles = plan_settles image plan c.as_slice.result.now c.deref.result.now.0 of c.as_slice.ensures.value (ap (λ (b : Block). b.0) c.deref.ensures) some
    c.requires.hot in
    subst (λ (i : List (List ℕ)). HoldsSynced i new) settles
    (at_some old.held (λ (i : List (List ℕ)). HoldsSynced (marked_image plan.version c.as_slice.result.now c.deref.result.now.0 i) new) image synced.held c.in-Ok.ensures.done)

pub returns-in-Ok-clause-crash : goal.returns-in-Ok-clause-crash
returns-in-Ok-clause-crash g c image of synced =
    let plan = c.args.self.now in
    let old = g.A.Device.state c.args.meta.now in
    let new = g.A.Device.state c.mark_places.new.meta in
    let number = at_some old.held (λ (i : List (List ℕ)). length i ≡ old.blocks) image synced.held (g.met.A.Device.measured c.args.meta.now) in
    let some : 1 ≤ length image = at_least number c.requires.blocks plan.some in
    let settles = plan_settles image plan c.as_slice.result.now c.deref.result.now.0 of c.as_slice.ensures.value (ap (λ (b : Block). b.0) c.deref.ensures) some
    c.requires.hot in
    subst (λ (i : List (List ℕ)). LeavesOnly (IsOldNoneOrMarked image i) old new) settles (c.mark_places.ensures.crash image synced)

pub returns-in-Err-clause-crash : goal.returns-in-Err-clause-crash
returns-in-Err-clause-crash g c image of synced =
    let plan = c.args.self.now in
    let old = g.A.Device.state c.args.meta.now in
    let new = g.A.Device.state c.mark_places.new.meta in
    let number = at_some old.held (λ (i : List (List ℕ)). length i ≡ old.blocks) image synced.held (g.met.A.Device.measured c.args.meta.now) in
    let some : 1 ≤ length image = at_least number c.requires.blocks plan.some in
    let settles = plan_settles image plan c.as_slice.result.now c.deref.result.now.0 of c.as_slice.ensures.value (ap (λ (b : Block). b.0) c.deref.ensures) some
    c.requires.hot in
    subst (λ (i : List (List ℕ)). LeavesOnly (IsOldNoneOrMarked image i) old new) settles (c.mark_places.ensures.crash image synced)
