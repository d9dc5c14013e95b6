use Rattle.std.proofs.Common.{rules, set, ap, subst, Some, ◌≡◌}
use Rattle.pd_kinds.specs.Objects.{DeviceState}
use Rattle.pd_kinds.specs.Crash.{IsNoneOrNew, LeavesOnly}
use Rattle.pd_writeback.specs.Copied.{marked}
use Rattle.pd_writeback.proofs.MarkedLemmas.{closed_marking, committed_marking}
use Rattle.pd_writeback.proofs.marking.mark_closed.Goals as goal

pub returns-in_err-mark_all-clause-crash : goal.returns-in_err-mark_all-clause-crash
returns-in_err-mark_all-clause-crash g c image held =
    let state = g.A.Device.state in
    let made = set (marked c.args.version image c.args.places.now) 0 c.args.super_block.now.0 in
    let same : state c.on_closed-rewrite.result.dev.now ≡ state c.args.meta.now = ap state c.on_closed-rewrite.ensures.same in
    let leaves : LeavesOnly (IsNoneOrNew made) (state c.args.meta.now) (state c.mark_all.new.rewrite.dev.now) =
    subst (λ (d : DeviceState). LeavesOnly (IsNoneOrNew made) d (state c.mark_all.new.rewrite.dev.now)) same (closed_marking made c.mark_all.ensures.crash) in
    subst (λ x. LeavesOnly (IsNoneOrNew made) (state c.args.meta.now) (state x)) (search rules) leaves

pub returns-clause-crash : goal.returns-clause-crash
returns-clause-crash g c image held =
    let state = g.A.Device.state in
    let made = set (marked c.args.version image c.args.places.now) 0 c.args.super_block.now.0 in
    let same : state c.on_closed-rewrite.result.dev.now ≡ state c.args.meta.now = ap state c.on_closed-rewrite.ensures.same in
    let held' : (state c.on_closed-rewrite.result.dev.now).held ≡ Some image = rw same held in
    let leaves : LeavesOnly (IsNoneOrNew made) (state c.args.meta.now) (state c.commit.new.self.0) =
    subst (λ (d : DeviceState). LeavesOnly (IsNoneOrNew made) d (state c.commit.new.self.0)) same
    (committed_marking c.args.version c.args.places.now c.args.super_block.now.0 image {old = state c.on_closed-rewrite.result.dev.now} {mid = state c.mark_all.new.rewrite.dev.now} {new = state c.commit.new.self.0}
    c.mark_all.ensures.crash c.in_ok-mark_all.ensures.content held' c.commit.ensures.crash) in
    subst (λ x. LeavesOnly (IsNoneOrNew made) (state c.args.meta.now) (state x)) (search rules) leaves
