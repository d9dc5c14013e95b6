use Rattle.std.proofs.Common.{rules, ◌≡◌, inr, ℕ, List, ap, subst}
use Rattle.pd_draft.specs.DraftState.{draft_state}
use Rattle.pd_restoring.specs.Restored.{Commits, CommitsSynced, Tries}
use Rattle.pd_restoring.proofs.RestoreLemmas.{commits, commits_synced}
use Rattle.pd_restoring.proofs.restoring.restore_closed.Goals as goal

pub returns-in-Ok-clause-tries : goal.returns-in-Ok-clause-tries
returns-in-Ok-clause-tries g c =
    let state = g.D.Device.state in
    let k = g.K.Restoring.subject c.args.kind.now in
    let IsOf : List ℕ → Type 0 = λ t. g.K.Restoring.Leaves t c.args.begun (g.S.Source.state c.args.source.now).left in
    let left = (g.S.Source.state c.write.new.source).left in
    let same : (draft_state c.on_closed-draft.result).device ≡ state c.args.dev.now = ap state c.on_closed-draft.ensures.same in
    let done : CommitsSynced k c.args.room IsOf left (state c.args.dev.now) (state c.commit.new.self.0) =
    commits_synced k c.args.room IsOf left {a = draft_state c.on_closed-draft.result} {b = draft_state c.write.new.draft} same c.on_closed-draft.ensures.next c.in_ok-block.ensures.writes c.commit.ensures.crash c.in-Ok.ensures.done in
    subst (λ x. CommitsSynced k c.args.room IsOf left (state c.args.dev.now) (state x)) (search rules) done

pub returns-in-Err-clause-tries : goal.returns-in-Err-clause-tries
returns-in-Err-clause-tries g c =
    let state = g.D.Device.state in
    let k = g.K.Restoring.subject c.args.kind.now in
    let IsOf : List ℕ → Type 0 = λ t. g.K.Restoring.Leaves t c.args.begun (g.S.Source.state c.args.source.now).left in
    let left = (g.S.Source.state c.write.new.source).left in
    let same : (draft_state c.on_closed-draft.result).device ≡ state c.args.dev.now = ap state c.on_closed-draft.ensures.same in
    let tried : Commits k c.args.room IsOf left (state c.args.dev.now) (state c.commit.new.self.0) =
    commits k c.args.room IsOf left {a = draft_state c.on_closed-draft.result} {b = draft_state c.write.new.draft} same c.on_closed-draft.ensures.next c.in_ok-block.ensures.writes c.commit.ensures.crash in
    let tries : Tries k c.args.room IsOf left (state c.args.dev.now) (state c.commit.new.self.0) = inr tried in
    subst (λ x. Tries k c.args.room IsOf left (state c.args.dev.now) (state x)) (search rules) tries
