use Rattle.std.proofs.Common.{rules, ◌≡◌, inr, Ok, Err, ap, subst}
use Rattle.pd_draft.specs.DraftState.{draft_state}
use Rattle.pd_laid.specs.LaidCache.{laid_cache}
use Rattle.pd_salvage_cache.specs.SavedCache.{held_cache}
use Rattle.pd_restoring.specs.declared.fault.MadeFault.TheVariants.{Device}
use Rattle.pd_restoring.specs.Restored.{Lays, LaysOver}
use Rattle.pd_restoring.proofs.RestoreLemmas.{lays, lays_over}
use Rattle.pd_restore_kinds.proofs.cache_writing.write_closed.Goals as goal

pub returns-in-Ok-commit-clause-lays : goal.returns-in-Ok-commit-clause-lays
returns-in-Ok-commit-clause-lays g c =
    let state = g.D.Device.state in
    let laid = laid_cache (held_cache c.args.saved.now) c.args.version c.args.room in
    let same : (draft_state c.on_closed-draft.result).device ≡ state c.args.dev.now = ap state c.on_closed-draft.ensures.same in
    let done : Lays laid (Ok tt) (state c.args.dev.now) (state c.commit.new.self.0) =
    lays laid {a = draft_state c.on_closed-draft.result} {b = draft_state c.write_rows.new.draft} c.in-Ok.block.0 same c.on_closed-draft.ensures.next
    (rw (c.head.ensures.head, c.rows.ensures) at c.in-Ok.ensures.super_is) (rw (c.head.ensures.head, c.rows.ensures) at c.in-Ok.ensures.wrote) c.commit.ensures.crash c.in-Ok-commit.ensures.done in
    subst (λ x. Lays laid (Ok tt) (state c.args.dev.now) (state x)) (search rules) done

pub returns-in-Err-clause-lays : goal.returns-in-Err-clause-lays
returns-in-Err-clause-lays g c =
    let state = g.D.Device.state in
    let laid = laid_cache (held_cache c.args.saved.now) c.args.version c.args.room in
    let same : (draft_state c.on_closed-draft.result).device ≡ state c.args.dev.now = ap state c.on_closed-draft.ensures.same in
    let tried : LaysOver laid (state c.args.dev.now) (state c.commit.new.self.0) =
    lays_over laid {a = draft_state c.on_closed-draft.result} {b = draft_state c.write_rows.new.draft} c.in-Ok.block.0 same c.on_closed-draft.ensures.next
    (rw (c.head.ensures.head, c.rows.ensures) at c.in-Ok.ensures.super_is) (rw (c.head.ensures.head, c.rows.ensures) at c.in-Ok.ensures.wrote) c.commit.ensures.crash in
    let outcome : Lays laid (Err Device) (state c.args.dev.now) (state c.commit.new.self.0) = inr tried in
    subst (λ x. Lays laid (Err Device) (state c.args.dev.now) (state x)) (search rules) outcome
