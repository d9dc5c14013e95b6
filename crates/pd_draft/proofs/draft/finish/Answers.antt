use Rattle.std.proofs.Common.{set, true, false}
use Rattle.pd_kinds.proofs.CrashLemmas.{weaken, and_then}
use Rattle.pd_image.proofs.CrashLemmas.{synced_now}
use Rattle.pd_draft.proofs.DraftLemmas.{finish_sync, finished, closed_held}
use Rattle.pd_draft.proofs.draft.finish.Goals as goal

pub returns-in_err-sync-clause-crash : goal.returns-in_err-sync-clause-crash
returns-in_err-sync-clause-crash g c image held =
    finish_sync image (set image 0 c.args.super_block.now.0) false c.requires.closed held c.in_err-sync.ensures.synced.crash c.sync.ensures.synced.held

pub returns-clause-crash : goal.returns-clause-crash
returns-clause-crash g c image held =
    let state = g.D.Device.state in
    let old = state c.args.dev.now in
    let mid = state c.sync.new.self in
    let made = set image 0 c.args.super_block.now.0 in
    let first = finish_sync image made {old = old} {new = mid} true c.requires.closed held c.in_ok-sync.ensures.synced.crash c.sync.ensures.synced.held in
    let synced = synced_now old mid image held c.in_ok-sync.ensures.synced.crash c.sync.ensures.synced.held in
    and_then first (weaken (c.rewrite_super.ensures.crash image synced) (finished image made (closed_held image old c.requires.closed held)))
