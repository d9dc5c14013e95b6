use Rattle.pd_kinds.proofs.CrashLemmas.{weaken}
use Rattle.pd_draft.proofs.DraftLemmas.{closed_by, cleared, has_first}
use Rattle.pd_draft.proofs.draft.clear.Goals as goal

pub returns-clause-closed : goal.returns-clause-closed
returns-clause-closed g c =
    let w = c.rewrite_super.ensures in
    closed_by c.rewrite_super.result (g.D.Device.state c.args.dev.now) (g.D.Device.state c.rewrite_super.new.dev) c.zeros.result.0 c.zeros.ensures w.done w.told
    c.requires.some (g.met.D.Device.measured c.args.dev.now)

pub returns-clause-crash : goal.returns-clause-crash
returns-clause-crash g c image synced =
    let old = g.D.Device.state c.args.dev.now in
    weaken (c.rewrite_super.ensures.crash image synced)
    (cleared image c.zeros.result.0 c.zeros.ensures (has_first image old synced.held c.requires.some (g.met.D.Device.measured c.args.dev.now)))
