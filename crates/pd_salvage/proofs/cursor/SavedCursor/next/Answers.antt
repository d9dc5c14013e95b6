use Rattle.pd_kinds.proofs.ResultLemmas.{if_any}
use Rattle.pd_salvage.proofs.cursor.SavedCursor.next.Goals as goal

pub next_known-requires-clause-knows : goal.next_known-requires-clause-knows
next_known-requires-clause-knows g c = if_any (g.D.Device.state c.args.dev.now).held c.forget.ensures.knows
