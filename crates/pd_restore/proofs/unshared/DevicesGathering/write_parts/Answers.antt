use Rattle.pd_draft.specs.DraftState.{draft_state}
use Rattle.pd_restore.proofs.UnsharedParts.{can_write_parts, parts_written}
use Rattle.pd_restore.proofs.unshared.DevicesGathering.write_parts.Goals as goal

pub write_behind-requires-clause-room : goal.write_behind-requires-clause-room
write_behind-requires-clause-room g c =
    let p = c.requires.whole in
    rw (c.roots.ensures, c.details.ensures, c.counts.ensures)
    (can_write_parts c.args.room p.lines c.args.self.now c.in_ok-uses.uses p.start (draft_state c.args.draft.now) p.all c.in_ok-uses.ensures.none c.pool_text_is_accepted_where_there_is_room.ensures.unshared)

pub returns-clause-writes : goal.returns-clause-writes
returns-clause-writes g c lines start all =
    parts_written c.args.room lines c.args.self.now c.in_ok-uses.uses start (draft_state c.args.draft.now) all c.in_ok-uses.ensures.none c.pool_text_is_accepted_where_there_is_room.ensures.unshared
    (draft_state c.write_behind.new.draft) c.write_behind.result
    (rw (c.roots.ensures, c.details.ensures, c.counts.ensures) at c.write_behind.ensures.wrote) (rw (c.roots.ensures, c.details.ensures, c.counts.ensures) at c.write_behind.ensures.parts)
