use Rattle.pd_draft.specs.DraftState.{draft_state}
use Rattle.pd_restore.proofs.SharedLemmas.{can_write_parts, parts_written}
use Rattle.pd_restore.proofs.shared.SharedLinesGathering.write_parts.Goals as goal

pub write_behind-requires-clause-room : goal.write_behind-requires-clause-room
write_behind-requires-clause-room g c =
    let p = c.requires.whole in
    rw (c.roots.ensures, c.details.ensures, c.counts.ensures, c.leaves.ensures, c.uses.ensures)
    (can_write_parts c.args.room p.lines c.args.self.now p.start (draft_state c.args.draft.now) p.all
    (c.gathered_lines_are_a_shape.ensures c.args.room p.lines c.args.self.now.devices p.start (draft_state c.args.draft.now) p.all.all.gathered.gathered p.all.all.lines p.all.ended))

pub returns-clause-writes : goal.returns-clause-writes
returns-clause-writes g c lines start all =
    parts_written c.args.room lines c.args.self.now start (draft_state c.args.draft.now) all
    (c.gathered_lines_are_a_shape.ensures c.args.room lines c.args.self.now.devices start (draft_state c.args.draft.now) all.all.gathered.gathered all.all.lines all.ended)
    (draft_state c.write_behind.new.draft) c.write_behind.result
    (rw (c.roots.ensures, c.details.ensures, c.counts.ensures, c.leaves.ensures, c.uses.ensures) at c.write_behind.ensures.wrote)
    (rw (c.roots.ensures, c.details.ensures, c.counts.ensures, c.leaves.ensures, c.uses.ensures) at c.write_behind.ensures.parts)
