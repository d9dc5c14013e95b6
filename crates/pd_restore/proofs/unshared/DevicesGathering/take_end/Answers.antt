use Rattle.pd_restore.proofs.ReadingLemmas.{no_room_asked}
use Rattle.pd_restore.proofs.UnsharedLines.{as_gathered, end_fits, end_follows}
use Rattle.pd_restore.proofs.unshared.DevicesGathering.take_end.Goals as goal

pub end-requires-clause-gathered : goal.end-requires-clause-gathered
end-requires-clause-gathered g c =
    let f = c.requires.follows in
    record { so_far = as_gathered f.before c.args.room f.follows.so_far; full = (end_follows f.before f.follows.lines.0).complete }

pub returns-clause-gathered : goal.returns-clause-gathered
returns-clause-gathered g c before start f = c.in_ok-end.ensures.gathered before start f.so_far.gathered (end_follows before f.lines.0).complete

pub returns-clause-need : goal.returns-clause-need
returns-clause-need g c before start f = end_fits c.args.room before f.so_far.gathered.version f.so_far.need

pub returns-in_err-end-clause-need : goal.returns-in_err-end-clause-need
returns-in_err-end-clause-need g c before start f = no_room_asked _ c.from_residual.result _ c.args.room _ c.from_residual.ensures.1
