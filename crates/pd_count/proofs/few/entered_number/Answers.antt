use Rattle.std.proofs.Common.{sym}
use Rattle.pd_count.proofs.EntryLemmas.{entered_at, entered_in_gap}
use Rattle.pd_count.proofs.few.entered_number.Goals as goal

pub returns-in-Ok : goal.returns-in-Ok
returns-in-Ok c = entered_at c.args.entries.now c.requires c.args.place c.in-Ok.i c.in-Ok.ensures.found

pub returns-in-Err : goal.returns-in-Err
returns-in-Err c = sym (entered_in_gap c.args.entries.now c.args.place c.in-Err.field-0 c.in-Err.ensures.absent)
