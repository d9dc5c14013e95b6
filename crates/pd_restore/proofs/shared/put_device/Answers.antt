use Rattle.std.proofs.Common.{◌∷◌, ◌-◌, ◌^◌, min}
use Rattle.pd_kinds.proofs.ResultLemmas.{on_ok_any}
use Rattle.pd_draft.specs.DraftState.{draft_state}
use Rattle.pd_laid.specs.PoolText.{shape_need_so_far}
use Rattle.pd_grammar.specs.ThinText.{device_line}
use Rattle.pd_texts.specs.ThinLine.{details_of}
use Rattle.pd_restore.proofs.ReadingLemmas.{no_room_asked, over_if_short}
use Rattle.pd_restore.proofs.SharedLemmas.{device_exact, device_follows}
use Rattle.pd_restore.proofs.shared.put_device.Goals as goal

pub returns-clause-gathered : goal.returns-clause-gathered
returns-clause-gathered g c before start f = on_ok_any c.look.result (c.in_ok-add_device.ensures.gathered c.args.room before start f.so_far.gathered (device_follows c.args.room before (details_of c.args.id c.args.details) f))

pub returns-clause-need : goal.returns-clause-need
returns-clause-need g c before start f =
    let lines = device_line (details_of c.args.id c.args.details) ∷ before in
    over_if_short c.args.room (min (shape_need_so_far c.args.room lines) (2 ^ 64 - 1)) _ c.look.result (device_exact c.args.room before (details_of c.args.id c.args.details) f)
    (c.look.ensures.need lines start (draft_state c.add_device.new.draft) (c.in_ok-add_device.ensures.gathered c.args.room before start f.so_far.gathered (device_follows c.args.room before (details_of c.args.id c.args.details) f)))

pub returns-in_err-add_device-clause-need : goal.returns-in_err-add_device-clause-need
returns-in_err-add_device-clause-need g c before start f = no_room_asked _ c.from_residual.result _ c.args.room _ c.from_residual.ensures.1
