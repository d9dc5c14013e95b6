use Rattle.std.proofs.Common.{◌∷◌, ◌-◌, ◌^◌, min}
use Rattle.pd_draft.specs.DraftState.{draft_state}
use Rattle.pd_grammar.specs.Need.{thin_need_so_far}
use Rattle.pd_texts.specs.ThinLine.{line_of}
use Rattle.pd_restore.proofs.ReadingLemmas.{no_room_asked, over_if_short}
use Rattle.pd_restore.proofs.UnsharedLines.{few_after, line_fits}
use Rattle.pd_restore.proofs.unshared.DevicesGathering.take_line.Goals as goal

pub returns-clause-need : goal.returns-clause-need
returns-clause-need g c before start f =
    let lines = line_of c.args.line ∷ before in
    over_if_short c.args.room (min (thin_need_so_far c.args.room lines) (2 ^ 64 - 1)) _ c.look.result (line_fits c.args.room before c.args.line f)
    (c.look.ensures.need lines start (draft_state c.put_line.new.draft) (c.in_ok-put_line.ensures.gathered before start f))

pub returns-in_err-put_line-clause-need : goal.returns-in_err-put_line-clause-need
returns-in_err-put_line-clause-need g c before start f = no_room_asked _ c.from_residual.result _ c.args.room _ c.from_residual.ensures.1

pub returns-clause-few : goal.returns-clause-few
returns-clause-few g c before start f = few_after c.args.room before c.args.line f

pub returns-in_err-put_line-clause-few : goal.returns-in_err-put_line-clause-few
returns-in_err-put_line-clause-few g c before start f = few_after c.args.room before c.args.line f
