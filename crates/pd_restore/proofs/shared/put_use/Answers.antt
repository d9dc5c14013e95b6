use Rattle.std.proofs.Common.{◌∷◌, ◌-◌, ◌^◌, min}
use Rattle.pd_kinds.proofs.ResultLemmas.{on_ok_any}
use Rattle.pd_draft.specs.DraftState.{draft_state}
use Rattle.pd_laid.specs.PoolText.{shape_need_so_far}
use Rattle.pd_grammar.specs.ThinText.{use_line}
use Rattle.pd_restore.proofs.ReadingLemmas.{no_room_asked, over_if_short}
use Rattle.pd_restore.proofs.SharedLemmas.{use_exact, use_follows}
use Rattle.pd_restore.proofs.shared.put_use.Goals as goal

pub returns-clause-gathered : goal.returns-clause-gathered
returns-clause-gathered g c before start f = on_ok_any c.look.result (c.in_ok-add_use.ensures.gathered c.args.room before start f.so_far.gathered (use_follows c.args.room before c.args.number f))

pub returns-clause-need : goal.returns-clause-need
returns-clause-need g c before start f =
    let lines = use_line c.args.number ∷ before in
    over_if_short c.args.room (min (shape_need_so_far c.args.room lines) (2 ^ 64 - 1)) _ c.look.result (use_exact c.args.room before c.args.number f)
    (c.look.ensures.need lines start (draft_state c.add_use.new.draft) (c.in_ok-add_use.ensures.gathered c.args.room before start f.so_far.gathered (use_follows c.args.room before c.args.number f)))

pub returns-in_err-add_use-clause-need : goal.returns-in_err-add_use-clause-need
returns-in_err-add_use-clause-need g c before start f = no_room_asked _ c.from_residual.result _ c.args.room _ c.from_residual.ensures.1
