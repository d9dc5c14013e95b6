use Rattle.std.proofs.Common.{◌∷◌, ◌-◌, ◌^◌, min}
use Rattle.pd_kinds.proofs.ResultLemmas.{on_ok_any}
use Rattle.pd_draft.specs.DraftState.{draft_state}
use Rattle.pd_laid.specs.PoolText.{shape_need_so_far}
use Rattle.pd_grammar.specs.ThinText.{leaf_line}
use Rattle.pd_restore.proofs.ReadingLemmas.{no_room_asked, over_if_short}
use Rattle.pd_restore.proofs.SharedLemmas.{leaf_exact, leaf_follows}
use Rattle.pd_restore.proofs.shared.put_leaf.Goals as goal

pub returns-clause-gathered : goal.returns-clause-gathered
returns-clause-gathered g c before start l f = on_ok_any c.look.result (c.in_ok-add_leaf.ensures.gathered c.args.room before start l f.so_far.gathered (leaf_follows c.args.room before l f))

pub returns-clause-need : goal.returns-clause-need
returns-clause-need g c before start l f =
    let lines = leaf_line l ∷ before in
    over_if_short c.args.room (min (shape_need_so_far c.args.room lines) (2 ^ 64 - 1)) _ c.look.result (leaf_exact c.args.room before l f)
    (c.look.ensures.need lines start (draft_state c.add_leaf.new.draft) (c.in_ok-add_leaf.ensures.gathered c.args.room before start l f.so_far.gathered (leaf_follows c.args.room before l f)))

pub returns-in_err-add_leaf-clause-need : goal.returns-in_err-add_leaf-clause-need
returns-in_err-add_leaf-clause-need g c before start l f = no_room_asked _ c.from_residual.result _ c.args.room _ c.from_residual.ensures.1
