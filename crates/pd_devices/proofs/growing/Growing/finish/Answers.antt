use Rattle.std.proofs.Common.{◌+◌, length, sym, ◌∙◌}
use Rattle.pd_build.proofs.TreeLemmas.{none_is, some_is}
use Rattle.pd_devices.proofs.DeviceLemmas.{on_ok}
use Rattle.pd_devices.proofs.RowLemmas.{grown_number}
use Rattle.pd_devices.proofs.PieceLemmas.{rises_ascend}
use Rattle.pd_devices.proofs.RowLemmas.{tree_empty, root_empty, tree_done, root_done, none_left, some_left, if_ok_then}
use Rattle.pd_devices.proofs.growing.Growing.finish.Goals as goal

pub write_empty-requires-clause-room : goal.write_empty-requires-clause-room
write_empty-requires-clause-room g c =
    let can = c.requires.can in
    none_left (length c.args.self.row) (c.args.self.own + c.args.self.uses) _ _ (grown_number can.grown) (sym c.is_empty.ensures ∙ c.if-is_empty.true) can.room

pub returns-then-is_empty-clause-wrote : goal.returns-then-is_empty-clause-wrote
returns-then-is_empty-clause-wrote g c leaves d low from grown =
    on_ok c.write_empty.result c.write_empty.ensures.wrote (λ wrote. tree_empty grown (none_is (length c.args.self.row) (sym c.is_empty.ensures ∙ c.if-is_empty.true)) wrote)

pub returns-then-is_empty-clause-root : goal.returns-then-is_empty-clause-root
returns-then-is_empty-clause-root g c leaves d low from grown =
    if_ok_then c.write_empty.result c.write_empty.ensures.place (λ place is. is ∙ root_empty grown (none_is (length c.args.self.row) (sym c.is_empty.ensures ∙ c.if-is_empty.true)))

pub finish-requires-clause-ascend : goal.finish-requires-clause-ascend
finish-requires-clause-ascend g c = rises_ascend 0 c.requires.can.low _ c.requires.can.grown.rises

pub finish-requires-clause-room : goal.finish-requires-clause-room
finish-requires-clause-room g c =
    let can = c.requires.can in
    some_left (length c.args.self.row) (c.args.self.own + c.args.self.uses) _ _ (grown_number can.grown) (sym c.is_empty.ensures ∙ c.if-is_empty.false) can.room

pub returns-clause-wrote : goal.returns-clause-wrote
returns-clause-wrote g c leaves d low from grown =
    on_ok c.finish.result c.finish.ensures.wrote (λ wrote. tree_done grown (some_is (length c.args.self.row) (sym c.is_empty.ensures ∙ c.if-is_empty.false)) wrote)

pub returns-clause-root : goal.returns-clause-root
returns-clause-root g c leaves d low from grown =
    if_ok_then c.finish.result c.finish.ensures.root (λ root is. is ∙ root_done grown (some_is (length c.args.self.row) (sym c.is_empty.ensures ∙ c.if-is_empty.false)))
