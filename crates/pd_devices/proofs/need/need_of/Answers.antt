use Rattle.std.proofs.Common.{arith, ap}
use Rattle.pd_grammar.specs.Need.{nodes_of_tree}
use Rattle.pd_devices.specs.Gathered.{need_of_trees}
use Rattle.pd_devices.proofs.need.need_of.Goals as goal

pub returns : goal.returns
unfolding need_of_trees
returns c =
    let tops = ap (λ most. nodes_of_tree most c.args.devices) c.max_entries_of.ensures in
    let details = ap (λ most. nodes_of_tree most c.args.devices) c.max_entries_of-2.ensures in
    let index = ap (λ most. nodes_of_tree most c.bitmaps_for-bitmaps.result) c.max_entries_of-3.ensures in
    let bitmaps = ap (λ number. nodes_of_tree 168 number) c.bitmaps_for-bitmaps.ensures in
    let overflow = ap (λ most. nodes_of_tree most c.args.over) c.max_entries_of-4.ensures in
    let empty = ap (λ most. nodes_of_tree most 0) c.max_entries_of-5.ensures in
    omega arith
