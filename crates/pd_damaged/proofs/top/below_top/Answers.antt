use Rattle.std.proofs.Common.{fold, map, ◌∙◌, ap}
use Rattle.pd_laid.specs.Salvage.{salvaged_entries}
use Rattle.pd_tree.specs.Cursor.{item_of, root_of}
use Rattle.pd_measures.proofs.ListLemmas.{ok_some}
use Rattle.pd_damaged.specs.Known.{data_blocks_of, meta_blocks_of}
use Rattle.pd_damaged.specs.Top.{device_counted, no_devices}
use Rattle.pd_damaged.proofs.TopLemmas.{top_is_kept}
use Rattle.pd_damaged.proofs.top.below_top.Goals as goal

pub returns-clause-top : goal.returns-clause-top
returns-clause-top g c =
    let nr = meta_blocks_of c.args.remains.now in
    let data_blocks = data_blocks_of c.args.remains.now in
    ok_some c.add_devices.result (g.D.Device.state c.args.dev.now).held _ _
    (λ sum image is right graph numbers pool.
    top_is_kept nr data_blocks image c.args.top sum
    (is right ∙ ap (fold (device_counted nr data_blocks image) no_devices)
    (c.restart.ensures.left image ∙ ap (λ n. map (item_of root_of) (salvaged_entries 8 n image c.args.top)) c.nr.ensures))
    graph numbers pool)
    c.add_devices.ensures.sum
