use Rattle.std.proofs.Common.{ℕ, ◌+◌, List, length, ap}
use Rattle.pd_kinds.specs.declared.rule.Space.TheVariants.{DataBlock}
use Rattle.pd_kinds.specs.Bitmap.{bitmaps_for}
use Rattle.pd_kinds.specs.Trees.{stored_data_in}
use Rattle.pd_kinds.proofs.ResultLemmas.{if_maps, if_then}
use Rattle.pd_count.specs.Counted.{count_of}
use Rattle.pd_value.specs.declared.space_map.IndexEntry.{IndexEntry}
use Rattle.pd_tree.specs.Cursor.{cursor_items, cursor_nodes}
use Rattle.pd_smap.specs.Overflow.{IsOverflow, index_from, index_of, overflow_of, place_in}
use Rattle.pd_smap.specs.Steps.{faults_from}
use Rattle.pd_smap.specs.Overflow.{comparison_state}
use Rattle.pd_smap.specs.Steps.{with_nodes}
use Rattle.pd_smap.proofs.CountLemmas.{on_err}
use Rattle.pd_smap.proofs.MapLemmas.{data_added, data_front, nothing_added}
use Rattle.pd_smap.proofs.data.compare_data.Goals as goal

pub returns-in-Err-clause-front : goal.returns-in-Err-clause-front
returns-in-Err-clause-front g c =
    if_maps (g.D.Device.state c.args.dev.now).held _ _ (λ image front searchable index. front searchable)
    (nothing_added (g.D.Device.state c.args.dev.now).held (λ image. IsOverflow image c.args.root.now.overflow_root) (λ image. faults_from DataBlock (count_of c.args.counts.now) (stored_data_in image (index_of image c.args.root.now.bitmap_root) (overflow_of image c.args.root.now.overflow_root)) 0 c.args.root.now.blocks) c.args.report.now)

pub returns-in_err-overflow-clause-front : goal.returns-in_err-overflow-clause-front
returns-in_err-overflow-clause-front g c = on_err c.from_residual.result _ (
    if_maps (g.D.Device.state c.args.dev.now).held _ _ (λ image front searchable index. front searchable)
    (nothing_added (g.D.Device.state c.args.dev.now).held (λ image. IsOverflow image c.args.root.now.overflow_root) (λ image. faults_from DataBlock (count_of c.args.counts.now) (stored_data_in image (index_of image c.args.root.now.bitmap_root) (overflow_of image c.args.root.now.overflow_root)) 0 c.args.root.now.blocks) c.args.report.now))

pub returns-in-Ok-compare_listed-clause-added : goal.returns-in-Ok-compare_listed-clause-added
returns-in-Ok-compare_listed-clause-added g c =
    if_then (g.D.Device.state c.args.dev.now).held (g.D.Device.state c.start-2.new.dev).held _ _ _ c.in_ok-overflow.ensures.kept.held
    (λ image items finds searchable index. data_added (count_of c.args.counts.now) (λ image. place_in (cursor_items 16 index_from image c.in-Ok.cursor)) image c.args.root.now.bitmap_root c.args.root.now.overflow_root c.args.root.now.blocks
    (with_nodes (λ image. length (cursor_nodes 16 image c.in-Ok.cursor) + bitmaps_for c.args.root.now.blocks) (comparison_state (g.D.Device.state c.start-2.new.dev) c.in_ok-overflow.overflow c.args.report.now))
    (comparison_state (g.D.Device.state c.compare_listed.new.dev) c.compare_listed.new.overflow c.compare_listed.new.report) (λ i. ap (λ (xs : List (ℕ × IndexEntry)). place_in xs i) (c.in-Ok.ensures.items image)) items searchable index finds)
    c.in_ok-overflow.ensures.items c.in-Ok-compare_listed.ensures.went.told

pub returns-clause-front : goal.returns-clause-front
returns-clause-front g c =
    if_then (g.D.Device.state c.args.dev.now).held (g.D.Device.state c.start-2.new.dev).held _ _ _ c.in_ok-overflow.ensures.kept.held
    (λ image items finds searchable index. data_front (count_of c.args.counts.now) (λ image. place_in (cursor_items 16 index_from image c.in-Ok.cursor)) image c.args.root.now.bitmap_root c.args.root.now.overflow_root c.args.root.now.blocks
    (with_nodes (λ image. length (cursor_nodes 16 image c.in-Ok.cursor) + bitmaps_for c.args.root.now.blocks) (comparison_state (g.D.Device.state c.start-2.new.dev) c.in_ok-overflow.overflow c.args.report.now))
    (comparison_state (g.D.Device.state c.compare_listed.new.dev) c.compare_listed.new.overflow c.compare_listed.new.report) (λ i. ap (λ (xs : List (ℕ × IndexEntry)). place_in xs i) (c.in-Ok.ensures.items image)) items searchable index finds)
    c.in_ok-overflow.ensures.items c.in-Err-compare_listed.ensures.stopped.told
