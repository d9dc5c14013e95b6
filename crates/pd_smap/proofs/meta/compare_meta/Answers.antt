use Rattle.std.proofs.Common.{◌+◌}
use Rattle.pd_kinds.specs.declared.rule.Space.TheVariants.{Meta}
use Rattle.pd_kinds.specs.Bitmap.{bitmaps_for}
use Rattle.pd_kinds.specs.Trees.{stored_meta_in}
use Rattle.pd_kinds.proofs.ResultLemmas.{if_then}
use Rattle.pd_graph.specs.Audit.{count_at}
use Rattle.pd_smap.specs.Overflow.{IsOverflow, overflow_of}
use Rattle.pd_smap.specs.Steps.{faults_from}
use Rattle.pd_smap.specs.Overflow.{comparison_state}
use Rattle.pd_smap.specs.Steps.{with_reads}
use Rattle.pd_smap.proofs.CountLemmas.{on_err}
use Rattle.pd_smap.proofs.MapLemmas.{meta_added, meta_front, nothing_added}
use Rattle.pd_smap.proofs.meta.compare_meta.Goals as goal

pub returns-in_err-overflow-clause-front : goal.returns-in_err-overflow-clause-front
returns-in_err-overflow-clause-front g c =
    on_err c.from_residual.result _ (nothing_added (g.D.Device.state c.args.dev.now).held (λ image. IsOverflow image c.args.root.now.overflow_root)
    (λ image. faults_from Meta (count_at c.args.audit.now) (stored_meta_in image c.args.root.now.bitmap_root (overflow_of image c.args.root.now.overflow_root)) 0 c.args.root.now.blocks) c.args.report.now)

pub returns-in-Ok-clause-added : goal.returns-in-Ok-clause-added
returns-in-Ok-clause-added g c =
    if_then (g.D.Device.state c.args.dev.now).held (g.D.Device.state c.start.new.dev).held _ _ _ c.in_ok-overflow.ensures.kept.held
    (λ image items finds searchable. meta_added (count_at c.args.audit.now) image c.args.root.now.bitmap_root c.args.root.now.overflow_root c.args.root.now.blocks
    (with_reads (1 + bitmaps_for c.args.root.now.blocks) (comparison_state (g.D.Device.state c.start.new.dev) c.in_ok-overflow.overflow c.args.report.now))
    (comparison_state (g.D.Device.state c.compare_index.new.dev) c.compare_index.new.overflow c.compare_index.new.report) items searchable finds)
    c.in_ok-overflow.ensures.items c.in-Ok.ensures.went.told

pub returns-clause-front : goal.returns-clause-front
returns-clause-front g c =
    if_then (g.D.Device.state c.args.dev.now).held (g.D.Device.state c.start.new.dev).held _ _ _ c.in_ok-overflow.ensures.kept.held
    (λ image items finds searchable. meta_front (count_at c.args.audit.now) image c.args.root.now.bitmap_root c.args.root.now.overflow_root c.args.root.now.blocks
    (with_reads (1 + bitmaps_for c.args.root.now.blocks) (comparison_state (g.D.Device.state c.start.new.dev) c.in_ok-overflow.overflow c.args.report.now))
    (comparison_state (g.D.Device.state c.compare_index.new.dev) c.compare_index.new.overflow c.compare_index.new.report) items searchable finds)
    c.in_ok-overflow.ensures.items c.in-Err.ensures.stopped.told
