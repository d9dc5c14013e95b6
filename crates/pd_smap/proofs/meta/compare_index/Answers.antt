use Rattle.std.proofs.Common.{◌+◌, arith, refl}
use Rattle.pd_kinds.specs.declared.rule.Space.TheVariants.{Meta}
use Rattle.pd_kinds.specs.Bitmap.{bitmaps_for, index_block_at}
use Rattle.pd_graph.specs.Audit.{count_at}
use Rattle.pd_smap.specs.Overflow.{meta_place}
use Rattle.pd_smap.specs.Overflow.{overflow_items, overflow_reads}
use Rattle.pd_smap.specs.Steps.{bits_by}
use Rattle.pd_smap.proofs.StepLemmas.{ok_maps, err_maps, went_reads, stopped_reads}
use Rattle.pd_smap.proofs.CountLemmas.{on_err, block_stopped}
use Rattle.pd_smap.proofs.CountLemmas.{before_many, read_then, read_stopped}
use Rattle.pd_smap.proofs.MapLemmas.{index_bits}
use Rattle.pd_smap.proofs.meta.compare_index.Goals as goal

pub returns-in_err-read-clause-stopped : goal.returns-in_err-read-clause-stopped
returns-in_err-read-clause-stopped g c =
    on_err c.from_residual.result _ (block_stopped _ _ _ (g.D.Device.state c.args.dev.now) (g.D.Device.state c.read.new.self)
    (overflow_items c.args.overflow.now) (overflow_items c.args.overflow.now) (λ image. overflow_reads c.args.overflow.now image + (1 + bitmaps_for c.args.root.now.blocks)) (overflow_reads c.args.overflow.now) c.args.report.now
    c.in_err-read.ensures.kept c.in_err-read.ensures.faults (before_many (g.D.Device.state c.args.dev.now) (g.D.Device.state c.read.new.self) _ (bitmaps_for c.args.root.now.blocks) c.in_err-read.ensures.reads))

pub returns-clause-went : goal.returns-clause-went
returns-clause-went g c =
    ok_maps c.compare_indexed.result _ _
    (λ went. went_reads (record { space = Meta; refs = count_at c.args.audit.now; bits = bits_by (meta_place c.args.root.now.bitmap_root) }) 0 c.args.root.now.blocks _ _ (λ image. overflow_reads c.args.overflow.now image + (1 + bitmaps_for c.args.root.now.blocks)) (overflow_reads c.compare_indexed.new.overflow) (λ image. omega arith)
    (read_then Meta (count_at c.args.audit.now) (bits_by (λ image. index_block_at c.read.new.into.0)) (bits_by (meta_place c.args.root.now.bitmap_root)) 0 c.args.root.now.blocks c.args.root.now.blocks
    (g.D.Device.state c.args.dev.now) (g.D.Device.state c.read.new.self) c.args.report.now (overflow_items c.args.overflow.now) (λ image. overflow_reads c.args.overflow.now image + bitmaps_for c.args.root.now.blocks) _
    c.in_ok-read.ensures.kept c.in_ok-read.ensures.faults c.in_ok-read.ensures.reads
    (index_bits c.args.root.now.bitmap_root c.args.root.now.blocks c.read.new.into.0 (g.D.Device.state c.args.dev.now).held c.in_ok-read.ensures.content) refl went))
    c.compare_indexed.ensures.went

pub returns-clause-stopped : goal.returns-clause-stopped
returns-clause-stopped g c =
    err_maps c.compare_indexed.result _ _
    (λ stopped. stopped_reads (record { space = Meta; refs = count_at c.args.audit.now; bits = bits_by (meta_place c.args.root.now.bitmap_root) }) 0 c.args.root.now.blocks _ _ (λ image. overflow_reads c.args.overflow.now image + (1 + bitmaps_for c.args.root.now.blocks)) (overflow_reads c.compare_indexed.new.overflow) (λ image. omega arith)
    (read_stopped Meta (count_at c.args.audit.now) (bits_by (λ image. index_block_at c.read.new.into.0)) (bits_by (meta_place c.args.root.now.bitmap_root)) 0 c.args.root.now.blocks c.args.root.now.blocks
    (g.D.Device.state c.args.dev.now) (g.D.Device.state c.read.new.self) c.args.report.now (overflow_items c.args.overflow.now) (λ image. overflow_reads c.args.overflow.now image + bitmaps_for c.args.root.now.blocks) _
    c.in_ok-read.ensures.kept c.in_ok-read.ensures.faults c.in_ok-read.ensures.reads
    (index_bits c.args.root.now.bitmap_root c.args.root.now.blocks c.read.new.into.0 (g.D.Device.state c.args.dev.now).held c.in_ok-read.ensures.content) refl stopped))
    c.compare_indexed.ensures.stopped
