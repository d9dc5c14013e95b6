use Rattle.std.proofs.Common.{◌+◌, ◌-◌, ◌*◌, ◌^◌, ◌<◌, min, arith, sym}
use Rattle.pd_kinds.specs.declared.rule.Space.TheVariants.{Meta}
use Rattle.pd_kinds.specs.Bitmap.{bitmaps_for, index_block_at}
use Rattle.pd_kinds.proofs.ResultLemmas.{if_all}
use Rattle.pd_graph.specs.Audit.{count_at}
use Rattle.pd_smap.specs.Overflow.{comparison_state, overflow_reads}
use Rattle.pd_smap.specs.Steps.{bits_by, with_reads}
use Rattle.pd_smap.proofs.StepLemmas.{went_many, went_nowhere, went_reads, still_attached}
use Rattle.pd_smap.proofs.CountLemmas.{on_err}
use Rattle.pd_smap.proofs.CountLemmas.{map_went, map_stopped}
use Rattle.pd_smap.proofs.meta.compare_indexed.Goals as goal

pub loop-i-init : goal.loop-i-init
loop-i-init g c =
    went_many (record { space = Meta; refs = count_at c.args.audit.now; bits = bits_by (λ image. index_block_at c.args.index.now.0) }) 0 0 (min (16320 * 0) c.args.blocks) (with_reads (bitmaps_for c.args.blocks) (comparison_state (g.D.Device.state c.args.dev.now) c.args.overflow.now c.args.report.now)) (with_reads (bitmaps_for c.args.blocks - 0) (comparison_state (g.D.Device.state c.args.dev.now) c.args.overflow.now c.args.report.now)) (omega arith)
    (went_reads (record { space = Meta; refs = count_at c.args.audit.now; bits = bits_by (λ image. index_block_at c.args.index.now.0) }) 0 0 (comparison_state (g.D.Device.state c.args.dev.now) c.args.overflow.now c.args.report.now) (comparison_state (g.D.Device.state c.args.dev.now) c.args.overflow.now c.args.report.now) _ _ (λ image. omega arith) (went_nowhere (record { space = Meta; refs = count_at c.args.audit.now; bits = bits_by (λ image. index_block_at c.args.index.now.0) }) 0 (comparison_state (g.D.Device.state c.args.dev.now) c.args.overflow.now c.args.report.now)))

pub compare_at-requires-clause-attached : goal.compare_at-requires-clause-attached
compare_at-requires-clause-attached g c = still_attached _ _ c.loop-i.invariant.kept c.requires.attached

pub compare_at-requires-clause-room : goal.compare_at-requires-clause-room
compare_at-requires-clause-room g c =
    let few : c.loop-i.report.total + min 16320 (c.args.blocks - 16320 * c.loop-i.i) < 2 ^ 64 =
    omega (arith, c.loop-i.invariant.total, c.requires.room, c.loop-i-test.true, c.bitmaps_for-bitmaps.ensures) in
    few

pub returns-in_err-compare_at-clause-stopped : goal.returns-in_err-compare_at-clause-stopped
returns-in_err-compare_at-clause-stopped g c =
    on_err c.from_residual.result _
    (map_stopped Meta (count_at c.args.audit.now) (λ image. index_block_at c.args.index.now.0) c.index_entry-place.result.block c.loop-i.i c.args.blocks
    (with_reads (bitmaps_for c.args.blocks) (comparison_state (g.D.Device.state c.args.dev.now) c.args.overflow.now c.args.report.now)) (comparison_state (g.D.Device.state c.loop-i.dev) c.loop-i.overflow c.loop-i.report) (comparison_state (g.D.Device.state c.compare_at.new.dev) c.compare_at.new.overflow c.compare_at.new.report) (λ image. overflow_reads c.loop-i.overflow image + (bitmaps_for c.args.blocks - c.loop-i.i)) (overflow_reads c.compare_at.new.overflow)
    (omega (arith, c.loop-i-test.true, c.bitmaps_for-bitmaps.ensures)) (if_all (g.D.Device.state c.loop-i.dev).held _ (λ image. sym c.index_entry-place.ensures.block))
    (λ image. omega (arith, c.loop-i-test.true, c.bitmaps_for-bitmaps.ensures)) c.loop-i.invariant c.in_err-compare_at.ensures.stopped)

pub loop-i-preserved : goal.loop-i-preserved
loop-i-preserved g c =
    map_went Meta (count_at c.args.audit.now) (λ image. index_block_at c.args.index.now.0) c.index_entry-place.result.block c.loop-i.i c.args.blocks
    (with_reads (bitmaps_for c.args.blocks) (comparison_state (g.D.Device.state c.args.dev.now) c.args.overflow.now c.args.report.now)) (comparison_state (g.D.Device.state c.loop-i.dev) c.loop-i.overflow c.loop-i.report) (comparison_state (g.D.Device.state c.compare_at.new.dev) c.compare_at.new.overflow c.compare_at.new.report) (λ image. overflow_reads c.loop-i.overflow image + (bitmaps_for c.args.blocks - c.loop-i.i))
    (λ image. overflow_reads c.compare_at.new.overflow image + (bitmaps_for c.args.blocks - (c.loop-i.i + 1)))
    (omega (arith, c.loop-i-test.true, c.bitmaps_for-bitmaps.ensures)) (if_all (g.D.Device.state c.loop-i.dev).held _ (λ image. sym c.index_entry-place.ensures.block))
    (λ image. omega (arith, c.loop-i-test.true, c.bitmaps_for-bitmaps.ensures)) c.loop-i.invariant c.in_ok-compare_at.ensures.went

pub returns-clause-went : goal.returns-clause-went
returns-clause-went g c =
    went_many (record { space = Meta; refs = count_at c.args.audit.now; bits = bits_by (λ image. index_block_at c.args.index.now.0) }) 0 (min (16320 * c.loop-i.i) c.args.blocks) c.args.blocks (with_reads (bitmaps_for c.args.blocks) (comparison_state (g.D.Device.state c.args.dev.now) c.args.overflow.now c.args.report.now)) (comparison_state (g.D.Device.state c.loop-i.dev) c.loop-i.overflow c.loop-i.report)
    (omega (arith, c.loop-i-test.false, c.bitmaps_for-bitmaps.ensures))
    (went_reads (record { space = Meta; refs = count_at c.args.audit.now; bits = bits_by (λ image. index_block_at c.args.index.now.0) }) 0 (min (16320 * c.loop-i.i) c.args.blocks) (with_reads (bitmaps_for c.args.blocks) (comparison_state (g.D.Device.state c.args.dev.now) c.args.overflow.now c.args.report.now)) (with_reads (bitmaps_for c.args.blocks - c.loop-i.i) (comparison_state (g.D.Device.state c.loop-i.dev) c.loop-i.overflow c.loop-i.report))
    (λ image. overflow_reads c.args.overflow.now image + bitmaps_for c.args.blocks) (overflow_reads c.loop-i.overflow) (λ image. omega arith) c.loop-i.invariant)
