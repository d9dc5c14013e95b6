use Rattle.std.proofs.Common.{◌≡◌, ◌∙◌, ◌+◌, ◌-◌, ◌*◌, ◌^◌, ◌<◌, min, length, IfSome, arith, sym, ap, subst}
use Rattle.pd_kinds.specs.declared.rule.Space.TheVariants.{DataBlock}
use Rattle.pd_kinds.specs.Bitmap.{bitmaps_for}
use Rattle.pd_kinds.proofs.NumberLemmas.{add_next, add_none}
use Rattle.pd_kinds.proofs.ResultLemmas.{if_all, if_maps, if_then}
use Rattle.pd_count.specs.Counted.{count_of}
use Rattle.pd_tree.specs.Cursor.{cursor_items, cursor_nodes}
use Rattle.pd_smap.specs.Overflow.{index_from, place_in}
use Rattle.pd_smap.specs.Overflow.{comparison_state, overflow_items, overflow_reads}
use Rattle.pd_smap.specs.Steps.{bits_by, with_nodes}
use Rattle.pd_smap.proofs.StepLemmas.{went_many, went_next, went_nowhere, went_reading, went_reads, stopped_next, still_attached}
use Rattle.pd_smap.proofs.CountLemmas.{block_stopped, on_err}
use Rattle.pd_smap.proofs.CountLemmas.{map_went, map_stopped}
use Rattle.pd_smap.proofs.data.compare_listed.Goals as goal

pub loop-i-init : goal.loop-i-init
loop-i-init g c = record {
  went =
      went_many (record { space = DataBlock; refs = count_of c.args.counts.now; bits = bits_by (λ image. place_in (cursor_items 16 index_from image c.args.index.now)) }) 0 0 (min (16320 * 0) c.args.blocks) (with_nodes (λ image. length (cursor_nodes 16 image c.args.index.now) + bitmaps_for c.args.blocks) (comparison_state (g.D.Device.state c.args.dev.now) c.args.overflow.now c.args.report.now))
      (with_nodes (λ image. length (cursor_nodes 16 image c.args.index.now) + (bitmaps_for c.args.blocks - 0)) (comparison_state (g.D.Device.state c.args.dev.now) c.args.overflow.now c.args.report.now)) (omega arith)
      (went_reads (record { space = DataBlock; refs = count_of c.args.counts.now; bits = bits_by (λ image. place_in (cursor_items 16 index_from image c.args.index.now)) }) 0 0 (comparison_state (g.D.Device.state c.args.dev.now) c.args.overflow.now c.args.report.now) (comparison_state (g.D.Device.state c.args.dev.now) c.args.overflow.now c.args.report.now) _ _ (λ image. omega arith) (went_nowhere (record { space = DataBlock; refs = count_of c.args.counts.now; bits = bits_by (λ image. place_in (cursor_items 16 index_from image c.args.index.now)) }) 0 (comparison_state (g.D.Device.state c.args.dev.now) c.args.overflow.now c.args.report.now)));
  places = if_all (g.D.Device.state c.args.dev.now).held _ (λ image j. ap (place_in (cursor_items 16 index_from image c.args.index.now)) (omega arith));
}

pub next_place-requires : goal.next_place-requires
next_place-requires g c = record { attached = still_attached _ _ c.loop-i.invariant.went.kept c.requires.attached }

pub compare_at-requires-clause-attached : goal.compare_at-requires-clause-attached
compare_at-requires-clause-attached g c = still_attached _ _ c.in_ok-place.ensures.kept (still_attached _ _ c.loop-i.invariant.went.kept c.requires.attached)

pub compare_at-requires-clause-room : goal.compare_at-requires-clause-room
compare_at-requires-clause-room g c =
    let few : c.loop-i.report.total + min 16320 (c.args.blocks - 16320 * c.loop-i.i) < 2 ^ 64 =
    omega (arith, c.loop-i.invariant.went.total, c.requires.room, c.loop-i-test.true, c.bitmaps_for-bitmaps.ensures) in
    few

pub returns-in_err-place-clause-stopped : goal.returns-in_err-place-clause-stopped
returns-in_err-place-clause-stopped g c =
    on_err c.from_residual.result _
    (stopped_next (record { space = DataBlock; refs = count_of c.args.counts.now; bits = bits_by (λ image. place_in (cursor_items 16 index_from image c.args.index.now)) }) 0 (min (16320 * c.loop-i.i) c.args.blocks) (min (16320 * c.loop-i.i) c.args.blocks) 0 c.args.blocks (with_nodes (λ image. length (cursor_nodes 16 image c.args.index.now) + bitmaps_for c.args.blocks) (comparison_state (g.D.Device.state c.args.dev.now) c.args.overflow.now c.args.report.now)) (with_nodes (λ image. length (cursor_nodes 16 image c.loop-i.index) + (bitmaps_for c.args.blocks - c.loop-i.i)) (comparison_state (g.D.Device.state c.loop-i.dev) c.loop-i.overflow c.loop-i.report)) _ (omega arith) (omega arith) c.loop-i.invariant.went
    (block_stopped (record { space = DataBlock; refs = count_of c.args.counts.now; bits = bits_by (λ image. place_in (cursor_items 16 index_from image c.args.index.now)) }) (min (16320 * c.loop-i.i) c.args.blocks) 0 (g.D.Device.state c.loop-i.dev) (g.D.Device.state c.next_place.new.dev) (overflow_items c.loop-i.overflow) (overflow_items c.loop-i.overflow)
    (λ image. overflow_reads c.loop-i.overflow image + (length (cursor_nodes 16 image c.loop-i.index) + (bitmaps_for c.args.blocks - c.loop-i.i))) (overflow_reads c.loop-i.overflow) c.loop-i.report
    c.in_err-place.ensures.kept c.in_err-place.ensures.faults (if_maps (g.D.Device.state c.loop-i.dev).held _ _ (λ image fewer. omega (arith, fewer)) c.in_err-place.ensures.reads_failed)))

pub returns-in_err-compare_at-clause-stopped : goal.returns-in_err-compare_at-clause-stopped
returns-in_err-compare_at-clause-stopped g c =
    on_err c.from_residual-in_err-compare_at.result _
    (map_stopped DataBlock (count_of c.args.counts.now) (λ image. place_in (cursor_items 16 index_from image c.args.index.now)) c.in_ok-place.place c.loop-i.i c.args.blocks (with_nodes (λ image. length (cursor_nodes 16 image c.args.index.now) + bitmaps_for c.args.blocks) (comparison_state (g.D.Device.state c.args.dev.now) c.args.overflow.now c.args.report.now)) (comparison_state (g.D.Device.state c.next_place.new.dev) c.loop-i.overflow c.loop-i.report) (comparison_state (g.D.Device.state c.compare_at.new.dev) c.compare_at.new.overflow c.compare_at.new.report) (λ image. overflow_reads c.loop-i.overflow image + (length (cursor_nodes 16 image c.next_place.new.index) + (bitmaps_for c.args.blocks - c.loop-i.i))) (overflow_reads c.compare_at.new.overflow)
    (omega (arith, c.loop-i-test.true, c.bitmaps_for-bitmaps.ensures)) (subst (λ o. IfSome o (λ image. place_in (cursor_items 16 index_from image c.args.index.now) c.loop-i.i ≡ c.in_ok-place.place)) (sym (c.in_ok-place.ensures.kept.held ∙ c.loop-i.invariant.went.kept.held))
    (if_then (g.D.Device.state c.args.dev.now).held (g.D.Device.state c.loop-i.dev).held _ _ _ c.loop-i.invariant.went.kept.held
    (λ image places first. ap (place_in (cursor_items 16 index_from image c.args.index.now)) (add_none c.loop-i.i) ∙ places 0 ∙ first) c.loop-i.invariant.places c.in_ok-place.ensures.first)) (λ image. (omega (arith, c.loop-i-test.true, c.bitmaps_for-bitmaps.ensures))) (went_next (record { space = DataBlock; refs = count_of c.args.counts.now; bits = bits_by (λ image. place_in (cursor_items 16 index_from image c.args.index.now)) }) 0 (min (16320 * c.loop-i.i) c.args.blocks) (min (16320 * c.loop-i.i) c.args.blocks) 0 (min (16320 * c.loop-i.i) c.args.blocks) (with_nodes (λ image. length (cursor_nodes 16 image c.args.index.now) + bitmaps_for c.args.blocks) (comparison_state (g.D.Device.state c.args.dev.now) c.args.overflow.now c.args.report.now)) (with_nodes (λ image. length (cursor_nodes 16 image c.loop-i.index) + (bitmaps_for c.args.blocks - c.loop-i.i)) (comparison_state (g.D.Device.state c.loop-i.dev) c.loop-i.overflow c.loop-i.report)) (record { device = g.D.Device.state c.next_place.new.dev; report = c.loop-i.report; items = overflow_items c.loop-i.overflow; reads = (λ image. overflow_reads c.loop-i.overflow image + (length (cursor_nodes 16 image c.next_place.new.index) + (bitmaps_for c.args.blocks - c.loop-i.i))) }) (omega arith) (omega arith) c.loop-i.invariant.went
    (went_reading (record { space = DataBlock; refs = count_of c.args.counts.now; bits = bits_by (λ image. place_in (cursor_items 16 index_from image c.args.index.now)) }) (min (16320 * c.loop-i.i) c.args.blocks) (g.D.Device.state c.loop-i.dev) (g.D.Device.state c.next_place.new.dev) c.loop-i.report (overflow_items c.loop-i.overflow)
    (λ image. overflow_reads c.loop-i.overflow image + (length (cursor_nodes 16 image c.loop-i.index) + (bitmaps_for c.args.blocks - c.loop-i.i))) (λ image. overflow_reads c.loop-i.overflow image + (length (cursor_nodes 16 image c.next_place.new.index) + (bitmaps_for c.args.blocks - c.loop-i.i)))
    c.in_ok-place.ensures.kept c.in_ok-place.ensures.faults (if_maps (g.D.Device.state c.loop-i.dev).held _ _ (λ image fewer. omega (arith, fewer)) c.in_ok-place.ensures.reads))) c.in_err-compare_at.ensures.stopped)

pub loop-i-preserved : goal.loop-i-preserved
loop-i-preserved g c = record {
  went =
      map_went DataBlock (count_of c.args.counts.now) (λ image. place_in (cursor_items 16 index_from image c.args.index.now)) c.in_ok-place.place c.loop-i.i c.args.blocks (with_nodes (λ image. length (cursor_nodes 16 image c.args.index.now) + bitmaps_for c.args.blocks) (comparison_state (g.D.Device.state c.args.dev.now) c.args.overflow.now c.args.report.now)) (comparison_state (g.D.Device.state c.next_place.new.dev) c.loop-i.overflow c.loop-i.report) (comparison_state (g.D.Device.state c.compare_at.new.dev) c.compare_at.new.overflow c.compare_at.new.report) (λ image. overflow_reads c.loop-i.overflow image + (length (cursor_nodes 16 image c.next_place.new.index) + (bitmaps_for c.args.blocks - c.loop-i.i)))
      (λ image. overflow_reads c.compare_at.new.overflow image + (length (cursor_nodes 16 image c.next_place.new.index) + (bitmaps_for c.args.blocks - (c.loop-i.i + 1))))
      (omega (arith, c.loop-i-test.true, c.bitmaps_for-bitmaps.ensures)) (subst (λ o. IfSome o (λ image. place_in (cursor_items 16 index_from image c.args.index.now) c.loop-i.i ≡ c.in_ok-place.place)) (sym (c.in_ok-place.ensures.kept.held ∙ c.loop-i.invariant.went.kept.held))
      (if_then (g.D.Device.state c.args.dev.now).held (g.D.Device.state c.loop-i.dev).held _ _ _ c.loop-i.invariant.went.kept.held
      (λ image places first. ap (place_in (cursor_items 16 index_from image c.args.index.now)) (add_none c.loop-i.i) ∙ places 0 ∙ first) c.loop-i.invariant.places c.in_ok-place.ensures.first)) (λ image. (omega (arith, c.loop-i-test.true, c.bitmaps_for-bitmaps.ensures))) (went_next (record { space = DataBlock; refs = count_of c.args.counts.now; bits = bits_by (λ image. place_in (cursor_items 16 index_from image c.args.index.now)) }) 0 (min (16320 * c.loop-i.i) c.args.blocks) (min (16320 * c.loop-i.i) c.args.blocks) 0 (min (16320 * c.loop-i.i) c.args.blocks) (with_nodes (λ image. length (cursor_nodes 16 image c.args.index.now) + bitmaps_for c.args.blocks) (comparison_state (g.D.Device.state c.args.dev.now) c.args.overflow.now c.args.report.now)) (with_nodes (λ image. length (cursor_nodes 16 image c.loop-i.index) + (bitmaps_for c.args.blocks - c.loop-i.i)) (comparison_state (g.D.Device.state c.loop-i.dev) c.loop-i.overflow c.loop-i.report)) (record { device = g.D.Device.state c.next_place.new.dev; report = c.loop-i.report; items = overflow_items c.loop-i.overflow; reads = (λ image. overflow_reads c.loop-i.overflow image + (length (cursor_nodes 16 image c.next_place.new.index) + (bitmaps_for c.args.blocks - c.loop-i.i))) }) (omega arith) (omega arith) c.loop-i.invariant.went
      (went_reading (record { space = DataBlock; refs = count_of c.args.counts.now; bits = bits_by (λ image. place_in (cursor_items 16 index_from image c.args.index.now)) }) (min (16320 * c.loop-i.i) c.args.blocks) (g.D.Device.state c.loop-i.dev) (g.D.Device.state c.next_place.new.dev) c.loop-i.report (overflow_items c.loop-i.overflow)
      (λ image. overflow_reads c.loop-i.overflow image + (length (cursor_nodes 16 image c.loop-i.index) + (bitmaps_for c.args.blocks - c.loop-i.i))) (λ image. overflow_reads c.loop-i.overflow image + (length (cursor_nodes 16 image c.next_place.new.index) + (bitmaps_for c.args.blocks - c.loop-i.i)))
      c.in_ok-place.ensures.kept c.in_ok-place.ensures.faults (if_maps (g.D.Device.state c.loop-i.dev).held _ _ (λ image fewer. omega (arith, fewer)) c.in_ok-place.ensures.reads))) c.in_ok-compare_at.ensures.went;
  places =
      if_then (g.D.Device.state c.args.dev.now).held (g.D.Device.state c.loop-i.dev).held _ _ _ c.loop-i.invariant.went.kept.held
      (λ image places rest j. ap (place_in (cursor_items 16 index_from image c.args.index.now)) (add_next c.loop-i.i j) ∙ places (j + 1) ∙ rest j) c.loop-i.invariant.places c.in_ok-place.ensures.rest;
}

pub returns-clause-went : goal.returns-clause-went
returns-clause-went g c =
    went_many (record { space = DataBlock; refs = count_of c.args.counts.now; bits = bits_by (λ image. place_in (cursor_items 16 index_from image c.args.index.now)) }) 0 (min (16320 * c.loop-i.i) c.args.blocks) c.args.blocks (with_nodes (λ image. length (cursor_nodes 16 image c.args.index.now) + bitmaps_for c.args.blocks) (comparison_state (g.D.Device.state c.args.dev.now) c.args.overflow.now c.args.report.now)) (comparison_state (g.D.Device.state c.loop-i.dev) c.loop-i.overflow c.loop-i.report)
    (omega (arith, c.loop-i-test.false, c.bitmaps_for-bitmaps.ensures))
    (went_reads (record { space = DataBlock; refs = count_of c.args.counts.now; bits = bits_by (λ image. place_in (cursor_items 16 index_from image c.args.index.now)) }) 0 (min (16320 * c.loop-i.i) c.args.blocks) (with_nodes (λ image. length (cursor_nodes 16 image c.args.index.now) + bitmaps_for c.args.blocks) (comparison_state (g.D.Device.state c.args.dev.now) c.args.overflow.now c.args.report.now)) (with_nodes (λ image. length (cursor_nodes 16 image c.loop-i.index) + (bitmaps_for c.args.blocks - c.loop-i.i)) (comparison_state (g.D.Device.state c.loop-i.dev) c.loop-i.overflow c.loop-i.report))
    (λ image. overflow_reads c.args.overflow.now image + (length (cursor_nodes 16 image c.args.index.now) + bitmaps_for c.args.blocks)) (overflow_reads c.loop-i.overflow) (λ image. omega arith) c.loop-i.invariant.went)
