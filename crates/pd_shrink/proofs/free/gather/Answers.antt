use Rattle.std.proofs.Common.{◌≡◌, ◌∙◌, ℕ, ◌+◌, ◌-◌, ◌*◌, ◌<◌, min, List, length, IfSome, ap, arith, subst, sym}
use Rattle.pd_kinds.specs.Bitmap.{bitmaps_for}
use Rattle.pd_kinds.proofs.NumberLemmas.{add_next, add_none}
use Rattle.pd_kinds.proofs.ResultLemmas.{if_all, if_maps, if_then}
use Rattle.pd_image.proofs.CrashLemmas.{only_reads_both}
use Rattle.pd_tree.specs.Cursor.{cursor_items, cursor_nodes}
use Rattle.pd_smap.specs.Overflow.{index_from, place_in}
use Rattle.pd_smap.specs.Overflow.{overflow_items, overflow_reads}
use Rattle.pd_smap.specs.Steps.{bits_by}
use Rattle.pd_smap.proofs.StepLemmas.{still_attached}
use Rattle.pd_shrink.specs.Gathered.{standing, with_reads}
use Rattle.pd_shrink.proofs.SearchLemmas.{map_searched, searched_many, searched_next, searched_nowhere, searched_reading, searched_reads}
use Rattle.pd_shrink.proofs.free.gather.Goals as goal

pub loop-i-init : goal.loop-i-init
loop-i-init g c =
    let s = standing (g.A.Device.state c.args.meta.now) c.args.free.now c.args.overflow.now in
    let bits = bits_by (λ image. place_in (cursor_items 16 index_from image c.args.index.now)) in
    record {
      searched =
          searched_reads c.args.wanted bits 0 (min (16320 * 0) c.args.end) s s
          (λ image. overflow_reads c.args.overflow.now image + (length (cursor_nodes 16 image c.args.index.now) + bitmaps_for c.args.end))
          (λ image. overflow_reads c.args.overflow.now image + (length (cursor_nodes 16 image c.args.index.now) + (bitmaps_for c.args.end - 0)))
          (λ image. omega arith) (searched_nowhere c.args.wanted bits 0 (min (16320 * 0) c.args.end) s (omega arith));
      places = if_all (g.A.Device.state c.args.meta.now).held _ (λ image j. ap (place_in (cursor_items 16 index_from image c.args.index.now)) (omega arith));
    }

pub next_place-requires : goal.next_place-requires
next_place-requires g c = record { attached = still_attached _ _ c.loop-i.invariant.searched.kept c.requires.attached }

pub gather_at-requires-clause-attached : goal.gather_at-requires-clause-attached
gather_at-requires-clause-attached g c = still_attached _ _ c.in-Ok.ensures.kept (still_attached _ _ c.loop-i.invariant.searched.kept c.requires.attached)

pub gather_at-requires-clause-room : goal.gather_at-requires-clause-room
gather_at-requires-clause-room g c = omega (arith, c.loop-i.invariant.searched.most, c.requires.room, c.loop-i-test.true, c.bitmaps_for-bitmaps.ensures)

pub loop-i-preserved : goal.loop-i-preserved
loop-i-preserved g c =
    let before = c.loop-i.invariant in
    let placing = c.in-Ok.ensures in
    let held = (g.A.Device.state c.args.meta.now).held in
    let place : List (List ℕ) → ℕ → ℕ = λ image. place_in (cursor_items 16 index_from image c.args.index.now) in
    let s = with_reads (λ image. length (cursor_nodes 16 image c.args.index.now) + bitmaps_for c.args.end) (standing (g.A.Device.state c.args.meta.now) c.args.free.now c.args.overflow.now) in
    let loop = with_reads (λ image. length (cursor_nodes 16 image c.loop-i.index) + (bitmaps_for c.args.end - c.loop-i.i)) (standing (g.A.Device.state c.loop-i.meta) c.loop-i.free c.loop-i.overflow) in
    let t = standing (g.A.Device.state c.next_place.new.dev) c.loop-i.free c.loop-i.overflow in
    let left : List (List ℕ) → ℕ = λ image. overflow_reads c.loop-i.overflow image + (length (cursor_nodes 16 image c.next_place.new.index) + (bitmaps_for c.args.end - c.loop-i.i)) in
    let rest : List (List ℕ) → ℕ = λ image. overflow_reads c.gather_at.new.overflow image + (length (cursor_nodes 16 image c.next_place.new.index) + (bitmaps_for c.args.end - (c.loop-i.i + 1))) in
    let same : (g.A.Device.state c.next_place.new.dev).held ≡ held = (only_reads_both {a = g.A.Device.state c.args.meta.now} {b = g.A.Device.state c.loop-i.meta} {c = g.A.Device.state c.next_place.new.dev} before.searched.kept placing.kept).held in
    let within : 16320 * c.loop-i.i < c.args.end = omega (arith, c.loop-i-test.true, c.bitmaps_for-bitmaps.ensures) in
    let first = searched_next c.args.wanted (bits_by place) 0 (min (16320 * c.loop-i.i) c.args.end) (min (16320 * c.loop-i.i) c.args.end) 0 (min (16320 * c.loop-i.i) c.args.end) s loop (record t { reads = left })
    (omega arith) (omega arith) before.searched
    (searched_reading c.args.wanted (bits_by place) (min (16320 * c.loop-i.i) c.args.end) (g.A.Device.state c.loop-i.meta) (g.A.Device.state c.next_place.new.dev) c.loop-i.free (overflow_items c.loop-i.overflow)
    loop.reads left placing.kept placing.faults (if_maps (g.A.Device.state c.loop-i.meta).held _ _ (λ image fewer. omega (arith, fewer)) placing.reads)) in
    record {
      searched =
          map_searched c.args.wanted place c.in-Ok.place c.loop-i.i c.args.end s t (standing (g.A.Device.state c.gather_at.new.meta) c.gather_at.new.free c.gather_at.new.overflow) left rest within
          (subst (λ o. IfSome o (λ image. place_in (cursor_items 16 index_from image c.args.index.now) c.loop-i.i ≡ c.in-Ok.place)) (sym same)
          (if_then held (g.A.Device.state c.loop-i.meta).held _ _ _ before.searched.kept.held
          (λ image places one. ap (place_in (cursor_items 16 index_from image c.args.index.now)) (add_none c.loop-i.i) ∙ places 0 ∙ one) before.places placing.first))
          (λ image. omega (arith, c.loop-i-test.true, c.bitmaps_for-bitmaps.ensures)) first c.in_ok-gather_at.ensures.searched;
      places =
          if_then held (g.A.Device.state c.loop-i.meta).held _ _ _ before.searched.kept.held
          (λ image places next j. ap (place_in (cursor_items 16 index_from image c.args.index.now)) (add_next c.loop-i.i j) ∙ places (j + 1) ∙ next j) before.places placing.rest;
    }

pub returns-clause-searched : goal.returns-clause-searched
returns-clause-searched g c =
    let s = with_reads (λ image. length (cursor_nodes 16 image c.args.index.now) + bitmaps_for c.args.end) (standing (g.A.Device.state c.args.meta.now) c.args.free.now c.args.overflow.now) in
    let loop = with_reads (λ image. length (cursor_nodes 16 image c.loop-i.index) + (bitmaps_for c.args.end - c.loop-i.i)) (standing (g.A.Device.state c.loop-i.meta) c.loop-i.free c.loop-i.overflow) in
    let bits = bits_by (λ image. place_in (cursor_items 16 index_from image c.args.index.now)) in
    searched_many c.args.wanted bits 0 (min (16320 * c.loop-i.i) c.args.end) c.args.end s (standing (g.A.Device.state c.loop-i.meta) c.loop-i.free c.loop-i.overflow)
    (omega (arith, c.loop-i-test.false, c.bitmaps_for-bitmaps.ensures))
    (searched_reads c.args.wanted bits 0 (min (16320 * c.loop-i.i) c.args.end) s loop s.reads (overflow_reads c.loop-i.overflow) (λ image. omega arith) c.loop-i.invariant.searched)
