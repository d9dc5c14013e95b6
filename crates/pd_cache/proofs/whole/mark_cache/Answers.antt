use Rattle.std.proofs.Common.{◌==◌, ℕ, [], ◌∷◌, ◌++◌, List, arith}
use Rattle.std.specs.List.{flat_map}
use Rattle.pd_kinds.specs.Whole.{array_whole, bitmap_tests}
use Rattle.pd_kinds.proofs.ResultLemmas.{if_maps, if_then}
use Rattle.pd_check.proofs.RefsLemmas.{ok_maps}
use Rattle.pd_check.proofs.SharedLemmas.{charges_then, keeps_both}
use Rattle.pd_cache.specs.Whole.{arrays_named, origin_test, tests_named}
use Rattle.pd_cache.proofs.WholeLemmas.{arrays_stay, has_mappings, ready_stays}
use Rattle.pd_cache.proofs.whole.mark_cache.Goals as goal

pub returns-clause-reads : goal.returns-clause-reads
returns-clause-reads g c =
    let kept = keeps_both c.args.audit.now c.mark_origin.new.audit c.mark_shared.new.audit c.mark_origin.ensures.rules c.mark_shared.ensures.charges.kept in
    if_maps (g.D.Device.state c.args.dev.now).held _ _
    (λ image reads. omega (arith, reads, c.mark_arrays.ensures.reads, arrays_stay c.args.audit.now c.mark_shared.new.audit kept)) c.mark_origin.ensures.reads

pub returns-clause-charges : goal.returns-clause-charges
unfolding tests_named
returns-clause-charges g c =
    let graph = g.F.Format.graph c.args.format.now in
    let fields = c.args.fields.now in
    let a = c.args.audit.now in
    let b = c.mark_origin.new.audit in
    let d = c.mark_shared.new.audit in
    let e = c.mark_arrays.new.audit in
    let bitmaps = λ (image : List (List ℕ)). bitmap_tests graph image (λ role. role == 8) in
    ok_maps c.mark_arrays.result _ _ (λ charges.
    if_then (g.D.Device.state c.args.dev.now).held (g.D.Device.state c.mark_origin.new.dev).held _ _ _ c.mark_origin.ensures.kept.held
    (λ image origin_charged arrays_charged ready counted.
    let ready_b = ready_stays graph image fields a b ready c.mark_origin.ensures.rules in
    let ready_d = ready_stays graph image fields b d ready_b c.mark_shared.ensures.charges.kept in
    charges_then (origin_test graph image fields.mapping_root ∷ []) (bitmaps image ++ flat_map (array_whole graph image) (arrays_named fields)) a b e
    (origin_charged graph (has_mappings graph image a ready.cache) ready.roots.mappings)
    (charges_then (bitmaps image) (flat_map (array_whole graph image) (arrays_named fields)) b d e
    (c.mark_shared.ensures.bitmaps graph image ready_b.cache.known) (arrays_charged ready_d counted)))
    c.in_ok-mark_origin.ensures.charges charges) c.mark_arrays.ensures.charges
