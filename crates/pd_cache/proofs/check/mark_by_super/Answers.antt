use Rattle.std.proofs.Common.{ℕ, sym, ap, ◌∙◌, subst, arith}
use Rattle.pd_kinds.specs.declared.kind.Kind.TheVariants.{Cache}
use Rattle.pd_kinds.specs.CacheFormat.{CacheFields, cache_fields, cache_graph, cache_layout}
use Rattle.pd_kinds.specs.Graph.{Graph, is_reached}
use Rattle.pd_kinds.specs.Stages.{checked_of}
use Rattle.pd_kinds.proofs.ResultLemmas.{if_maps}
use Rattle.pd_check.proofs.RefsLemmas.{ok_maps}
use Rattle.pd_check.specs.Arrays.{AreAllShown}
use Rattle.pd_check.proofs.ArrayRules.{super_charged}
use Rattle.pd_cache.specs.Meeting.{IsRoomFor}
use Rattle.pd_cache.specs.Whole.{IsReady, arrays, origin_reads, tests_named}
use Rattle.pd_cache.proofs.WholeLemmas.{blocks_are, graph_is, have_words, whole_is}
use Rattle.pd_cache.proofs.check.mark_by_super.Goals as goal

pub of-format-requires-clause-some : goal.of-format-requires-clause-some
of-format-requires-clause-some g c =
    omega (arith, c.nr-nr.ensures.number, c.nr-nr.ensures.some, c.requires.number, blocks_are c.args.b.now.0, ap (λ (f : CacheFields). f.meta_map.blocks) c.read_cache_super-fields.ensures)

pub of-format-requires-clause-few : goal.of-format-requires-clause-few
of-format-requires-clause-few g c =
    omega (arith, c.nr-nr.ensures.number, c.nr-nr.ensures.few, c.requires.number, blocks_are c.args.b.now.0, ap (λ (f : CacheFields). f.meta_map.blocks) c.read_cache_super-fields.ensures)

pub mark_cache-requires-clause-number : goal.mark_cache-requires-clause-number
mark_cache-requires-clause-number g c =
    c.requires.number
    ∙ ap (λ (graph : Graph). graph.nr) (sym (c.of-format.ensures ∙ graph_is c.args.b.now.0 c.read_cache_super-fields.result c.read_cache_super-fields.ensures))

pub mark_cache-requires-clause-room : goal.mark_cache-requires-clause-room
mark_cache-requires-clause-room g c =
    subst (λ (n : ℕ). IsRoomFor n c.args.room.now) (sym c.requires.number) (c.requires.room.is (omega (arith, c.requires.number, c.nr-nr.ensures.number, c.nr-nr.ensures.few)))

pub returns-clause-charges : goal.returns-clause-charges
returns-clause-charges g c =
    let first = c.args.b.now.0 in
    let marks = c.args.room.now.arrays.marks in
    let graph = c.of-format.ensures ∙ graph_is first c.read_cache_super-fields.result c.read_cache_super-fields.ensures in
    ok_maps c.mark_cache.result _ _ (λ charges.
    if_maps (g.D.Device.state c.args.dev.now).held _ _ (λ image charged ordered shown.
    super_charged (λ (graph : Graph) (fields : CacheFields). IsReady graph image c.args.audit.now fields) (λ (graph : Graph) (fields : CacheFields). tests_named graph image fields) (checked_of Cache image).whole
    c.read_cache_super-fields.result (cache_fields first) _ (cache_graph first) c.args.audit.now c.mark_cache.new.audit c.read_cache_super-fields.ensures graph
    (whole_is image first ordered.first_block) (c.ordered_caches_are_ready.ensures first image c.args.audit.now ordered)
    (λ ready. charged ready
    (c.shown_blocks_are_counted.ensures _ image c.args.audit.now (cache_layout 0) arrays marks ready.cache.known have_words
    (subst (λ (g : Graph). AreAllShown (cache_layout 0) image (is_reached g image) marks) (sym graph) shown)))) charges) c.mark_cache.ensures.charges

pub returns-clause-reads : goal.returns-clause-reads
returns-clause-reads g c =
    let first = c.args.b.now.0 in
    let audit = c.args.audit.now in
    if_maps (g.D.Device.state c.args.dev.now).held _ _ (λ image reads ordered.
    let few = c.rules_read_each_pair_twice.ensures (cache_graph first) image audit (cache_fields first) (c.ordered_caches_are_ready.ensures first image audit ordered) in
    omega (arith, reads, few, ap (λ (f : CacheFields). origin_reads audit image f.mapping_root) c.read_cache_super-fields.ensures)) c.mark_cache.ensures.reads
