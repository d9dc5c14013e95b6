use Rattle.std.proofs.Common.{sym, ap, subst, ◌∙◌, arith}
use Rattle.pd_kinds.specs.declared.kind.Kind.TheVariants.{Era}
use Rattle.pd_kinds.specs.EraFormat.{EraFields, era_fields, era_graph, era_layout}
use Rattle.pd_kinds.specs.Graph.{Graph, is_reached}
use Rattle.pd_kinds.specs.Stages.{checked_of}
use Rattle.pd_kinds.proofs.ResultLemmas.{if_all, if_maps}
use Rattle.pd_check.proofs.RefsLemmas.{ok_maps}
use Rattle.pd_check.specs.Arrays.{AreAllShown}
use Rattle.pd_check.proofs.ArrayRules.{super_charged}
use Rattle.pd_era.specs.Whole.{IsReady, arrays, tests_named, whole_reads}
use Rattle.pd_era.proofs.WholeLemmas.{blocks_are, graph_is, have_words, whole_is}
use Rattle.pd_era.proofs.check.mark_by_super.Goals as goal

pub of-format-requires-clause-some : goal.of-format-requires-clause-some
of-format-requires-clause-some g c =
    omega (arith, c.nr-nr.ensures.number, c.nr-nr.ensures.some, c.requires.number, blocks_are c.args.b.now.0, ap (λ (f : EraFields). f.meta_map.blocks) c.read_era_super-fields.ensures)

pub of-format-requires-clause-few : goal.of-format-requires-clause-few
of-format-requires-clause-few g c =
    omega (arith, c.nr-nr.ensures.number, c.nr-nr.ensures.few, c.requires.number, blocks_are c.args.b.now.0, ap (λ (f : EraFields). f.meta_map.blocks) c.read_era_super-fields.ensures)

pub mark_era-requires-clause-number : goal.mark_era-requires-clause-number
mark_era-requires-clause-number g c =
    c.requires.number
    ∙ ap (λ (graph : Graph). graph.nr) (sym (c.of-format.ensures ∙ graph_is c.args.b.now.0 c.read_era_super-fields.result c.read_era_super-fields.ensures))

pub mark_era-requires-clause-places : goal.mark_era-requires-clause-places
mark_era-requires-clause-places g c =
    c.requires.room.places (omega (arith, c.requires.number, c.nr-nr.ensures.number, c.nr-nr.ensures.few)) ∙ sym c.requires.number

pub returns-clause-charges : goal.returns-clause-charges
returns-clause-charges g c =
    let first = c.args.b.now.0 in
    let marks = c.args.marks.now in
    let graph = c.of-format.ensures ∙ graph_is first c.read_era_super-fields.result c.read_era_super-fields.ensures in
    ok_maps c.mark_era.result _ _ (λ charges.
    if_maps (g.D.Device.state c.args.dev.now).held _ _ (λ image charged ordered shown.
    super_charged (λ (graph : Graph) (fields : EraFields). IsReady graph image c.args.audit.now fields) (λ (graph : Graph) (fields : EraFields). tests_named graph image fields) (checked_of Era image).whole
    c.read_era_super-fields.result (era_fields first) _ (era_graph first) c.args.audit.now c.mark_era.new.audit c.read_era_super-fields.ensures graph
    (whole_is image first ordered.first_block) (c.ordered_eras_are_ready.ensures first image c.args.audit.now ordered)
    (λ ready. charged ready
    (c.shown_blocks_are_counted.ensures _ image c.args.audit.now (era_layout 0) arrays marks ready.era.known have_words
    (subst (λ (g : Graph). AreAllShown (era_layout 0) image (is_reached g image) marks) (sym graph) shown)))) charges) c.mark_era.ensures.charges

pub returns-clause-reads : goal.returns-clause-reads
returns-clause-reads g c =
    let first = c.args.b.now.0 in
    let audit = c.args.audit.now in
    if_all (g.D.Device.state c.args.dev.now).held _ (λ image ordered.
    let few = c.rules_read_each_pair_once.ensures (era_graph first) image audit (era_fields first) (c.ordered_eras_are_ready.ensures first image audit ordered) in
    omega (arith, c.mark_era.ensures.reads, few, ap (λ (f : EraFields). whole_reads audit f) c.read_era_super-fields.ensures))
