use Rattle.std.proofs.Common.{ap, ◌∙◌, sym, arith}
use Rattle.pd_kinds.specs.declared.superblocks.SmRoot.{SmRoot}
use Rattle.pd_check.proofs.CountLemmas.{map_number, meta_told, on_ok}
use Rattle.pd_check.proofs.counts.add_meta_faults.Goals as goal

pub compare_meta-requires-clause-number : goal.compare_meta-requires-clause-number
compare_meta-requires-clause-number g c =
    ap (λ (m : SmRoot). m.blocks) c.meta_map-root.ensures ∙ (map_number g.M.Metadata.kind c.args.first.now.0 ∙ sym c.requires.number)

pub compare_meta-requires-clause-room : goal.compare_meta-requires-clause-room
compare_meta-requires-clause-room g c =
    let e = ap (λ (m : SmRoot). m.blocks) c.meta_map-root.ensures ∙ map_number g.M.Metadata.kind c.args.first.now.0 in
    let room = c.requires.room in omega (arith, e, room)

pub compare_meta-requires-clause-few : goal.compare_meta-requires-clause-few
compare_meta-requires-clause-few g c =
    let e = ap (λ (m : SmRoot). m.blocks) c.meta_map-root.ensures ∙ map_number g.M.Metadata.kind c.args.first.now.0 in
    let few = c.requires.few in omega (arith, e, few)

pub returns-then-inside-clause-added : goal.returns-then-inside-clause-added
returns-then-inside-clause-added g c = on_ok c.compare_meta.result
    (λ adds.
    meta_told c.formats_have_trees.ensures.thin c.formats_have_trees.ensures.cache c.formats_have_trees.ensures.era c.reached_trees_are_sound.ensures.without_faults
    c.superblocks_lead_to_reached_roots.ensures.thin c.superblocks_lead_to_reached_roots.ensures.cache c.superblocks_lead_to_reached_roots.ensures.era
    c.overflow_trees_hold_counts.ensures.searchable c.overflow_trees_hold_counts.ensures.entries
    _ g.M.Metadata.kind c.args.first.now.0 c.args.audit.now c.meta_map-root.result c.args.report.now c.compare_meta.new.report c.meta_map-root.ensures adds)
    c.compare_meta.ensures.added

pub returns-then-inside-clause-total : goal.returns-then-inside-clause-total
returns-then-inside-clause-total g c =
    let e = ap (λ (m : SmRoot). m.blocks) c.meta_map-root.ensures ∙ map_number g.M.Metadata.kind c.args.first.now.0 in
    let few = c.compare_meta.ensures.total in
    omega (arith, e, few)
