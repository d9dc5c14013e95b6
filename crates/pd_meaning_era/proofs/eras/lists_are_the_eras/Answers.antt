use Rattle.pd_kinds.specs.declared.kind.Kind.TheVariants.{Era}
use Rattle.pd_kinds.specs.declared.kind.Stage.TheVariants.{Whole}
use Rattle.pd_kinds.specs.EraFormat.{era_fields, era_graph, writeset_root}
use Rattle.pd_kinds.specs.Graph.{block_at}
use Rattle.pd_meaning_era.proofs.SoundEra.{gives_eras}
use Rattle.pd_meaning_era.proofs.eras.lists_are_the_eras.Goals as goal

pub returns : goal.returns
returns c = λ image none.
    let block = block_at image 0 in
    let graph = era_graph block in
    let root = (era_fields block).writesets_root in
    let trees = c.formats_have_trees.ensures.era block in
    let roots = c.superblocks_lead_to_reached_roots.ensures.era Whole image tt none in
    let sound = c.reached_trees_are_sound.ensures.without_faults Era Whole image root 2 tt none roots.writesets in
    let lawful = c.trees_are_in_order.ensures.lawful Era Whole image none in
    let ordered = c.trees_are_in_order.ensures.in_order Era Whole image tt none in
    gives_eras image none roots
    (λ b role size reached is_role. c.array_cursors_give_words.ensures graph image b role size is_role (c.reached_trees_are_sound.ensures.without_faults Era Whole image b role tt none reached))
    trees (c.cursors_give_entries.ensures.entries graph image root 2 trees.writesets.is_role sound) sound
    (c.entries_lead_to_reached_pairs.ensures graph image root 2 12 3 writeset_root trees.writesets lawful ordered roots.writesets)
