use Rattle.pd_kinds.specs.declared.kind.Kind.TheVariants.{Thin}
use Rattle.pd_kinds.specs.declared.kind.Stage.TheVariants.{Whole}
use Rattle.pd_kinds.specs.Graph.{block_at}
use Rattle.pd_kinds.specs.ThinFormat.{thin_graph}
use Rattle.pd_kinds.specs.ThinFormat.{thin_fields}
use Rattle.pd_meaning_thin.proofs.SoundPool.{gives_pool}
use Rattle.pd_meaning_thin.proofs.laws.rows_are_the_devices.Goals as goal

pub returns : goal.returns
returns c = λ image none.
    let trees = c.formats_have_trees.ensures.thin (block_at image 0) in
    let roots = c.superblocks_lead_to_reached_roots.ensures.thin Whole image tt none in
    let named = c.entries_lead_to_reached_pairs.ensures (thin_graph (block_at image 0)) image (thin_fields (block_at image 0)).mapping_root 2 8 3 (λ v. v) trees.devices
    (c.trees_are_in_order.ensures.lawful Thin Whole image none) (c.trees_are_in_order.ensures.in_order Thin Whole image tt none) roots.devices in
    gives_pool image none trees roots (λ b role reached. c.reached_trees_are_sound.ensures.without_faults Thin Whole image b role tt none reached) named
