use Rattle.pd_kinds.proofs.ResultLemmas.{if_maps}
use Rattle.pd_tree.specs.Below.{items_below}
use Rattle.pd_tree.specs.Cursor.{root_of}
use Rattle.pd_cache.proofs.WholeLemmas.{origin_charged}
use Rattle.pd_cache.proofs.whole.mark_origin.Goals as goal

pub returns-clause-charges : goal.returns-clause-charges
returns-clause-charges g c =
    if_maps (g.D.Device.state c.args.dev.now).held _ _ (λ image repeats graph has reached.
    let sound = c.reached_trees_are_sound.ensures.in_order graph image c.args.root 1 has.known.lawful has.ordered reached in
    origin_charged graph image c.args.audit.now c.charge.new.audit c.args.root c.in_ok-repeated.repeated (items_below 8 root_of image 63 c.args.root) has
    (c.cursors_give_entries.ensures.entries graph image c.args.root 1 has.tree.is_role sound)
    (c.entries_lead_to_reached_pairs.ensures graph image c.args.root 1 8 2 (λ v. v) has.tree has.known.lawful has.ordered reached)
    repeats c.charge.ensures) c.in_ok-repeated.ensures.repeats
