use Rattle.std.proofs.Common.{◌∙◌}
use Rattle.pd_tree.specs.Below.{items_below}
use Rattle.pd_tree.specs.Cursor.{root_of}
use Rattle.pd_thin.specs.DevicePairs.{peeked_items}
use Rattle.pd_thin.specs.DevicePairs.{details_of}
use Rattle.pd_thin.proofs.TreePairLemmas.{trees_charged}
use Rattle.pd_thin.proofs.TreePairLemmas.{trees_told}
use Rattle.pd_thin.proofs.pool.mark_trees.Goals as goal

pub returns-clause-charges : goal.returns-clause-charges
returns-clause-charges g c =
    trees_told _ _ _ c.args.audit.now c.compare.new.audit c.begin.new.self.first c.begin-2.new.self.first
    (λ image. peeked_items 8 root_of image c.begin.new.self) (λ image. items_below 8 root_of image 63 c.args.mapping)
    (λ image. peeked_items 24 details_of image c.begin-2.new.self) (λ image. items_below 24 details_of image 63 c.args.details) c.in_ok-same.same
    c.in_ok-begin.ensures.kept.held (c.in_ok-begin-2.ensures.kept.held ∙ c.in_ok-begin.ensures.kept.held)
    c.in_ok-begin.ensures.items c.in_ok-begin.ensures.end c.in_ok-begin-2.ensures.items c.in_ok-begin-2.ensures.end c.in_ok-same.ensures.compared
    _
    (λ image is end is' end' compared graph pool reached.
    let lawful = pool.known.lawful in
    let sound = c.reached_trees_are_sound.ensures.in_order graph image in
    trees_charged graph image c.args.audit.now c.compare.new.audit c.charge.new.audit (record { mapping = c.args.mapping; details = c.args.details }) pool reached
    (sound c.args.mapping 2 lawful pool.ordered reached.mapping) (sound c.args.details 4 lawful pool.ordered reached.details)
    (c.keys_of_reached_trees_ascend.ensures graph image c.args.mapping 2 8 lawful pool.ordered pool.trees.devices.is_role reached.mapping)
    (c.keys_of_reached_trees_ascend.ensures graph image c.args.details 4 24 lawful pool.ordered pool.trees.details reached.details)
    (c.entries_lead_to_reached_pairs.ensures graph image c.args.mapping 2 8 3 (λ v. v) pool.trees.devices lawful pool.ordered reached.mapping)
    c.begin.new.self.first c.begin-2.new.self.first _ _ c.in_ok-same.same is end is' end' compared c.charge.ensures)
