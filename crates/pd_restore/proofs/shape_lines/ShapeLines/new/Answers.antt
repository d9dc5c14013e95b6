use Rattle.std.proofs.Common.{List, ap, length, ◌∙◌}
use Rattle.pd_salvage.specs.declared.saved_shape.SavedLeaf.{SavedLeaf}
use Rattle.pd_salvage.specs.declared.saved_shape.ShapedDevice.{ShapedDevice}
use Rattle.pd_restore.proofs.ShapeLineLemmas.{all_told}
use Rattle.pd_restore.proofs.shape_lines.ShapeLines.new.Goals as goal

pub returns : goal.returns
returns c =
    all_told c.args.saved c.all_of-leaves.result c.none_of-leaf_runs.result c.all_of-devices.result c.all_of.result c.none_of-runs.result
    c.all_of-leaves.ensures.at (c.all_of-leaves.ensures.left ∙ ap (λ (ls : List SavedLeaf). length ls) c.leaves.ensures)
    (rw c.leaf_runs.ensures at c.none_of-leaf_runs.ensures.none) (rw c.leaf_runs.ensures at c.none_of-leaf_runs.ensures.behind)
    c.all_of-devices.ensures.at (c.all_of-devices.ensures.left ∙ ap (λ (ds : List ShapedDevice). length ds) c.devices.ensures) c.all_of.ensures.at c.all_of.ensures.left
    (rw c.runs.ensures at c.none_of-runs.ensures.none) (rw c.runs.ensures at c.none_of-runs.ensures.behind)
