use Rattle.std.proofs.Common.{◌≡◌, ◌+◌, ◌-◌, ap, arith, drop, refl, subst, take, ◌∙◌}
use Rattle.pd_meaning_thin.specs.Packed.{runs_from}
use Rattle.pd_restore.specs.declared.shape_need.TreeCounts.{TreeCounts}
use Rattle.pd_restore.specs.ShapeNeed.{CountsPieces}
use Rattle.pd_restore.proofs.ShapeNeedLemmas.{one_device}
use Rattle.pd_restore.proofs.shape_need.with_device.Goals as goal

pub returns : goal.returns
returns c =
    let old = c.args.counts in
    let d = c.args.device.now in
    let leaves = c.in_ok-leaves.leaves in
    let end = c.in_ok-end.ensures.1 in
    let size : c.in_ok-end.end - old.pieces ≡ d.pieces = omega (arith, end) in
    let runs = c.args.runs.now in
    let new : TreeCounts = record { trees = c.in_ok-checked_add.field-0; pieces = c.in_ok-end.end; place = leaves.place } in
    one_device old new leaves d c.args.pieces.now runs
    (subst (λ n. CountsPieces (take n (drop old.pieces c.args.pieces.now)) runs (runs_from runs old.place) leaves) size c.in_ok-leaves.ensures)
    (c.in_ok-checked_add.ensures.1 ∙ ap (λ n. old.trees + n) c.tree_ended.ensures) end refl
