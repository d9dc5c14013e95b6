use Rattle.std.proofs.Common.{[], ap, ◌∙◌}
use Rattle.pd_count.specs.Counted.{count_of}
use Rattle.pd_salvage.specs.declared.saved.SavedHead.{SavedHead}
use Rattle.pd_restore.specs.ShapeNeed.{leaves_used}
use Rattle.pd_restore.proofs.PlainDataLemmas.{counts_pool}
use Rattle.pd_restore.proofs.ShapePartLemmas.{leaf_runs_within, own_runs_within, uses_below}
use Rattle.pd_restore.proofs.plain_need.counted_of_shape.Goals as goal

pub uses_of-requires : goal.uses_of-requires
uses_of-requires c = rw (c.leaves-leaves.ensures, c.pieces.ensures) (uses_below c.args.saved.now c.head.ensures.sound)

pub add_leaves-requires-clause-within : goal.add_leaves-requires-clause-within
add_leaves-requires-clause-within c =
    rw (c.in_ok-counted.ensures.size, c.head.ensures.head, c.leaf_runs.ensures) (leaf_runs_within c.args.saved.now c.head.ensures.sound)

pub add_runs-requires : goal.add_runs-requires
add_runs-requires c = record {
  within = rw (c.in_ok-add_leaves.ensures.size, c.in_ok-counted.ensures.size, c.head.ensures.head, c.runs.ensures) (own_runs_within c.args.saved.now c.head.ensures.sound);
}

pub returns-clause-size : goal.returns-clause-size
returns-clause-size c =
    c.in_ok-add_runs.ensures.size
    ∙ (c.in_ok-add_leaves.ensures.size ∙ (c.in_ok-counted.ensures.size ∙ ap (λ (head : SavedHead). head.blocks) c.head.ensures.head))

pub returns-clause-counted : goal.returns-clause-counted
returns-clause-counted c =
    let h = c.args.saved.now in
    let uses = c.in_ok-uses.uses in
    let used = rw c.pieces.ensures at c.in_ok-uses.ensures.listed in
    let front = rw (c.leaves-leaves.ensures, c.leaf_runs.ensures) at (c.in_ok-add_leaves.ensures.listed [] c.in_ok-counted.ensures.none) in
    let counted = rw c.runs.ensures at (c.in_ok-add_runs.ensures.listed (leaves_used (count_of uses) 0 h.leaves h.leaf_runs) front) in
    counts_pool h c.head.ensures.sound c.add_runs.new.self uses used counted
