use Rattle.std.proofs.Common.{ℕ, List, [], ap, sym, subst, ◌∙◌}
use Rattle.pd_salvage.specs.declared.saved.SavedHead.{SavedHead}
use Rattle.pd_restore.specs.ShapeNeed.{HasCountedThrice}
use Rattle.pd_restore.proofs.SavedNeedLemmas.{data_is, runs_within}
use Rattle.pd_restore.proofs.saved_need.counted_of_saved.Goals as goal

pub add_runs-requires : goal.add_runs-requires
add_runs-requires c = record {
  within = rw (c.in_ok-counted.ensures.size, c.head.ensures.head, c.runs.ensures) (runs_within c.args.saved.now c.head.ensures.sound);
}

pub returns-clause-size : goal.returns-clause-size
returns-clause-size c = c.in_ok-add_runs.ensures.size ∙ (c.in_ok-counted.ensures.size ∙ ap (λ (head : SavedHead). head.blocks) c.head.ensures.head)

pub returns-clause-counted : goal.returns-clause-counted
returns-clause-counted c =
    let counted = rw c.runs.ensures at (c.in_ok-add_runs.ensures.listed [] c.in_ok-counted.ensures.none) in
    subst (λ (blocks : List ℕ). HasCountedThrice c.add_runs.new.self blocks) (sym (data_is c.args.saved.now c.head.ensures.sound)) counted
