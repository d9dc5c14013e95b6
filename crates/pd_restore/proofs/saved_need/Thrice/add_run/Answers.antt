use Rattle.std.proofs.Common.{◌++◌, ◌∙◌, subst}
use Rattle.std.specs.List.{range_with_len}
use Rattle.pd_restore.specs.ShapeNeed.{HasCountedThrice}
use Rattle.pd_restore.proofs.SavedNeedLemmas.{row_more}
use Rattle.pd_restore.proofs.saved_need.Thrice.add_run.Goals as goal

pub loop-i-preserved : goal.loop-i-preserved
loop-i-preserved c =
    let first = c.args.first in
    let i = c.loop-i.i in
    record {
      size = c.in_ok-add.ensures.size ∙ c.loop-i.invariant.size;
      listed = λ before counted. subst (HasCountedThrice c.add.new.self) (row_more first i before)
          (c.in_ok-add.ensures.listed (before ++ range_with_len first i) (c.loop-i.invariant.listed before counted));
    }
