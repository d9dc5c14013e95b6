use Rattle.std.proofs.Common.{◌++◌, ◌∙◌, refl, sym, subst}
use Rattle.std.specs.List.{range_with_len}
use Rattle.pd_restore.specs.ShapeNeed.{HasCountedThrice, copies}
use Rattle.pd_restore.proofs.PlainNeedLemmas.{copies_more, copies_none}
use Rattle.pd_restore.proofs.saved_need.Thrice.add_run_times.Goals as goal

pub loop-i-init : goal.loop-i-init
loop-i-init c = record {
  size = refl;
  listed = λ before counted. subst (HasCountedThrice c.args.self.now) (sym (copies_none before (range_with_len c.args.first c.args.length))) counted;
}

pub loop-i-preserved : goal.loop-i-preserved
loop-i-preserved c =
    let row = range_with_len c.args.first c.args.length in
    let i = c.loop-i._i in
    record {
      size = c.in_ok-add_run.ensures.size ∙ c.loop-i.invariant.size;
      listed = λ before counted. subst (HasCountedThrice c.add_run.new.self) (copies_more before row i)
          (c.in_ok-add_run.ensures.listed (before ++ copies i row) (c.loop-i.invariant.listed before counted));
    }
