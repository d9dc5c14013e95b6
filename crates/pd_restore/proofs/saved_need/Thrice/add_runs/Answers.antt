use Rattle.std.proofs.Common.{List, ◌++◌, ap, refl, ◌∙◌, arith}
use Rattle.std.specs.List.{range_with_len}
use Rattle.pd_meaning_thin.specs.Packed.{runs_from}
use Rattle.pd_meaning_thin.specs.declared.joined.Run.{Run as SavedRun}
use Rattle.pd_restore.specs.ShapeNeed.{data_of_runs}
use Rattle.pd_restore.proofs.SavedNeedLemmas.{counts_all, counts_next}
use Rattle.pd_restore.proofs.saved_need.Thrice.add_runs.Goals as goal

pub loop-run-init : goal.loop-run-init
loop-run-init c = record {
  size = refl;
  within = rw c.first-place.ensures c.requires.within;
  listed = λ before counted. record { first = before; counted = counted; joined = ap (λ (runs : List SavedRun). before ++ data_of_runs runs) c.first-place.ensures };
}

pub add_run-requires : goal.add_run-requires
add_run-requires c =
    let within = rw c.in-Some.ensures at c.loop-run.invariant.within in
    record { within = omega (arith, within.0, c.loop-run.invariant.size) }

pub loop-run-preserved : goal.loop-run-preserved
loop-run-preserved c =
    let runs = c.args.runs.now in
    let within = rw c.in-Some.ensures at c.loop-run.invariant.within in
    record {
      size = c.in_ok-add_run.ensures.size ∙ c.loop-run.invariant.size;
      within = within.1;
      listed = λ before counted.
          let counts = c.loop-run.invariant.listed before counted in
          counts_next c.loop-run.self c.add_run.new.self (before ++ data_of_runs runs) (data_of_runs (runs_from runs c.loop-run.place)) (range_with_len c.in-Some.run'.target c.in-Some.run'.length)
          (data_of_runs (runs_from runs c.next.new.place)) counts (ap data_of_runs c.in-Some.ensures)
          (c.in_ok-add_run.ensures.listed counts.first counts.counted);
    }

pub returns-clause-listed : goal.returns-clause-listed
returns-clause-listed c before counted =
    counts_all c.loop-run.self (before ++ data_of_runs c.args.runs.now) (data_of_runs (runs_from c.args.runs.now c.loop-run.place)) (c.loop-run.invariant.listed before counted)
    (ap data_of_runs c.in_default.ensures.0)
