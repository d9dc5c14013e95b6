use Rattle.std.proofs.Common.{List, ◌++◌, ap, refl, sym, subst, take, ◌∙◌, arith}
use Rattle.std.specs.List.{AllByRecursion, range_with_len}
use Rattle.pd_meaning_thin.specs.Packed.{runs_from}
use Rattle.pd_meaning_thin.specs.declared.joined.Run.{Run}
use Rattle.pd_restore.specs.declared.saved_lines.RunSpan.{RunSpan}
use Rattle.pd_restore.specs.ShapeNeed.{copies}
use Rattle.pd_restore.specs.ShapeNeed.{runs_used}
use Rattle.pd_restore.specs.SavedLines.{in_runs}
use Rattle.pd_restore.proofs.SavedNeedLemmas.{IsWithin, counts_all, counts_next}
use Rattle.pd_restore.proofs.ShapeLineLemmas.{over_behind, row_left, row_taken}
use Rattle.pd_restore.proofs.plain_need.add_leaf.Goals as goal

pub loop-run-init : goal.loop-run-init
loop-run-init c =
    let runs = c.args.runs.now in
    let row : RunSpan = record { at = c.args.place.now; left = c.args.number } in
    record {
      size = refl;
      within = subst (AllByRecursion (IsWithin c.args.counted.now.size)) (sym (row_taken row runs)) c.requires.within;
      listed = λ before counted. record {
        first = before;
        counted = counted;
        joined = ap (λ (rs : List Run). before ++ runs_used c.args.times rs) (row_taken row runs);
      };
      stays = row_left row runs;
    }

pub add_run_times-requires : goal.add_run_times-requires
add_run_times-requires c =
    let within = rw c.in-Some.ensures.some at c.loop-run.invariant.within in
    record { within = omega (arith, within.0, c.loop-run.invariant.size) }

pub loop-run-preserved : goal.loop-run-preserved
loop-run-preserved c =
    let runs = c.args.runs.now in
    let times = c.args.times in
    let run = c.in-Some.run' in
    let within = rw c.in-Some.ensures.some at c.loop-run.invariant.within in
    record {
      size = c.in_ok-add_run_times.ensures.size ∙ c.loop-run.invariant.size;
      within = within.1;
      listed = λ before counted.
          let counts = c.loop-run.invariant.listed before counted in
          counts_next c.loop-run.counted c.add_run_times.new.self (before ++ runs_used times (take c.args.number (runs_from runs c.args.place.now)))
          (runs_used times (in_runs c.loop-run.row runs)) (copies times (range_with_len run.target run.length)) (runs_used times (in_runs c.next.new.self runs)) counts
          (ap (λ (rs : List Run). runs_used times rs) c.in-Some.ensures.some) (c.in_ok-add_run_times.ensures.listed counts.first counts.counted);
      stays = c.next.ensures.behind ∙ c.loop-run.invariant.stays;
    }

pub returns-clause-listed : goal.returns-clause-listed
returns-clause-listed c before counted =
    let runs = c.args.runs.now in
    counts_all c.loop-run.counted (before ++ runs_used c.args.times (take c.args.number (runs_from runs c.args.place.now))) (runs_used c.args.times (in_runs c.loop-run.row runs))
    (c.loop-run.invariant.listed before counted) (ap (λ (rs : List Run). runs_used c.args.times rs) c.in_default.ensures.none)

pub returns-clause-behind : goal.returns-clause-behind
returns-clause-behind c =
    sym (over_behind c.next.new.self c.args.runs.now c.in_default.ensures.ended) ∙ (c.next.ensures.behind ∙ c.loop-run.invariant.stays)
