use Rattle.std.proofs.Common.{List, ap, subst, sym, ◌∙◌}
use Rattle.std.specs.List.{AllByRecursion}
use Rattle.pd_meaning_thin.specs.declared.joined.Run.{Run}
use Rattle.pd_restore.specs.declared.saved_lines.RunSpan.{RunSpan}
use Rattle.pd_restore.specs.ShapeNeed.{IsRunIn}
use Rattle.pd_restore.specs.SavedLines.{in_runs}
use Rattle.pd_restore.proofs.ShapeLineLemmas.{over_behind, row_left, row_taken}
use Rattle.pd_salvage.specs.Gather.{mappings_of_runs}
use Rattle.pd_repair.specs.Snaps.{is_twice, snap_after}
use Rattle.pd_repair.proofs.seen.snap_of_runs.Goals as goal

pub loop-run-init : goal.loop-run-init
loop-run-init c =
    let runs = c.args.runs.now in
    let row : RunSpan = record { at = c.args.place.now; left = c.args.number } in
    record {
      within = subst (AllByRecursion (IsRunIn c.args.counted.now.size)) (sym (row_taken row runs)) c.requires;
      snap = ap (λ (rs : List Run). snap_after (is_twice c.args.counted.now) c.args.snap (mappings_of_runs rs)) (row_taken row runs);
      stays = row_left row runs;
    }

pub later_of-latest-requires : goal.later_of-latest-requires
later_of-latest-requires c = (rw c.in-Some.ensures.some at c.loop-run.invariant.within).0

pub loop-run-preserved : goal.loop-run-preserved
loop-run-preserved c =
    let runs = c.args.runs.now in
    let test = is_twice c.args.counted.now in
    let rest = mappings_of_runs (in_runs c.next.new.self runs) in
    record {
      within = (rw c.in-Some.ensures.some at c.loop-run.invariant.within).1;
      snap =
          sym (c.later_of-latest.ensures rest)
          ∙ (ap (λ (rs : List Run). snap_after test c.loop-run.latest (mappings_of_runs rs)) (sym c.in-Some.ensures.some) ∙ c.loop-run.invariant.snap);
      stays = c.next.ensures.behind ∙ c.loop-run.invariant.stays;
    }

pub returns-clause-snap : goal.returns-clause-snap
returns-clause-snap c =
    let test = is_twice c.args.counted.now in
    sym (ap (λ (rs : List Run). snap_after test c.loop-run.latest (mappings_of_runs rs)) c.in_default.ensures.none) ∙ c.loop-run.invariant.snap

pub returns-clause-behind : goal.returns-clause-behind
returns-clause-behind c =
    sym (over_behind c.next.new.self c.args.runs.now c.in_default.ensures.ended) ∙ (c.next.ensures.behind ∙ c.loop-run.invariant.stays)
