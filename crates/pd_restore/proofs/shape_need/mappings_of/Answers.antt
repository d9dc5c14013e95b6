use Rattle.std.proofs.Common.{◌≡◌, ◌∷◌, List, arith, ap, map, sym, take, ◌∙◌}
use Rattle.std.proofs.lemmas.List.Sums.{sum_by-cons}
use Rattle.pd_meaning_thin.specs.Packed.{runs_from}
use Rattle.pd_grammar.specs.ThinText as text
use Rattle.pd_grammar.specs.ThinText.{number_in}
use Rattle.pd_meaning_thin.specs.declared.joined.Run.{Run}
use Rattle.pd_meaning_thin.specs.Runs.{spelled}
use Rattle.pd_restore.specs.declared.saved_lines.RunSpan.{RunSpan}
use Rattle.pd_restore.specs.SavedLines.{in_runs}
use Rattle.pd_restore.proofs.ShapeLineLemmas.{over_behind, row_left, row_taken}
use Rattle.pd_restore.proofs.shape_need.mappings_of.Goals as goal

pub loop-run-init : goal.loop-run-init
loop-run-init c =
    let runs = c.args.runs.now in
    let row : RunSpan = record { at = c.args.place.now; left = c.args.number } in
    let same : number_in (map spelled (in_runs row runs)) ≡ number_in (map spelled (take c.args.number (runs_from runs c.args.place.now))) = ap (λ (rs : List Run). number_in (map spelled rs)) (row_taken row runs) in
    record { mapped = omega (arith, same); stays = row_left row runs }

pub loop-run-preserved : goal.loop-run-preserved
loop-run-preserved c =
    let runs = c.args.runs.now in
    let run = c.in-Some.run' in
    let rest = in_runs c.next.new.self runs in
    let sums = sum_by-cons (λ (r : text.Run). r.length) (spelled run) (map spelled rest) in
    let first : number_in (map spelled (in_runs c.loop-run.row runs)) ≡ number_in (map spelled (run ∷ rest)) = ap (λ (rs : List Run). number_in (map spelled rs)) c.in-Some.ensures.some in
    record {
      mapped = omega (arith, c.loop-run.invariant.mapped, first, sums, c.in-Some-checked_add.ensures);
      stays = c.next.ensures.behind ∙ c.loop-run.invariant.stays;
    }

pub returns-clause-mappings : goal.returns-clause-mappings
returns-clause-mappings c =
    let none : number_in (map spelled (in_runs c.loop-run.row c.args.runs.now)) ≡ 0 = ap (λ (rs : List Run). number_in (map spelled rs)) c.in_default.ensures.none in
    omega (arith, c.loop-run.invariant.mapped, none)

pub returns-clause-behind : goal.returns-clause-behind
returns-clause-behind c =
    sym (over_behind c.next.new.self c.args.runs.now c.in_default.ensures.ended) ∙ (c.next.ensures.behind ∙ c.loop-run.invariant.stays)
