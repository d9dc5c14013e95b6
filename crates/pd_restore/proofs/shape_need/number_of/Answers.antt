use Rattle.std.proofs.Common.{◌≡◌, ◌∙◌, List, ap, map, take, arith}
use Rattle.std.proofs.lemmas.List.{take_all}
use Rattle.pd_grammar.specs.ThinText.{number_in}
use Rattle.pd_meaning_thin.specs.Packed.{runs_from}
use Rattle.pd_meaning_thin.specs.declared.joined.Run.{Run}
use Rattle.pd_meaning_thin.specs.Runs.{spelled}
use Rattle.pd_restore.proofs.MostOverLemmas.{number_of_data}
use Rattle.pd_restore.proofs.shape_need.number_of.Goals as goal

pub returns : goal.returns
returns c =
    let runs = c.args.runs.now in
    let all : take c.len.result (runs_from runs c.first-place.result) ≡ runs =
    ap (take c.len.result) c.first-place.ensures ∙ take_all c.len.result runs (omega (arith, c.len.ensures)) in
    c.in_ok-number.ensures.mappings ∙ (ap (λ (rs : List Run). number_in (map spelled rs)) all ∙ number_of_data runs)
