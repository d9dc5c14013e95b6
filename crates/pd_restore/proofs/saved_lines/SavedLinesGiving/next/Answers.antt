use Rattle.std.proofs.Common.{◌≡◌, List, [], ◌∷◌, ap, drop, sym, subst, ◌∙◌}
use Rattle.std.specs.Prelude.{IfNone}
use Rattle.std.proofs.lemmas.Option.{IfSome_then}
use Rattle.pd_grammar.specs.ThinText.{Line}
use Rattle.pd_restore.specs.SavedLines.{lines_at}
use Rattle.pd_restore.specs.SavedLines.{behind_runs, in_runs}
use Rattle.pd_restore.proofs.SavedTextLemmas.{run_first, no_run}
use Rattle.pd_restore.proofs.ShapeLineLemmas.{none_in_runs}
use Rattle.pd_restore.proofs.saved_lines.SavedLinesGiving.next.Goals as goal

pub returns-in-Some-clause-some : goal.returns-in-Some-clause-some
returns-in-Some-clause-some c =
    let made = c.args.self.now in
    let runs = made.saved.runs in
    let devices = drop made.device made.saved.devices in
    let now = c.next.new.self in
    run_first (in_runs made.runs runs) (in_runs now runs) devices (behind_runs made.runs runs) (behind_runs now runs) (rw c.runs.ensures at c.next.ensures.behind) c.in-Some.run' (rw c.runs.ensures at c.in-Some.ensures.some)
    ∙ ap (λ (line : Line). line ∷ lines_at (in_runs now runs) devices (behind_runs now runs)) (sym c.map_line.ensures)

pub returns-clause-some : goal.returns-clause-some
returns-clause-some c =
    let made = c.args.self.now in
    let runs = made.saved.runs in
    let now = c.next.new.self in
    let same =
    no_run (in_runs made.runs runs) (in_runs now runs) (drop made.device made.saved.devices) (behind_runs made.runs runs) (behind_runs now runs) (rw c.runs.ensures at c.next.ensures.behind)
    (rw c.runs.ensures at c.in_default.ensures.none) (none_in_runs now runs c.in_default.ensures.ended) in
    IfSome_then c.next_device.result c.next_device.ensures.some (λ line gives. same ∙ gives)

pub returns-clause-none : goal.returns-clause-none
returns-clause-none c =
    let made = c.args.self.now in
    let runs = made.saved.runs in
    let now = c.next.new.self in
    let same =
    no_run (in_runs made.runs runs) (in_runs now runs) (drop made.device made.saved.devices) (behind_runs made.runs runs) (behind_runs now runs) (rw c.runs.ensures at c.next.ensures.behind)
    (rw c.runs.ensures at c.in_default.ensures.none) (none_in_runs now runs c.in_default.ensures.ended) in
    subst (λ (lines : List Line). IfNone c.next_device.result (lines ≡ [])) (sym same) c.next_device.ensures.none
