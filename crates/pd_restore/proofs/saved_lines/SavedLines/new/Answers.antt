use Rattle.pd_restore.specs.SavedLines.{behind_runs, in_runs}
use Rattle.pd_restore.proofs.SavedTextLemmas.{all_left}
use Rattle.pd_restore.proofs.saved_lines.SavedLines.new.Goals as goal

pub returns : goal.returns
returns c =
    let saved = c.args.saved in
    let runs = c.none_of-runs.result in
    all_left saved (in_runs runs saved.runs) (behind_runs runs saved.runs) (rw c.runs.ensures at c.none_of-runs.ensures.none) (rw c.runs.ensures at c.none_of-runs.ensures.behind)
