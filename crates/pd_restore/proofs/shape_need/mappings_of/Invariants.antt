use Rattle.std.proofs.Common.{◌≡◌, ◌+◌, drop, map, take}
use Rattle.pd_meaning_thin.specs.Packed.{runs_from}
use Rattle.pd_grammar.specs.ThinText.{number_in}
use Rattle.pd_meaning_thin.specs.Runs.{spelled}
use Rattle.pd_restore.specs.SavedLines.{behind_runs, in_runs}
use Rattle.pd_restore.proofs.shape_need.mappings_of.Given as goal

abbrev pub invariant-loop-run : goal.invariant-loop-run
invariant-loop-run l = record {
  mapped : l.mappings + number_in (map spelled (in_runs l.row l.runs)) ≡ number_in (map spelled (take l.number (runs_from l.runs l.initial.place)));
  stays : behind_runs l.row l.runs ≡ drop l.number (runs_from l.runs l.initial.place);
}

abbrev pub decreases-loop-run : goal.decreases-loop-run
decreases-loop-run l = l.row.left
