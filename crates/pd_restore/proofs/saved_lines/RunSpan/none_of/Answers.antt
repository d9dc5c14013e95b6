use Rattle.std.proofs.Common.{refl}
use Rattle.pd_restore.specs.SavedLines.{behind_runs, in_runs}
use Rattle.pd_restore.proofs.saved_lines.RunSpan.none_of.Goals as goal

pub returns-clause-none : goal.returns-clause-none
unfolding in_runs
returns-clause-none c = refl

pub returns-clause-behind : goal.returns-clause-behind
unfolding behind_runs
returns-clause-behind c = c.first.ensures
