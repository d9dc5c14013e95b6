use Rattle.pd_laws_answers.proofs.Cleared.{clearing_tells}
use Rattle.pd_laws_answers.proofs.laws.clearing_checks_tell_what_passes.Goals as goal

pub returns : goal.returns
returns c = clearing_tells c.faults_are_none_where_clean.ensures c.reports_tell_leaks.ensures
