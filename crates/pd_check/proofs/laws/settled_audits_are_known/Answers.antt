use Rattle.pd_check.proofs.KnownLemmas.{known_by}
use Rattle.pd_check.proofs.laws.settled_audits_are_known.Goals as goal

pub returns : goal.returns
returns c = known_by
