use Rattle.pd_kinds.specs.declared.kind.Passing.TheVariants.{Leaks}
use Rattle.pd_kinds.proofs.LeakLemmas.{leaks_where_passes, passes_where_leaks}
use Rattle.pd_kinds.proofs.laws.reports_tell_leaks.Goals as goal

pub returns : goal.returns
returns c = λ found. (leaks_where_passes Leaks found, passes_where_leaks found)
