use Rattle.pd_kinds.specs.Stages.{checked_of}
use Rattle.pd_kinds.proofs.LeakLemmas.{counts_enough, has_other_rules, only_leaks_past, only_leaks_whole}
use Rattle.pd_kinds.proofs.laws.leaks_alone_lose_nothing.Goals as goal

pub returns-clause-sound : goal.returns-clause-sound
returns-clause-sound c = only_leaks_whole

pub returns-clause-counts : goal.returns-clause-counts
returns-clause-counts c = λ kind image leaks.
    counts_enough (checked_of kind image) image (has_other_rules kind image) (only_leaks_past kind image leaks).counts
