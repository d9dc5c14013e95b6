use Rattle.pd_kinds.specs.Whole.{details_entries, top_entries}
use Rattle.pd_measures.specs.Counts.{counts_of_details, counts_of_top, details_time, details_transaction, times_of_top, top_time}
use Rattle.pd_measures.proofs.MeasureLemmas.{details_are, tops_are}
use Rattle.pd_measures.proofs.laws.measures_are_those_of_lists.Goals as goal

pub returns-clause-details : goal.returns-clause-details
unfolding counts_of_details details_time details_transaction
returns-clause-details c graph image details = details_are (details_entries graph image details)

pub returns-clause-tops : goal.returns-clause-tops
unfolding counts_of_top times_of_top top_time
returns-clause-tops c graph image top notes times told = tops_are graph image notes times (top_entries graph image top) told
