use Rattle.pd_settle.proofs.EntryLemmas.{below_is_number}
use Rattle.pd_settle.proofs.telling.below_is_the_number_of_entries.Goals as goal

pub returns : goal.returns
returns c roles nr data_blocks layout t image audit role b lawful none settled ordered within is_tree reached =
    below_is_number roles nr data_blocks layout t image role within is_tree lawful none audit settled ordered b reached
