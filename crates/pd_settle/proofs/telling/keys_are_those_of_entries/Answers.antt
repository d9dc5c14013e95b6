use Rattle.pd_settle.proofs.EntryLemmas.{keys_are_of_entries}
use Rattle.pd_settle.proofs.telling.keys_are_those_of_entries.Goals as goal

pub returns : goal.returns
returns c roles nr data_blocks layout t image role b lawful none within is_tree reached =
    keys_are_of_entries roles nr data_blocks layout t image role within is_tree lawful none b reached
