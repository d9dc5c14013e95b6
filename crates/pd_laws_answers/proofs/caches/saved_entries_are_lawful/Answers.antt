use Rattle.pd_laws_answers.proofs.SavedEntries.{entries_lawful}
use Rattle.pd_laws_answers.proofs.caches.saved_entries_are_lawful.Goals as goal

pub returns : goal.returns
returns c = entries_lawful
