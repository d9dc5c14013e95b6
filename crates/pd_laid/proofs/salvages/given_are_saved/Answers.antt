use Rattle.pd_laid.proofs.SavedLemmas.{given_where_saved}
use Rattle.pd_laid.proofs.salvages.given_are_saved.Goals as goal

pub returns : goal.returns
returns c = given_where_saved
