use Rattle.pd_laws_answers.proofs.Listed.{all_kept}
use Rattle.pd_laws_answers.proofs.searches.listed_states_are_kept.Goals as goal

pub returns : goal.returns
returns c image given = all_kept image given
