use Rattle.std.proofs.Common.{◌∷◌}
use Rattle.pd_answers.specs.Words.{asked}
use Rattle.pd_laws_answers.specs.Words.{words_of_groups}
use Rattle.pd_laws_answers.proofs.Asked.{answered_for}
use Rattle.pd_laws_answers.proofs.OrderLemmas.{all_still, grouped, reordered}
use Rattle.pd_laws_answers.proofs.word_order.reordered_words_ask_the_same.Goals as goal

pub returns-clause-asked : goal.returns-clause-asked
returns-clause-asked c tool groups others are moved = reordered tool groups others are (all_still groups others are moved) moved

pub returns-clause-ends : goal.returns-clause-ends
returns-clause-ends c tool groups others status before after are moved ends =
    answered_for (tool ∷ words_of_groups others) (asked (tool ∷ words_of_groups groups)) status before after
    (reordered tool groups others are (all_still groups others are moved) moved) ends

pub returns-clause-grouped : goal.returns-clause-grouped
returns-clause-grouped c = grouped
