use Rattle.std.proofs.Common.{true}
use Rattle.pd_laws_answers.proofs.Asked.{answered_for}
use Rattle.pd_laws_answers.proofs.Asked.{said_numbers_fit, thin_search_asked}
use Rattle.pd_laws_answers.proofs.words.thin_repair_finds_the_sharing.Goals as goal

pub returns-clause-found : goal.returns-clause-found
returns-clause-found c from to words given before after is_from is_to say ends =
    c.searched_pool_keeps_its_sharing.ensures.found from to given.transaction given.block_size given.blocks before after (said_numbers_fit words given say)
    (answered_for _ _ 0 before after (thin_search_asked true from to words given is_from is_to say) ends)

pub returns-clause-made : goal.returns-clause-made
returns-clause-made c from to words given before after status is_from is_to say ends =
    c.searched_pool_keeps_its_sharing.ensures.made from to given.transaction given.block_size given.blocks before after status (said_numbers_fit words given say)
    (answered_for _ _ status before after (thin_search_asked true from to words given is_from is_to say) ends)

pub returns-clause-none : goal.returns-clause-none
returns-clause-none c from to words given before after is_from is_to say ends =
    c.searched_pool_keeps_its_sharing.ensures.none from to given.transaction given.block_size given.blocks before after
    (answered_for _ _ 1 before after (thin_search_asked true from to words given is_from is_to say) ends)

pub returns-clause-seen : goal.returns-clause-seen
returns-clause-seen c from to words given before after status is_from is_to say ends =
    c.searched_pool_sees_sharing.ensures.shared from to given.transaction given.block_size given.blocks before after status (said_numbers_fit words given say)
    (answered_for _ _ status before after (thin_search_asked true from to words given is_from is_to say) ends)
