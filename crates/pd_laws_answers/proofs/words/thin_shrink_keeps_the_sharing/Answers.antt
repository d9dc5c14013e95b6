use Rattle.std.proofs.Common.{true}
use Rattle.pd_laws_answers.proofs.Asked.{answered_for}
use Rattle.pd_laws_answers.proofs.Asked.{thin_shrink_asked}
use Rattle.pd_laws_answers.proofs.words.thin_shrink_keeps_the_sharing.Goals as goal

pub returns-clause-smaller : goal.returns-clause-smaller
returns-clause-smaller c from to pool word blocks before after status is_from is_to is_pool is_word is ends =
    c.shrunk_pool_is_clean_and_reads_the_same.ensures true from to pool blocks before after status
    (answered_for _ _ status before after (thin_shrink_asked true from to pool word blocks is_from is_to is_pool is_word is) ends)

pub returns-clause-sharing : goal.returns-clause-sharing
returns-clause-sharing c from to pool word blocks before after status is_from is_to is_pool is_word is ends =
    c.shrunk_pool_keeps_its_sharing.ensures.made from to pool blocks before after status
    (answered_for _ _ status before after (thin_shrink_asked true from to pool word blocks is_from is_to is_pool is_word is) ends)
