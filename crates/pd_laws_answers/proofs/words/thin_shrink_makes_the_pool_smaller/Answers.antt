use Rattle.std.proofs.Common.{false}
use Rattle.pd_laws_answers.proofs.Asked.{answered_for}
use Rattle.pd_laws_answers.proofs.Asked.{thin_shrink_asked}
use Rattle.pd_laws_answers.proofs.words.thin_shrink_makes_the_pool_smaller.Goals as goal

pub returns : goal.returns
returns c = λ from to pool word blocks before after status is_from is_to is_pool is_word is ends.
    c.shrunk_pool_is_clean_and_reads_the_same.ensures false from to pool blocks before after status
    (answered_for _ _ status before after (thin_shrink_asked false from to pool word blocks is_from is_to is_pool is_word is) ends)
