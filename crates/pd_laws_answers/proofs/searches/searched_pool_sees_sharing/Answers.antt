use Rattle.pd_laws_answers.proofs.SeenMade.{pool_sees, shape_sees}
use Rattle.pd_laws_answers.proofs.searches.searched_pool_sees_sharing.Goals as goal

pub returns-clause-plain : goal.returns-clause-plain
returns-clause-plain c from to transaction block_size blocks before after status fit answered done =
    pool_sees transaction block_size blocks before after (c.searched_pool_is_clean.ensures.made from to transaction block_size blocks before after status fit answered done)

pub returns-clause-shared : goal.returns-clause-shared
returns-clause-shared c from to transaction block_size blocks before after status fit answered done =
    shape_sees transaction block_size blocks before after (c.searched_pool_keeps_its_sharing.ensures.made from to transaction block_size blocks before after status fit answered done)
