use Rattle.pd_laws_answers.specs.Search.{IsPoolOf}
use Rattle.pd_laws_answers.proofs.Searched.{holds_best, holds_found, pools_found_so, says_none}
use Rattle.std.proofs.Common.{false}
use Rattle.pd_laws_answers.proofs.searches.searched_pool_is_clean.Goals as goal

pub returns-clause-found : goal.returns-clause-found
returns-clause-found c from to transaction block_size blocks before after fit =
    holds_found false transaction block_size blocks (IsPoolOf transaction block_size blocks)
    (pools_found_so transaction block_size blocks (λ image roots is best. c.found_pools_are_lawful.ensures image transaction block_size blocks roots is fit best) c.laid_pool_is_clean.ensures.clean)
    from to before after

pub returns-clause-made : goal.returns-clause-made
returns-clause-made c from to transaction block_size blocks before after status fit =
    holds_best false transaction block_size blocks (IsPoolOf transaction block_size blocks)
    (pools_found_so transaction block_size blocks (λ image roots is best. c.found_pools_are_lawful.ensures image transaction block_size blocks roots is fit best) c.laid_pool_is_clean.ensures.clean)
    from to before after status

pub returns-clause-none : goal.returns-clause-none
returns-clause-none c from to transaction block_size blocks before after = says_none false from to transaction block_size blocks before after
