use Rattle.std.proofs.Common.{false}
use Rattle.pd_laws_answers.specs.Search.{IsPoolOf}
use Rattle.pd_laws_answers.proofs.Searched.{leaves_found, pools_found_so}
use Rattle.pd_laws_answers.proofs.searches.crashed_search_leaves_no_other_pool.Goals as goal

pub returns : goal.returns
returns c = λ from to transaction block_size blocks before after status fit.
    leaves_found false transaction block_size blocks (IsPoolOf transaction block_size blocks)
    (pools_found_so transaction block_size blocks (λ image roots is best. c.found_pools_are_lawful.ensures image transaction block_size blocks roots is fit best) c.laid_pool_is_clean.ensures.clean)
    from to before after status
