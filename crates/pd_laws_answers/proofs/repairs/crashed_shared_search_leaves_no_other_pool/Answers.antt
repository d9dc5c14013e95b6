use Rattle.std.proofs.Common.{true}
use Rattle.pd_laws_answers.specs.Search.{IsShapeOf}
use Rattle.pd_laws_answers.proofs.Searched.{leaves_found}
use Rattle.pd_laws_answers.proofs.Repaired.{shapes_found_so}
use Rattle.pd_laws_answers.proofs.repairs.crashed_shared_search_leaves_no_other_pool.Goals as goal

pub returns : goal.returns
returns c = λ from to transaction block_size blocks before after status fit.
    leaves_found true transaction block_size blocks (IsShapeOf transaction block_size blocks)
    (shapes_found_so c.found_pools_are_saved_whole.ensures.saved c.saved_shapes_mean_what_is_saved.ensures c.saved_shapes_are_shapes.ensures.twice c.laid_shapes_are_clean.ensures transaction block_size blocks
    (λ image roots is best. c.found_shapes_are_lawful.ensures image transaction block_size blocks roots is fit best))
    from to before after status
