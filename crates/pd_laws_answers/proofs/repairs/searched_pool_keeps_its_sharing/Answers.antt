use Rattle.std.proofs.Common.{true}
use Rattle.pd_laws_answers.specs.Search.{IsShapeOf}
use Rattle.pd_laws_answers.proofs.Searched.{holds_best, holds_found, says_none}
use Rattle.pd_laws_answers.proofs.Repaired.{shapes_found_so}
use Rattle.pd_laws_answers.proofs.repairs.searched_pool_keeps_its_sharing.Goals as goal

pub returns-clause-found : goal.returns-clause-found
returns-clause-found c from to transaction block_size blocks before after fit =
    holds_found true transaction block_size blocks (IsShapeOf transaction block_size blocks)
    (shapes_found_so c.found_pools_are_saved_whole.ensures.saved c.saved_shapes_mean_what_is_saved.ensures c.saved_shapes_are_shapes.ensures.twice c.laid_shapes_are_clean.ensures transaction block_size blocks
    (λ image roots is best. c.found_shapes_are_lawful.ensures image transaction block_size blocks roots is fit best))
    from to before after

pub returns-clause-made : goal.returns-clause-made
returns-clause-made c from to transaction block_size blocks before after status fit =
    holds_best true transaction block_size blocks (IsShapeOf transaction block_size blocks)
    (shapes_found_so c.found_pools_are_saved_whole.ensures.saved c.saved_shapes_mean_what_is_saved.ensures c.saved_shapes_are_shapes.ensures.twice c.laid_shapes_are_clean.ensures transaction block_size blocks
    (λ image roots is best. c.found_shapes_are_lawful.ensures image transaction block_size blocks roots is fit best))
    from to before after status

pub returns-clause-none : goal.returns-clause-none
returns-clause-none c from to transaction block_size blocks before after = says_none true from to transaction block_size blocks before after
