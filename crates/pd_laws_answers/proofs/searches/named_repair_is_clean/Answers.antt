use Rattle.std.proofs.Common.{[]}
use Rattle.pd_answers.specs.NamedRepairs.{saved_from_named}
use Rattle.pd_laws_answers.specs.Search.{IsSavedFrom}
use Rattle.pd_laws_answers.proofs.NamedSaved.{named_made_so}
use Rattle.pd_laws_answers.proofs.Repaired.{repair_holds, repair_leaves}
use Rattle.pd_laws_answers.proofs.searches.named_repair_is_clean.Goals as goal

pub returns-clause-holds : goal.returns-clause-holds
returns-clause-holds c shared from to given named before after fit =
    repair_holds (λ image. []) _ shared (λ image. saved_from_named shared image given named) (IsSavedFrom shared given named)
    (named_made_so c.saved_shapes_mean_what_is_saved.ensures c.saved_shapes_are_shapes.ensures.shape c.saved_shapes_are_shapes.ensures.twice c.laid_shapes_are_clean.ensures c.laid_pool_is_clean.ensures.clean shared given named fit)
    from to before after

pub returns-clause-leaves : goal.returns-clause-leaves
returns-clause-leaves c shared from to given named before after status fit =
    repair_leaves (λ image. []) _ shared (λ image. saved_from_named shared image given named) (IsSavedFrom shared given named)
    (named_made_so c.saved_shapes_mean_what_is_saved.ensures c.saved_shapes_are_shapes.ensures.shape c.saved_shapes_are_shapes.ensures.twice c.laid_shapes_are_clean.ensures c.laid_pool_is_clean.ensures.clean shared given named fit)
    from to before after status
