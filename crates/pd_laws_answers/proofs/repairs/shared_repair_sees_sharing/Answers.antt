use Rattle.std.proofs.Common.{true}
use Rattle.pd_laws_answers.specs.Sharing.{HasTimesOfSharing, IsDamagedPool}
use Rattle.pd_laws_answers.proofs.SharingLemmas.{damaged_has_times}
use Rattle.pd_laws_answers.proofs.Repaired.{shapes_made_so}
use Rattle.pd_laws_answers.proofs.SharingLemmas.{sees_sharing}
use Rattle.pd_laws_answers.proofs.repairs.shared_repair_sees_sharing.Goals as goal

pub returns-clause-saved : goal.returns-clause-saved
returns-clause-saved c =
    let so = shapes_made_so c.saved_shapes_mean_what_is_saved.ensures c.saved_shapes_are_shapes.ensures.twice c.laid_shapes_are_clean.ensures c.saved_shapes_are_lawful.ensures in
    sees_sharing true (λ image base made is none enough laid. (c.saved_pools_are_lawful.ensures image is none, (so image base made is none enough laid).pool))
    HasTimesOfSharing (λ image times. times)

pub returns-clause-damaged : goal.returns-clause-damaged
returns-clause-damaged c whole from to before after kept =
    let so = shapes_made_so c.saved_shapes_mean_what_is_saved.ensures c.saved_shapes_are_shapes.ensures.twice c.laid_shapes_are_clean.ensures c.saved_shapes_are_lawful.ensures in
    sees_sharing true (λ image base made is none enough laid. (c.saved_pools_are_lawful.ensures image is none, (so image base made is none enough laid).pool))
    (IsDamagedPool whole) (λ image damage. damaged_has_times whole image damage kept (c.sound_pool_is_saved.ensures whole kept.is.bytes kept.sound)) from to before after
