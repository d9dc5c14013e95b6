use Rattle.std.proofs.Common.{false}
use Rattle.pd_laws_answers.specs.Sharing.{HasTimesOfSharing, IsDamagedPool}
use Rattle.pd_laws_answers.proofs.SharingLemmas.{damaged_has_times}
use Rattle.pd_laws_answers.proofs.Repaired.{pools_made_so}
use Rattle.pd_laws_answers.proofs.SharingLemmas.{sees_sharing}
use Rattle.pd_laws_answers.proofs.repairs.repaired_pool_sees_sharing.Goals as goal

pub returns-clause-saved : goal.returns-clause-saved
returns-clause-saved c =
    let lawful = c.saved_pools_are_lawful.ensures in
    sees_sharing false (λ image base made is none enough laid. (lawful image is none, pools_made_so lawful c.laid_pool_is_clean.ensures.clean image base made is none enough laid))
    HasTimesOfSharing (λ image times. times)

pub returns-clause-damaged : goal.returns-clause-damaged
returns-clause-damaged c whole from to before after kept =
    let lawful = c.saved_pools_are_lawful.ensures in
    sees_sharing false (λ image base made is none enough laid. (lawful image is none, pools_made_so lawful c.laid_pool_is_clean.ensures.clean image base made is none enough laid))
    (IsDamagedPool whole) (λ image damage. damaged_has_times whole image damage kept (c.sound_pool_is_saved.ensures whole kept.is.bytes kept.sound)) from to before after
