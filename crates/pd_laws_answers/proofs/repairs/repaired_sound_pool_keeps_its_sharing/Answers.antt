use Rattle.std.proofs.Common.{◌∙◌, true, ap, subst, sym}
use Rattle.std.proofs.lemmas.Option.{IfSome_then}
use Rattle.pd_kinds.specs.Crash.{HoldsSynced}
use Rattle.pd_laid.specs.Laid.{count_in}
use Rattle.pd_laid.specs.Salvage.{salvage}
use Rattle.pd_laid.specs.Shape.{ThinShape}
use Rattle.pd_laws_laid.specs.Clean.{IsCleanPool}
use Rattle.pd_laid.specs.Salvage.{saved_shape}
use Rattle.pd_laid.specs.PoolText.{shape_data}
use Rattle.pd_laws_answers.specs.Saved.{KeepsShape}
use Rattle.pd_laws_answers.proofs.Repaired.{at_both, repair_done}
use Rattle.pd_laws_answers.proofs.Restored.{Image}
use Rattle.pd_laws_answers.proofs.repairs.repaired_sound_pool_keeps_its_sharing.Goals as goal

pub returns-clause-repaired : goal.returns-clause-repaired
returns-clause-repaired c image base from to before after status sound enough =
    repair_done true image base from to before after sound status (rw (c.sound_pools_save_their_shape.ensures image sound.is.bytes sound.sound) enough)

pub returns-clause-same : goal.returns-clause-same
returns-clause-same c image base from to before after sound answered =
    IfSome_then after.output.held
    (at_both before after image base (λ (i made : Image). KeepsShape made (salvage i) (saved_shape i) × HoldsSynced made after.output) sound.read sound.held sound.is
    (c.repaired_pool_keeps_its_sharing.ensures from to before after answered))
    (λ made is. (
      subst (IsCleanPool made) (c.sound_pool_is_saved.ensures image sound.is.bytes sound.sound) is.0.pool,
      is.0.shape ∙ c.sound_pools_save_their_shape.ensures image sound.is.bytes sound.sound,
    ))

pub returns-clause-counts : goal.returns-clause-counts
returns-clause-counts c image base from to before after sound no_copy few answered =
    let counted = c.sound_pools_count_each_leaf_once.ensures image sound.is sound.sound no_copy few in
    IfSome_then after.output.held
    (at_both before after image base (λ (i made : Image). KeepsShape made (salvage i) (saved_shape i) × HoldsSynced made after.output) sound.read sound.held sound.is
    (c.repaired_pool_keeps_its_sharing.ensures from to before after answered))
    (λ made is d.
    is.0.counts d ∙ (ap (λ (w : ThinShape). count_in (shape_data w) d) (c.sound_pools_save_their_shape.ensures image sound.is.bytes sound.sound) ∙ sym (counted d)))
