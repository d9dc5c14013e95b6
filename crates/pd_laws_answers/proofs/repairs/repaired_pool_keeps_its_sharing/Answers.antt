use Rattle.std.proofs.Common.{true}
use Rattle.pd_kinds.specs.declared.kind.Kind.TheVariants.{Thin}
use Rattle.pd_kinds.specs.declared.kind.Stage.TheVariants.{Super}
use Rattle.pd_kinds.specs.Stages.{faults}
use Rattle.pd_laid.specs.Salvage.{salvage}
use Rattle.pd_laid.specs.Salvage.{saved_shape}
use Rattle.pd_answers.specs.Repairs.{saved_of}
use Rattle.pd_laws_answers.specs.Saved.{KeepsShape}
use Rattle.pd_laws_answers.proofs.Repaired.{repair_holds, super_statuses}
use Rattle.pd_laws_answers.proofs.Repaired.{shapes_made_so}
use Rattle.pd_laws_answers.proofs.repairs.repaired_pool_keeps_its_sharing.Goals as goal

pub returns : goal.returns
returns c =
    repair_holds (faults Thin Super) super_statuses true (saved_of true) (λ image made. KeepsShape made (salvage image) (saved_shape image))
    (shapes_made_so c.saved_shapes_mean_what_is_saved.ensures c.saved_shapes_are_shapes.ensures.twice c.laid_shapes_are_clean.ensures c.saved_shapes_are_lawful.ensures)
