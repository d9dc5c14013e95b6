use Rattle.std.proofs.Common.{rules}
use Rattle.pd_laid.specs.Salvage.{salvage_from}
use Rattle.pd_restore.specs.Pools.{pool_content}
use Rattle.pd_repair.proofs.SuperLemmas.{never_saved}
use Rattle.pd_repair.proofs.repair.repair_from.Goals as goal

pub returns-in_err-saved-clause-repaired : goal.returns-in_err-saved-clause-repaired
returns-in_err-saved-clause-repaired g c =
    never_saved pool_content salvage_from c.args.s.now c.in_err-saved.field-0.0 c.from_residual.result (g.A.Device.state c.args.input.now) (g.B.Device.state c.args.output.now) (search rules)
