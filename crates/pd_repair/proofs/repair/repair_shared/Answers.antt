use Rattle.std.proofs.Common.{ℕ, ◌+◌, subst}
use Rattle.std.proofs.lemmas.Result.{err_from_is_err_and}
use Rattle.pd_restore.specs.Pools.{shape_content}
use Rattle.pd_laid.specs.Salvage.{saved_shape_from}
use Rattle.pd_repair.specs.Repaired.{CountsRepair}
use Rattle.pd_repair.proofs.SuperLemmas.{other_named}
use Rattle.pd_repair.proofs.SuperLemmas.{never_repaired, other_reads, repaired_sound}
use Rattle.pd_repair.proofs.repair.repair_shared.Goals as goal

pub returns-clause-repaired : goal.returns-clause-repaired
returns-clause-repaired g c =
    repaired_sound shape_content saved_shape_from c.repair_shared_from.result c.in_ok-s.s (g.A.Device.state c.args.input.now) (g.A.Device.state c.sound_super.new.input) (g.B.Device.state c.args.output.now) (g.B.Device.state c.repair_shared_from.new.output)
    c.sound_super.ensures.input.held c.in_ok-s.ensures.sound c.repair_shared_from.ensures.sound c.repair_shared_from.ensures.repaired

pub returns-in_err-s-clause-repaired : goal.returns-in_err-s-clause-repaired
returns-in_err-s-clause-repaired g c =
    let from = g.A.Device.state c.args.input.now in
    let p = err_from_is_err_and c.from_residual.result c.from_residual.ensures.1 in
    rw (p.1, p.2) (never_repaired shape_content saved_shape_from c.in_err-s.field-0.0 (from.reads + 1) (g.A.Device.state c.sound_super.new.input).reads from (g.B.Device.state c.args.output.now) c.in_err-s.ensures.lacks)

pub returns-clause-named : goal.returns-clause-named
returns-clause-named g c = other_named c.repair_shared_from.result c.repair_shared_from.ensures.sound

pub returns-clause-reads : goal.returns-clause-reads
returns-clause-reads g c =
    other_reads c.repair_shared_from.result _ (g.A.Device.state c.repair_shared_from.new.input).reads c.repair_shared_from.ensures.sound

pub returns-in_err-s-clause-named : goal.returns-in_err-s-clause-named
returns-in_err-s-clause-named g c = let p = err_from_is_err_and c.from_residual.result c.from_residual.ensures.1 in rw (p.1, p.2) c.in_err-s.ensures.lacks.named

pub returns-in_err-s-clause-reads : goal.returns-in_err-s-clause-reads
returns-in_err-s-clause-reads g c = let p = err_from_is_err_and c.from_residual.result c.from_residual.ensures.1 in rw (p.1, p.2) c.in_err-s.ensures.lacks.few

pub returns-clause-causes : goal.returns-clause-causes
returns-clause-causes g c =
    subst (λ (faults : ℕ). CountsRepair c.repair_shared_from.result faults (g.A.Device.state c.repair_shared_from.new.input).faults (g.B.Device.state c.args.output.now).faults (g.B.Device.state c.repair_shared_from.new.output).faults)
    (c.in_ok-s.ensures.causes 0) c.repair_shared_from.ensures.causes
