use Rattle.std.proofs.Common.{◌+◌, refl, arith}
use Rattle.pd_kinds.specs.declared.kind.Kind.TheVariants.{Cache}
use Rattle.pd_repair.specs.declared.repair.RepairFault.TheVariants.{Input, NoSuper}
use Rattle.pd_repair.proofs.SuperLemmas.{any_reported, missing_named, missing_reported}
use Rattle.pd_repair.proofs.CacheLemmas.{never_repaired, repaired_later}
use Rattle.pd_repair.proofs.cache_repair.repair_cache.Goals as goal

pub returns-then-blocks-eq0-clause-repaired : goal.returns-then-blocks-eq0-clause-repaired
returns-then-blocks-eq0-clause-repaired g c =
    let from = g.A.Device.state c.args.input.now in
    never_repaired c.args.version c.args.named (from.reads + 1) (NoSuper c.missing_super.result) from from (g.B.Device.state c.args.output.now) refl (omega arith)
    (missing_reported Cache from.held c.blocks-blocks.result c.missing_super.result c.if-blocks-eq0.true c.blocks-blocks.ensures.honest c.missing_super.ensures)

pub returns-then-blocks-eq0-clause-named : goal.returns-then-blocks-eq0-clause-named
returns-then-blocks-eq0-clause-named g c = missing_named c.missing_super.result c.missing_super.ensures

pub returns-in-Err-clause-repaired : goal.returns-in-Err-clause-repaired
returns-in-Err-clause-repaired g c =
    let from = g.A.Device.state c.args.input.now in
    never_repaired c.args.version c.args.named (from.reads + 1) Input from (g.A.Device.state c.read.new.self) (g.B.Device.state c.args.output.now) refl c.read.ensures.reads (any_reported Cache from.held)

pub returns-in-Ok-clause-repaired : goal.returns-in-Ok-clause-repaired
returns-in-Ok-clause-repaired g c =
    let from = g.A.Device.state c.args.input.now in
    repaired_later c.args.version c.args.named (from.reads + 1) c.repair_read.result from (g.A.Device.state c.read.new.self) (g.A.Device.state c.repair_read.new.input)
    (g.B.Device.state c.args.output.now) (g.B.Device.state c.repair_read.new.output) c.in-Ok.ensures.kept.held c.read.ensures.reads c.repair_read.ensures.repaired
