use Rattle.std.proofs.Common.{◌+◌, ◌*◌, arith, refl}
use Rattle.pd_smap.specs.Steps.{bits_from}
use Rattle.pd_smap.proofs.StepLemmas.{still_attached}
use Rattle.pd_shrink.specs.Gathered.{standing}
use Rattle.pd_shrink.proofs.SearchLemmas.{reads_after, reads_so_far, searched_many, searched_next, searched_nowhere}
use Rattle.pd_shrink.proofs.gathering.gather_groups.Goals as goal

pub loop-g-init : goal.loop-g-init
loop-g-init g c =
    searched_nowhere c.args.wanted (bits_from c.args.base c.args.bitmap.now.0) c.args.base (32 * 0)
    (standing (g.A.Device.state c.args.meta.now) c.args.free.now c.args.overflow.now) (omega arith)

pub gather_group-requires-clause-attached : goal.gather_group-requires-clause-attached
gather_group-requires-clause-attached g c = still_attached _ _ c.loop-g.invariant.kept c.requires.attached

pub gather_group-requires-clause-room : goal.gather_group-requires-clause-room
gather_group-requires-clause-room g c = omega (arith, c.loop-g.invariant.most, c.requires.room, c.loop-g-test.true)

pub returns-in_err-gather_group-clause-reads : goal.returns-in_err-gather_group-clause-reads
returns-in_err-gather_group-clause-reads g c =
    reads_after c.args.wanted (bits_from c.args.base c.args.bitmap.now.0) c.args.base (32 * c.loop-g.g) (g.A.Device.state c.gather_group.new.meta).reads
    (standing (g.A.Device.state c.args.meta.now) c.args.free.now c.args.overflow.now) (standing (g.A.Device.state c.loop-g.meta) c.loop-g.free c.loop-g.overflow)
    c.loop-g.invariant c.in_err-gather_group.ensures.reads

pub loop-g-preserved : goal.loop-g-preserved
loop-g-preserved g c =
    searched_next c.args.wanted (bits_from c.args.base c.args.bitmap.now.0) c.args.base (32 * c.loop-g.g) (c.args.base + 32 * c.loop-g.g) 32 (32 * (c.loop-g.g + 1))
    (standing (g.A.Device.state c.args.meta.now) c.args.free.now c.args.overflow.now) (standing (g.A.Device.state c.loop-g.meta) c.loop-g.free c.loop-g.overflow) _
    refl (omega arith) c.loop-g.invariant c.in_ok-gather_group.ensures.searched

pub returns-clause-searched : goal.returns-clause-searched
returns-clause-searched g c =
    searched_many c.args.wanted (bits_from c.args.base c.args.bitmap.now.0) c.args.base (32 * c.loop-g.g) (32 * c.args.groups)
    (standing (g.A.Device.state c.args.meta.now) c.args.free.now c.args.overflow.now) (standing (g.A.Device.state c.loop-g.meta) c.loop-g.free c.loop-g.overflow)
    (omega (arith, c.loop-g-test.false, c.loop-g.auto.g-end)) c.loop-g.invariant

pub returns-clause-reads : goal.returns-clause-reads
returns-clause-reads g c =
    reads_so_far c.args.wanted (bits_from c.args.base c.args.bitmap.now.0) c.args.base (32 * c.loop-g.g)
    (standing (g.A.Device.state c.args.meta.now) c.args.free.now c.args.overflow.now) (standing (g.A.Device.state c.loop-g.meta) c.loop-g.free c.loop-g.overflow) c.loop-g.invariant
