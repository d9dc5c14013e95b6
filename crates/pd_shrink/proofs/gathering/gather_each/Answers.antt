use Rattle.std.proofs.Common.{◌+◌, ◌-◌, arith}
use Rattle.pd_smap.specs.Steps.{bits_from}
use Rattle.pd_smap.proofs.StepLemmas.{still_attached}
use Rattle.pd_shrink.specs.Gathered.{standing}
use Rattle.pd_shrink.proofs.SearchLemmas.{reads_after, reads_so_far, searched_many, searched_next, searched_nowhere}
use Rattle.pd_shrink.proofs.gathering.gather_each.Goals as goal

pub loop-e-init : goal.loop-e-init
loop-e-init g c =
    searched_nowhere c.args.wanted (bits_from c.args.base c.args.bitmap.now.0) (c.args.base + c.args.from) (c.args.from - c.args.from)
    (standing (g.A.Device.state c.args.meta.now) c.args.free.now c.args.overflow.now) (omega arith)

pub gather_entry-requires-clause-attached : goal.gather_entry-requires-clause-attached
gather_entry-requires-clause-attached g c = still_attached _ _ c.loop-e.invariant.kept c.requires.attached

pub gather_entry-requires-clause-room : goal.gather_entry-requires-clause-room
gather_entry-requires-clause-room g c = omega (arith, c.loop-e.invariant.most, c.requires.room, c.loop-e-test.true, c.loop-e.auto.e)

pub returns-in_err-gather_entry-clause-reads : goal.returns-in_err-gather_entry-clause-reads
returns-in_err-gather_entry-clause-reads g c =
    reads_after c.args.wanted (bits_from c.args.base c.args.bitmap.now.0) (c.args.base + c.args.from) (c.loop-e.e - c.args.from) (g.A.Device.state c.gather_entry.new.meta).reads
    (standing (g.A.Device.state c.args.meta.now) c.args.free.now c.args.overflow.now) (standing (g.A.Device.state c.loop-e.meta) c.loop-e.free c.loop-e.overflow)
    c.loop-e.invariant c.in_err-gather_entry.ensures.reads

pub loop-e-preserved : goal.loop-e-preserved
loop-e-preserved g c =
    searched_next c.args.wanted (bits_from c.args.base c.args.bitmap.now.0) (c.args.base + c.args.from) (c.loop-e.e - c.args.from) (c.args.base + c.loop-e.e) 1 (c.loop-e.e + 1 - c.args.from)
    (standing (g.A.Device.state c.args.meta.now) c.args.free.now c.args.overflow.now) (standing (g.A.Device.state c.loop-e.meta) c.loop-e.free c.loop-e.overflow) _
    (omega (arith, c.loop-e.auto.e)) (omega (arith, c.loop-e.auto.e)) c.loop-e.invariant c.in_ok-gather_entry.ensures.searched

pub returns-clause-searched : goal.returns-clause-searched
returns-clause-searched g c =
    searched_many c.args.wanted (bits_from c.args.base c.args.bitmap.now.0) (c.args.base + c.args.from) (c.loop-e.e - c.args.from) c.args.len
    (standing (g.A.Device.state c.args.meta.now) c.args.free.now c.args.overflow.now) (standing (g.A.Device.state c.loop-e.meta) c.loop-e.free c.loop-e.overflow)
    (omega (arith, c.loop-e-test.false, c.loop-e.auto.e, c.loop-e.auto.e-end)) c.loop-e.invariant

pub returns-clause-reads : goal.returns-clause-reads
returns-clause-reads g c =
    reads_so_far c.args.wanted (bits_from c.args.base c.args.bitmap.now.0) (c.args.base + c.args.from) (c.loop-e.e - c.args.from)
    (standing (g.A.Device.state c.args.meta.now) c.args.free.now c.args.overflow.now) (standing (g.A.Device.state c.loop-e.meta) c.loop-e.free c.loop-e.overflow) c.loop-e.invariant
