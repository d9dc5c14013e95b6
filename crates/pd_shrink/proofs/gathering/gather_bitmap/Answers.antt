use Rattle.std.proofs.Common.{◌+◌, ◌-◌, ◌*◌, ◌/◌, arith, refl}
use Rattle.pd_smap.specs.Steps.{bits_from}
use Rattle.pd_smap.proofs.StepLemmas.{ok_maps, still_attached}
use Rattle.pd_shrink.specs.Gathered.{standing}
use Rattle.pd_shrink.proofs.SearchLemmas.{reads_after, searched_next}
use Rattle.pd_shrink.proofs.gathering.gather_bitmap.Goals as goal

pub gather_each-requires-clause-attached : goal.gather_each-requires-clause-attached
gather_each-requires-clause-attached g c = still_attached _ _ c.in_ok-gather_groups.ensures.kept c.requires.attached

pub gather_each-requires-clause-room : goal.gather_each-requires-clause-room
gather_each-requires-clause-room g c = omega (arith, c.in_ok-gather_groups.ensures.searched.most, c.requires.room)

pub returns-clause-searched : goal.returns-clause-searched
returns-clause-searched g c =
    ok_maps c.gather_each.result _ _
    (searched_next c.args.wanted (bits_from c.args.base c.args.bitmap.now.0) c.args.base (32 * (c.args.len / 32)) (c.args.base + 32 * (c.args.len / 32)) (c.args.len - 32 * (c.args.len / 32)) c.args.len
    (standing (g.A.Device.state c.args.meta.now) c.args.free.now c.args.overflow.now) (standing (g.A.Device.state c.gather_groups.new.meta) c.gather_groups.new.free c.gather_groups.new.overflow) _
    refl (omega arith) c.in_ok-gather_groups.ensures.searched) c.gather_each.ensures.searched

pub returns-clause-reads : goal.returns-clause-reads
returns-clause-reads g c =
    reads_after c.args.wanted (bits_from c.args.base c.args.bitmap.now.0) c.args.base (32 * (c.args.len / 32)) (g.A.Device.state c.gather_each.new.meta).reads
    (standing (g.A.Device.state c.args.meta.now) c.args.free.now c.args.overflow.now) (standing (g.A.Device.state c.gather_groups.new.meta) c.gather_groups.new.free c.gather_groups.new.overflow)
    c.in_ok-gather_groups.ensures.searched c.gather_each.ensures.reads
