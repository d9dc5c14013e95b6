use Rattle.std.proofs.Common.{◌-◌, ◌*◌, min, arith}
use Rattle.pd_smap.specs.Overflow.{overflow_items, overflow_reads}
use Rattle.pd_smap.specs.Steps.{bits_at, bits_from}
use Rattle.pd_smap.proofs.CountLemmas.{same_bits}
use Rattle.pd_smap.proofs.StepLemmas.{ok_maps}
use Rattle.pd_shrink.proofs.SearchLemmas.{read_then}
use Rattle.pd_shrink.proofs.gathering.gather_at.Goals as goal

pub returns-clause-searched : goal.returns-clause-searched
returns-clause-searched g c =
    ok_maps c.gather_bitmap.result _ _
    (read_then c.args.wanted (bits_from (16320 * c.args.i) c.read_bitmap.new.bitmap.0) (bits_at c.args.place c.args.i) (16320 * c.args.i) (min 16320 (c.args.blocks - 16320 * c.args.i)) c.min-len.result
    (g.A.Device.state c.args.meta.now) (g.A.Device.state c.read_bitmap.new.dev) c.args.free.now (overflow_items c.args.overflow.now) (overflow_reads c.args.overflow.now) _
    c.in-Ok.ensures.kept c.in-Ok.ensures.faults c.in-Ok.ensures.reads
    (same_bits c.args.place c.args.i c.min-len.result c.read_bitmap.new.bitmap.0 (g.A.Device.state c.args.meta.now).held c.in-Ok.ensures.counts) (omega (arith, c.min-len.ensures)))
    c.gather_bitmap.ensures.searched
