use Rattle.std.proofs.Common.{◌+◌, [], ◌∷◌, ap, arith, cond, sym}
use Rattle.pd_smap.specs.Overflow.{overflow_items, overflow_reads}
use Rattle.pd_shrink.proofs.GatherLemmas.{gathers_none}
use Rattle.pd_shrink.proofs.SearchLemmas.{searched_one}
use Rattle.pd_shrink.proofs.gathering.gather_entry.Goals as goal

pub returns-in_ok-gather_block-clause-searched : goal.returns-in_ok-gather_block-clause-searched
returns-in_ok-gather_block-clause-searched g c =
    searched_one c.args.wanted c.args.base c.args.e c.args.bitmap.now.0 c.in-Ok.unused ((c.args.base + c.args.e) ∷ []) (g.A.Device.state c.args.meta.now) (g.A.Device.state c.is_unused.new.meta)
    (overflow_items c.args.overflow.now) (overflow_items c.is_unused.new.overflow) (overflow_reads c.args.overflow.now) (overflow_reads c.is_unused.new.overflow) c.args.free.now c.gather_block.new.free
    (ap (λ t. cond t ((c.args.base + c.args.e) ∷ []) []) (sym c.if-unused.true))
    c.in-Ok.ensures.kept c.in-Ok.ensures.faults c.in_ok-gather_block.ensures.most (record { below = (omega arith, tt); ascend = (omega arith, tt) }) c.in_ok-gather_block.ensures.gathered
    c.in-Ok.ensures.reads c.in-Ok.ensures.unused c.in-Ok.ensures.ahead

pub returns-else-unused-clause-searched : goal.returns-else-unused-clause-searched
returns-else-unused-clause-searched g c =
    searched_one c.args.wanted c.args.base c.args.e c.args.bitmap.now.0 c.in-Ok.unused [] (g.A.Device.state c.args.meta.now) (g.A.Device.state c.is_unused.new.meta)
    (overflow_items c.args.overflow.now) (overflow_items c.is_unused.new.overflow) (overflow_reads c.args.overflow.now) (overflow_reads c.is_unused.new.overflow) c.args.free.now c.args.free.now
    (ap (λ t. cond t ((c.args.base + c.args.e) ∷ []) []) (sym c.if-unused.false))
    c.in-Ok.ensures.kept c.in-Ok.ensures.faults (omega arith) (record { below = tt; ascend = tt }) (gathers_none c.args.wanted c.args.free.now)
    c.in-Ok.ensures.reads c.in-Ok.ensures.unused c.in-Ok.ensures.ahead
