use Rattle.pd_smap.specs.Overflow.{comparison_state}
use Rattle.pd_smap.specs.Steps.{bits_from}
use Rattle.pd_smap.proofs.StepLemmas.{went_equal}
use Rattle.pd_smap.proofs.CountLemmas.{equal_bits}
use Rattle.pd_smap.proofs.bitmaps.compare_group.Goals as goal

pub returns-then-are_equal-clause-went : goal.returns-then-are_equal-clause-went
returns-then-are_equal-clause-went g c =
    went_equal (g.R.References.space c.args.refs.now) (g.R.References.refs c.args.refs.now) (bits_from c.args.base c.args.bitmap.now.0) _ 32 (comparison_state (g.D.Device.state c.args.dev.now) c.args.overflow.now c.args.report.now)
    (λ image. equal_bits c.args.bitmap.now.0 c.args.g c.args.base (g.R.References.refs c.args.refs.now) (c.are_equal.ensures c.if-are_equal.true))
