use Rattle.std.proofs.Common.{◌∙◌, ap}
use Rattle.pd_kinds.proofs.ResultLemmas.{if_all, if_maps}
use Rattle.pd_shrink.specs.Gathered.{is_zero}
use Rattle.pd_shrink.proofs.GatherLemmas.{zero_by_bits, zero_by_tree}
use Rattle.pd_shrink.proofs.gathering.is_unused.Goals as goal

pub returns-then-bits-lt3-clause-unused : goal.returns-then-bits-lt3-clause-unused
returns-then-bits-lt3-clause-unused g c =
    if_all (g.A.Device.state c.args.meta.now).held _ (λ image over ahead. zero_by_bits _ _ (over c.args.b) c.two_bits-bits.ensures.count c.if-bits-lt3.true)

pub returns-clause-unused : goal.returns-clause-unused
returns-clause-unused g c =
    if_maps (g.A.Device.state c.args.meta.now).held _ _ (λ image count over ahead.
    c.is_zero.ensures ∙ ap is_zero (count over ahead) ∙ zero_by_tree _ _ (over c.args.b) c.two_bits-bits.ensures.count c.if-bits-lt3.false) c.in_ok-stored.ensures.count
