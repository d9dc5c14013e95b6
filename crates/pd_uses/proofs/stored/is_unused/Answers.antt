use Rattle.std.proofs.Common.{◌∙◌, ap}
use Rattle.pd_kinds.proofs.ResultLemmas.{if_all, if_maps}
use Rattle.pd_uses.specs.Stored.{is_zero}
use Rattle.pd_uses.proofs.StoredLemmas.{zero_by_bits, zero_by_tree}
use Rattle.pd_uses.proofs.stored.is_unused.Goals as goal

pub returns-then-bits-lt3-clause-unused : goal.returns-then-bits-lt3-clause-unused
returns-then-bits-lt3-clause-unused g c =
    if_all (g.D.Device.state c.args.dev.now).held _ (λ image over ahead. zero_by_bits _ _ (over c.args.b) c.two_bits-bits.ensures.count c.if-bits-lt3.true)

pub returns-in-Some-clause-unused : goal.returns-in-Some-clause-unused
returns-in-Some-clause-unused g c =
    if_maps (g.D.Device.state c.args.dev.now).held _ _ (λ image count over ahead.
    ap is_zero (rw c.in-Some.is at (count over ahead)) ∙ zero_by_tree _ _ (over c.args.b) c.two_bits-bits.ensures.count c.if-bits-lt3.false) c.in_ok-count.ensures.count

pub returns-in-None-clause-unused : goal.returns-in-None-clause-unused
returns-in-None-clause-unused g c =
    if_maps (g.D.Device.state c.args.dev.now).held _ _ (λ image count over ahead.
    ap is_zero (rw c.in-None.is at (count over ahead)) ∙ zero_by_tree _ _ (over c.args.b) c.two_bits-bits.ensures.count c.if-bits-lt3.false) c.in_ok-count.ensures.count
