use Rattle.std.proofs.Common.{◌∙◌, arith, rules, sym}
use Rattle.pd_kinds.proofs.ResultLemmas.{if_maps, if_then}
use Rattle.pd_smap.proofs.overflow.Overflow.count.Goals as goal

pub loop-self-preserved : goal.loop-self-preserved
loop-self-preserved g c = record {
  ahead = if_then (g.D.Device.state c.args.dev.now).held (g.D.Device.state c.loop-self.dev).held _ _ _ c.loop-self.invariant.kept.held
      (λ image before step over ahead. step c.args.b over (sym c.is_behind.ensures ∙ c.loop-self-test.true) (before over ahead)) c.loop-self.invariant.ahead c.in_ok-pass.ensures.ahead;
  reads = if_then (g.D.Device.state c.args.dev.now).held (g.D.Device.state c.loop-self.dev).held _ _ _ c.loop-self.invariant.kept.held
      (λ image before step. omega arith) c.loop-self.invariant.reads c.in_ok-pass.ensures.reads;
  kept = search rules;
  faults = c.in_ok-pass.ensures.faults ∙ c.loop-self.invariant.faults;
}

pub returns-clause-count : goal.returns-clause-count
returns-clause-count g c =
    if_maps (g.D.Device.state c.args.dev.now).held _ _ (λ image before over ahead.
    c.first_count.ensures (sym c.is_behind.ensures ∙ c.loop-self-test.false) image over (before over ahead)) c.loop-self.invariant.ahead
