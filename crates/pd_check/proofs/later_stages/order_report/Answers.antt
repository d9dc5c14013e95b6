use Rattle.std.proofs.Common.{◌∙◌, arith}
use Rattle.pd_kinds.proofs.ResultLemmas.{if_both}
use Rattle.pd_graph.specs.Walk.{IsWalked}
use Rattle.pd_settle.specs.Settled.{IsSettled}
use Rattle.pd_settle.proofs.RoleLemmas.{inner_few}
use Rattle.pd_check.proofs.CheckLemmas.{settled_report}
use Rattle.pd_check.proofs.WholeLemmas.{well_settled}
use Rattle.pd_check.proofs.later_stages.order_report.Goals as goal

pub returns-clause-report : goal.returns-clause-report
returns-clause-report g c =
    settled_report _ _ _ c.args.audit.now c.settle.new.audit c.walk_report.result (c.in_ok-settle.ensures.met.number ∙ c.requires.number)
    (if_both {R = λ image. IsWalked (g.F.Format.graph c.args.format.now) image c.args.audit.now → IsSettled (g.F.Format.graph c.args.format.now) image c.settle.new.audit}
    (g.D.Device.state c.args.dev.now).held (λ image leads noted walked. leads walked noted) c.in_ok-settle.ensures.settled c.requires.leaves)
    c.walk_report.ensures

pub returns-clause-settled : goal.returns-clause-settled
returns-clause-settled g c =
    well_settled _ _ c.args.audit.now c.settle.new.audit _ c.walk_report.result (c.in_ok-settle.ensures.met.number ∙ c.requires.number) c.requires.sound
    c.in_ok-settle.ensures.met
    (if_both {R = λ image. IsWalked (g.F.Format.graph c.args.format.now) image c.args.audit.now → IsSettled (g.F.Format.graph c.args.format.now) image c.settle.new.audit}
    (g.D.Device.state c.args.dev.now).held (λ image leads noted walked. leads walked noted) c.in_ok-settle.ensures.settled c.requires.leaves)
    c.walk_report.ensures

pub returns-clause-reads : goal.returns-clause-reads
returns-clause-reads g c =
    if_both (g.D.Device.state c.args.dev.now).held
    (λ image reads noted walked. omega (arith, reads walked noted, inner_few (g.F.Format.graph c.args.format.now) image))
    c.settle.ensures.reads c.requires.leaves

pub returns-in_err-settle-clause-reads : goal.returns-in_err-settle-clause-reads
returns-in_err-settle-clause-reads g c =
    if_both (g.D.Device.state c.args.dev.now).held
    (λ image reads noted walked. omega (arith, reads walked noted, inner_few (g.F.Format.graph c.args.format.now) image))
    c.settle.ensures.reads c.requires.leaves
