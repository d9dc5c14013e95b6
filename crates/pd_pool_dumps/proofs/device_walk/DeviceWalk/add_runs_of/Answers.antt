use Rattle.std.proofs.Common.{[], ◌∙◌}
use Rattle.pd_kinds.proofs.ResultLemmas.{if_any}
use Rattle.pd_pool_dumps.proofs.RunLemmas.{runs_both, runs_counted, runs_fail, runs_lost, runs_printed, runs_same, runs_then}
use Rattle.pd_pool_dumps.proofs.LeafTextLemmas.{from_root}
use Rattle.pd_pool_dumps.proofs.device_walk.DeviceWalk.add_runs_of.Goals as goal

pub returns-in_err-go_to-clause-prints : goal.returns-in_err-go_to-clause-prints
returns-in_err-go_to-clause-prints g c =
    let held = (g.D.Device.state c.args.dev.now).held in
    let all = runs_fail held (λ image. []) {first = c.args.counts.now} {last = c.args.counts.now} c.from_residual.result c.from_residual.ensures.0
    (runs_lost held (runs_same held _ c.args.counts.now (if_any held (λ image. from_root c.new-self.result image c.args.root c.clear.new.self c.new-self.ensures c.clear.ensures))) c.in_err-go_to.ensures.prints.outcome) in
    runs_printed held c.from_residual.result all

pub returns-clause-prints : goal.returns-clause-prints
returns-clause-prints g c =
    let held = (g.D.Device.state c.args.dev.now).held in
    let first = runs_both held (runs_same held _ c.args.counts.now (if_any held (λ image. from_root c.new-self.result image c.args.root c.clear.new.self c.new-self.ensures c.clear.ensures))) c.in_ok-go_to.ensures.prints.outcome in
    runs_printed held c.go_on.result (runs_then held c.go_on.result first (rw c.in_ok-go_to.ensures.only_reads.held at c.go_on.ensures.prints))

pub returns-clause-counted : goal.returns-clause-counted
returns-clause-counted g c =
    let held = (g.D.Device.state c.args.dev.now).held in
    let first = runs_both held (runs_same held _ c.args.counts.now (if_any held (λ image. from_root c.new-self.result image c.args.root c.clear.new.self c.new-self.ensures c.clear.ensures))) c.in_ok-go_to.ensures.prints.outcome in
    runs_counted held c.go_on.result (runs_then held c.go_on.result first (rw c.in_ok-go_to.ensures.only_reads.held at c.go_on.ensures.prints))

pub go_on-requires-clause-kept : goal.go_on-requires-clause-kept
go_on-requires-clause-kept g c = rw c.in_ok-go_to.ensures.only_reads.held c.in_ok-go_to.ensures.texts

pub go_on-requires-clause-open : goal.go_on-requires-clause-open
go_on-requires-clause-open g c = c.in_ok-go_to.ensures.prints.outcome.printed.kept.access ∙ c.requires.open

pub returns-clause-texts : goal.returns-clause-texts
returns-clause-texts g c = rw c.in_ok-go_to.ensures.only_reads.held at c.go_on.ensures.texts
