use Rattle.std.proofs.Common.{Ok, Err, rules, subst}
use Rattle.pd_kinds.proofs.ResultLemmas.{if_any}
use Rattle.pd_pool_dumps.specs.declared.counts.DumpCounts.{DumpCounts}
use Rattle.pd_query.specs.declared.query.QueryFault.{QueryFault}
use Rattle.pd_query.specs.declared.query.QueryFault.TheVariants.{Sink}
use Rattle.pd_lines.specs.Printer.{printing}
use Rattle.pd_query.specs.Query.{PutsText}
use Rattle.pd_pool_dumps.specs.ThinDump.{lines_left, text_left}
use Rattle.pd_pool_dumps.proofs.RunLemmas.{counts_whole}
use Rattle.pd_query.proofs.QueryLemmas.{text_lost, text_put, text_stopped}
use Rattle.pd_pool_dumps.proofs.thin_dump.ThinDump.put_counted.Goals as goal

pub add_pool-requires-clause-kept : goal.add_pool-requires-clause-kept
add_pool-requires-clause-kept g c = rw c.clear.ensures (if_any (g.D.Device.state c.args.dev.now).held (λ image. tt))

pub returns-in-Ok-clause-text : goal.returns-in-Ok-clause-text
returns-in-Ok-clause-text g c =
    let state = g.K.Sink.state in
    subst (λ out. PutsText {T = DumpCounts} {E = QueryFault} (g.D.Device.state c.args.dev.now).held (λ image. text_left image c.args.self.now) (Ok c.add_pool.new.counts) (state c.args.out.now).written (state out).written) (search rules)
    (text_put (g.D.Device.state c.args.dev.now).held c.add_pool.new.counts {first = state c.args.out.now} {sink = state c.finish.new.self.0}
    (rw (c.to_sink-printer.ensures.none, c.to_sink-printer.ensures.same) at c.in_ok-add_pool.ensures.prints) c.in-Ok.ensures.finishes)

pub returns-in-Err-clause-text : goal.returns-in-Err-clause-text
returns-in-Err-clause-text g c =
    let state = g.K.Sink.state in
    subst (λ out. PutsText {T = DumpCounts} {E = QueryFault} (g.D.Device.state c.args.dev.now).held (λ image. text_left image c.args.self.now) (Err Sink) (state c.args.out.now).written (state out).written) (search rules)
    (text_lost (g.D.Device.state c.args.dev.now).held Sink {first = state c.args.out.now} {sink = state c.finish.new.self.0}
    (rw (c.to_sink-printer.ensures.none, c.to_sink-printer.ensures.same) at c.in_ok-add_pool.ensures.prints) c.in-Err.ensures.finishes)

pub returns-in_err-add_pool-clause-text : goal.returns-in_err-add_pool-clause-text
returns-in_err-add_pool-clause-text g c =
    let state = g.K.Sink.state in
    subst (λ out. PutsText (g.D.Device.state c.args.dev.now).held (λ image. text_left image c.args.self.now) c.from_residual.result (state c.args.out.now).written (state out).written) (search rules)
    (text_stopped (g.D.Device.state c.args.dev.now).held c.from_residual.result {first = state c.args.out.now} {mid = printing state c.add_pool.new.printer} c.from_residual.ensures.0
    (rw (c.to_sink-printer.ensures.none, c.to_sink-printer.ensures.same) at c.in_err-add_pool.ensures.prints))

pub returns-in-Ok-clause-counted : goal.returns-in-Ok-clause-counted
returns-in-Ok-clause-counted g c =
    counts_whole (g.D.Device.state c.args.dev.now).held (λ image. lines_left image c.args.self.now) c.none-counts.result c.add_pool.new.counts c.none-counts.ensures c.in_ok-add_pool.ensures.counted
