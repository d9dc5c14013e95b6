use Rattle.std.proofs.Common.{◌≡◌, ◌≤◌, ◌∙◌, [], arith, refl}
use Rattle.pd_kinds.proofs.ResultLemmas.{if_any, if_maps}
use Rattle.pd_image.proofs.CrashLemmas.{only_reads_both}
use Rattle.pd_lines.specs.Printer.{printing}
use Rattle.pd_lines.proofs.Printing.{printed_none}
use Rattle.pd_query.specs.declared.query.QueryFault.{QueryFault}
use Rattle.pd_query.specs.declared.query.QueryFault.TheVariants.{Device}
use Rattle.pd_query.proofs.QueryLemmas.{lost_with, prints_known, so_far_lost, so_far_more, so_far_stops}
use Rattle.pd_uses.specs.Unused.{ended_line, image_lines_left, open_then, without_faults}
use Rattle.pd_uses.proofs.UnusedLemmas.{all_left, first_before, last_printed, read_on, reading_ends}
use Rattle.pd_uses.proofs.unused.add_runs.Goals as goal

pub loop-next-init : goal.loop-next-init
loop-next-init g c =
    let held = without_faults (g.D.Device.state c.args.dev.now).held in
    let started = c.requires.started in
    record {
      same_reference = refl;
      so_far = record {
        text = [];
        told = if_any held (λ image. all_left image c.args.counts.now.at started.at);
        printed = printed_none (printing g.K.Sink.state c.args.printer.now);
      };
      reading = if_maps held _ _ (λ image reading. reading c.zeros-bitmap.result.0) started.reading;
      first = tt;
      within = omega (arith, started.at);
      kept = record { held = refl; access = refl; path = refl; blocks = refl; history = refl };
      dev_faults = refl;
      out_faults = refl;
    }

pub returns-in-Err-clause-prints : goal.returns-in-Err-clause-prints
returns-in-Err-clause-prints g c = so_far_stops (without_faults (g.D.Device.state c.args.dev.now).held) Device c.loop-next.invariant.so_far

pub returns-in_err-pass-in-Some-clause-prints : goal.returns-in_err-pass-in-Some-clause-prints
returns-in_err-pass-in-Some-clause-prints g c =
    let o = (g.D.Device.state c.args.dev.now).held in
    let held = without_faults o in
    let before = c.loop-next.invariant in
    let stretch = c.in-Some.stretch in
    let both = read_on o (g.D.Device.state c.loop-next.dev).held before.kept.held c.stored_counts_are_references.ensures.unused c.loop-next.bitmap.0 c.next.new.bitmap.0 c.loop-next.run stretch c.loop-next.counts c.next.new.self
    (rw c.in-Some.is at c.in-Ok.ensures.follows) before.reading (rw c.in-Some.is at c.in-Ok.ensures.told) in
    lost_with held {F = QueryFault} {fault = c.in_err-pass-in-Some.field-0.0} c.from_residual.result c.from_residual.ensures.0
    (so_far_lost held (λ image. image_lines_left image (open_then stretch.unused stretch.first c.loop-next.run) c.next.new.self.at) before.so_far (if_maps held _ _ (λ image p. p.0) both)
    (prints_known held c.in_err-pass-in-Some.ensures.prints))

pub loop-next-preserved : goal.loop-next-preserved
loop-next-preserved g c =
    let o = (g.D.Device.state c.args.dev.now).held in
    let held = without_faults o in
    let before = c.loop-next.invariant in
    let stretch = c.in-Some.stretch in
    let passes = rw c.in-Some.is at c.in-Ok.ensures.follows in
    let both = read_on o (g.D.Device.state c.loop-next.dev).held before.kept.held c.stored_counts_are_references.ensures.unused c.loop-next.bitmap.0 c.next.new.bitmap.0 c.loop-next.run stretch c.loop-next.counts c.next.new.self
    passes before.reading (rw c.in-Some.is at c.in-Ok.ensures.told) in
    record {
      same_reference = c.in_ok-pass-in-Some.ensures.same_reference ∙ before.same_reference;
      so_far = rw c.in_ok-pass-in-Some.ensures.run (so_far_more held {E = QueryFault} {done = tt} before.so_far (if_maps held _ _ (λ image p. p.0) both) (prints_known held c.in_ok-pass-in-Some.ensures.prints));
      reading = rw c.in_ok-pass-in-Some.ensures.run (if_maps held _ _ (λ image p. p.1) both);
      first = rw (c.in_ok-pass-in-Some.ensures.run, passes.next.first) (first_before stretch.unused c.loop-next.run c.loop-next.counts.at c.next.new.self.at (omega (arith, passes.at)) before.first);
      within = omega (arith, passes.at, passes.next.within, passes.end);
      kept = only_reads_both before.kept c.in-Ok.ensures.kept;
      dev_faults = c.in-Ok.ensures.faults ∙ before.dev_faults;
      out_faults = c.in_ok-pass-in-Some.ensures.faults ∙ before.out_faults;
    }

pub returns-in-None-clause-prints : goal.returns-in-None-clause-prints
returns-in-None-clause-prints g c =
    let held = without_faults (g.D.Device.state c.args.dev.now).held in
    let before = c.loop-next.invariant in
    let ends = rw c.in-None.is at c.in-Ok.ensures.follows in
    let end = c.next.new.self.end in
    last_printed held c.end_run.result (ended_line end c.loop-next.run) before.so_far
    (if_maps held _ _ (λ image reading. reading_ends image c.loop-next.bitmap.0 c.loop-next.run c.loop-next.counts end (omega (arith, ends.0, ends.2, before.within)) (omega (arith, ends.2)) reading) before.reading)
    c.end_run.ensures.prints
