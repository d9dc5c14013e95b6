use Rattle.std.proofs.Common.{map, ap, ◌∙◌}
use Rattle.pd_kinds.proofs.ResultLemmas.{if_any}
use Rattle.pd_image.proofs.CrashLemmas.{only_reads_both}
use Rattle.pd_meaning_era.specs.Parts.{blocks_left, eras_left}
use Rattle.pd_query.proofs.QueryLemmas.{lost_with, prints_told, so_far_stops}
use Rattle.pd_dumps.specs.declared.runs.OpenRun.{OpenRun}
use Rattle.pd_dumps.specs.EraLines.{end_of, text_from}
use Rattle.pd_dumps.proofs.PartLemmas.{none_taken, part_counted, part_lost, part_more, part_taken, parts_end, still_few}
use Rattle.pd_dumps.proofs.runs.add_runs.Goals as goal

pub returns-in_err-next-clause-prints : goal.returns-in_err-next-clause-prints
returns-in_err-next-clause-prints g c =
    let held = (g.D.Device.state c.args.dev.now).held in
    let counts = g.R.RunKind.counts c.args.kind.now in
    prints_told held (if_any held (λ image. ap (λ (run : OpenRun). text_from (g.R.RunKind.line c.args.kind.now) run (map counts (eras_left image c.args.eras.now))) c.none-run.ensures))
    (lost_with held c.from_residual.result c.from_residual.ensures.0 (so_far_stops held c.in_err-next.field-0.0 c.loop-run.invariant.so_far))

pub loop-run-preserved : goal.loop-run-preserved
loop-run-preserved g c =
    let held = (g.D.Device.state c.args.dev.now).held in
    let line = g.R.RunKind.line c.args.kind.now in
    let counts = g.R.RunKind.counts c.args.kind.now in
    let counted = part_counted c.loop-run.eras c.next.new.self c.if-branch.true c.in_ok-next.ensures.number in
    record {
      same_reference = c.in_ok-take.ensures.same_reference ∙ c.loop-run.invariant.same_reference;
      so_far =
          part_more held {left = λ image. map counts (eras_left image c.next.new.self)} (text_from line c.loop-run.run) (text_from line c.take.new.self) (map counts c.part.result.now) c.loop-run.invariant.so_far
          (part_taken counts held c.loop-run.eras c.next.new.self c.part.result.now c.if-branch.true c.part.ensures (rw c.loop-run.invariant.kept.held at c.in_ok-next.ensures.next))
          (λ later. c.in_ok-take.ensures.prints later);
      few = still_few (end_of c.loop-run.run) (end_of c.take.new.self) (blocks_left c.next.new.self) (blocks_left c.loop-run.eras) c.part.result.now c.next.new.self.part.items
          c.part.ensures c.in_ok-take.ensures.number counted.number c.loop-run.invariant.few;
      kept = only_reads_both c.loop-run.invariant.kept c.in_ok-next.ensures.kept;
      dev_faults = c.in_ok-next.ensures.faults ∙ c.loop-run.invariant.dev_faults;
      out_faults = c.in_ok-take.ensures.faults ∙ c.loop-run.invariant.out_faults;
    }

pub returns-in_err-take-clause-prints : goal.returns-in_err-take-clause-prints
returns-in_err-take-clause-prints g c =
    let held = (g.D.Device.state c.args.dev.now).held in
    let line = g.R.RunKind.line c.args.kind.now in
    let counts = g.R.RunKind.counts c.args.kind.now in
    prints_told held (if_any held (λ image. ap (λ (run : OpenRun). text_from line run (map counts (eras_left image c.args.eras.now))) c.none-run.ensures))
    (lost_with held c.from_residual-in_err-take.result c.from_residual-in_err-take.ensures.0
    (part_lost held {fault = c.in_err-take.field-0.0} (λ image. map counts (eras_left image c.next.new.self)) (text_from line c.loop-run.run) (map counts c.part.result.now) c.loop-run.invariant.so_far
    (part_taken counts held c.loop-run.eras c.next.new.self c.part.result.now c.if-branch.true c.part.ensures (rw c.loop-run.invariant.kept.held at c.in_ok-next.ensures.next))
    (λ later. c.in_err-take.ensures.prints later)))

pub returns-clause-prints : goal.returns-clause-prints
returns-clause-prints g c =
    let held = (g.D.Device.state c.args.dev.now).held in
    let line = g.R.RunKind.line c.args.kind.now in
    let counts = g.R.RunKind.counts c.args.kind.now in
    prints_told held (if_any held (λ image. ap (λ (run : OpenRun). text_from line run (map counts (eras_left image c.args.eras.now))) c.none-run.ensures))
    (parts_end held c.end.result (text_from line c.loop-run.run) c.loop-run.invariant.so_far
    (none_taken counts held c.loop-run.eras c.next.new.self c.if-branch.false (rw c.loop-run.invariant.kept.held at c.in_ok-next.ensures.next)) c.end.ensures.prints)
