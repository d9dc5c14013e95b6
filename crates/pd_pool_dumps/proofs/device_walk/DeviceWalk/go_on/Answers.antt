use Rattle.std.proofs.Common.{ℕ, List, [], refl, sym, ap, ◌∙◌, subst}
use Rattle.pd_kinds.proofs.ResultLemmas.{if_any, on_ok_any}
use Rattle.pd_image.proofs.CrashLemmas.{only_reads_both}
use Rattle.pd_value.specs.declared.thin.BlockTime.{BlockTime}
use Rattle.pd_tree.specs.Stack.{stack_items}
use Rattle.pd_meaning_thin.specs.declared.joined.Run.{Run}
use Rattle.pd_meaning_thin.specs.Runs.{block_time_of}
use Rattle.pd_meaning_thin.specs.Runs.{IsGiven}
use Rattle.pd_pool_dumps.specs.LeafText.{walk_runs}
use Rattle.pd_pool_dumps.proofs.RunLemmas.{runs_both, runs_fail, runs_lost, runs_same, runs_then}
use Rattle.pd_pool_dumps.proofs.LeafTextLemmas.{ended, entry_given, with_items}
use Rattle.pd_pool_dumps.proofs.device_walk.DeviceWalk.go_on.Goals as goal

-- a child
pub steps-preserved-in-Continue-1 : goal.steps-preserved-in-Continue-1
steps-preserved-in-Continue-1 g c =
    let held = (g.D.Device.state c.args.dev.now).held in
    let so_far = c.steps.invariant in
    let down = c.in-Child.ensures.steps in
    let goes = rw so_far.kept.held at c.in_ok-go_to-in-Child.ensures.prints in
    record {
      same_reference = c.in_ok-go_to-in-Child.ensures.same_reference ∙ so_far.same_reference;
      so_far = runs_both held so_far.so_far
          (runs_both held (runs_same held _ c.steps.counts (if_any held (λ image. ap (λ (xs : List (ℕ × BlockTime)). with_items c.steps.self.joined xs) (down.items image)))) goes.outcome);
      texts = rw so_far.kept.held at c.in_ok-go_to-in-Child.ensures.texts;
      kept = only_reads_both so_far.kept c.in_ok-go_to-in-Child.ensures.only_reads;
      dev_faults = c.in_ok-go_to-in-Child.ensures.faults.0 ∙ so_far.dev_faults;
      out_faults = c.in_ok-go_to-in-Child.ensures.faults.1 ∙ so_far.out_faults;
    }

-- an entry
pub steps-preserved : goal.steps-preserved
steps-preserved g c =
    let held = (g.D.Device.state c.args.dev.now).held in
    let so_far = c.steps.invariant in
    let gives = c.in-Entry.ensures.steps in
    let printed = c.in_ok-add_run-in-Entry.ensures.prints held (λ image. walk_runs image c.steps.self) (λ image. with_items c.take.new.self (stack_items 8 block_time_of image c.step.new.self))
    (if_any held
    (λ image.
    entry_given c.take.result c.in-Entry.virt c.in-Entry.mapping c.steps.self.joined c.take.new.self (stack_items 8 block_time_of image c.steps.self.stack) (stack_items 8 block_time_of image c.step.new.self)
    (gives.items image) c.take.ensures)) in
    record {
      same_reference = c.in_ok-add_run-in-Entry.ensures.same_reference ∙ so_far.same_reference;
      so_far = runs_both held so_far.so_far printed.outcome;
      texts = so_far.texts;
      kept = so_far.kept;
      dev_faults = so_far.dev_faults;
      out_faults = c.in_ok-add_run-in-Entry.ensures.faults ∙ so_far.out_faults;
    }

pub returns-in_err-go_to-in-Child-clause-prints : goal.returns-in_err-go_to-in-Child-clause-prints
returns-in_err-go_to-in-Child-clause-prints g c =
    let held = (g.D.Device.state c.args.dev.now).held in
    let so_far = c.steps.invariant in
    let down = c.in-Child.ensures.steps in
    let lost = rw so_far.kept.held at c.in_err-go_to-in-Child.ensures.prints in
    runs_fail held (λ image. []) {first = c.args.counts.now} {last = c.go_to.new.counts} c.from_residual.result c.from_residual.ensures.0
    (runs_lost held so_far.so_far
    (runs_lost held (runs_same held _ c.steps.counts (if_any held (λ image. ap (λ (xs : List (ℕ × BlockTime)). with_items c.steps.self.joined xs) (down.items image)))) lost.outcome))

pub returns-in_err-add_run-in-Entry-clause-prints : goal.returns-in_err-add_run-in-Entry-clause-prints
returns-in_err-add_run-in-Entry-clause-prints g c =
    let held = (g.D.Device.state c.args.dev.now).held in
    let so_far = c.steps.invariant in
    let gives = c.in-Entry.ensures.steps in
    let lost = c.in_err-add_run-in-Entry.ensures.prints held (λ image. walk_runs image c.steps.self) (λ image. with_items c.take.new.self (stack_items 8 block_time_of image c.step.new.self))
    (if_any held
    (λ image.
    entry_given c.take.result c.in-Entry.virt c.in-Entry.mapping c.steps.self.joined c.take.new.self (stack_items 8 block_time_of image c.steps.self.stack) (stack_items 8 block_time_of image c.step.new.self)
    (gives.items image) c.take.ensures)) in
    runs_fail held (λ image. []) {first = c.args.counts.now} {last = c.add_run.new.counts} c.from_residual-in_err-add_run-in-Entry.result c.from_residual-in_err-add_run-in-Entry.ensures.0 (runs_lost held so_far.so_far lost.outcome)

pub go_to-requires-clause-kept : goal.go_to-requires-clause-kept
go_to-requires-clause-kept g c = rw c.steps.invariant.kept.held c.steps.invariant.texts

-- the last run
pub returns-clause-prints : goal.returns-clause-prints
returns-clause-prints g c =
    let held = (g.D.Device.state c.args.dev.now).held in
    let joined = c.steps.self.joined in
    runs_then held c.add_run-2.result c.steps.invariant.so_far
    (c.add_run-2.ensures.prints held (λ image. walk_runs image c.steps.self) (λ image. [])
    (if_any held
    (λ image. subst (λ (runs : List Run). IsGiven c.end.result runs []) (sym (ended joined image c.steps.self.stack (c.steps-test.ensures.0 refl))) c.end.ensures.given)))

pub returns-clause-texts : goal.returns-clause-texts
returns-clause-texts g c = on_ok_any c.add_run-2.result c.steps.invariant.texts
