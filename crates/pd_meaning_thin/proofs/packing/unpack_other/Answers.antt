use Rattle.std.proofs.Common.{◌∙◌, Some, drop, ap, sym}
use Rattle.pd_meaning_thin.specs.declared.joined.Run.{Run}
use Rattle.pd_meaning_thin.proofs.PackedLemmas.{other-numbers, other-no_gap, other-no_step, other-no_length}
use Rattle.pd_meaning_thin.proofs.packing.unpack_other.Goals as goal

pub returns-in_err-gap : goal.returns-in_err-gap
returns-in_err-gap c =
    rw c.from_residual.ensures
    (other-no_gap c.args.before c.args.change (drop c.args.at c.args.bytes.now) c.in_err-gap.ensures)

pub returns-in_err-step : goal.returns-in_err-step
returns-in_err-step c =
    let s = c.args.bytes.now in
    rw c.from_residual-in_err-step.ensures
    (other-no_step c.args.before c.args.change (drop c.args.at s) (c.in_ok-gap.gap, drop c.in_ok-gap.after_gap s)
    c.in_ok-gap.ensures c.in_err-step.ensures)

pub returns-in_err-length : goal.returns-in_err-length
returns-in_err-length c =
    let s = c.args.bytes.now in
    rw c.from_residual-in_err-length.ensures
    (other-no_length c.args.before c.args.change (drop c.args.at s) (c.in_ok-gap.gap, drop c.in_ok-gap.after_gap s)
    (c.in_ok-step.step, drop c.in_ok-step.after_step s)
    c.in_ok-gap.ensures c.in_ok-step.ensures c.in_err-length.ensures)

pub returns : goal.returns
returns c =
    let s = c.args.bytes.now in
    other-numbers c.args.before c.args.change (drop c.args.at s) (c.in_ok-gap.gap, drop c.in_ok-gap.after_gap s)
    (c.in_ok-step.step, drop c.in_ok-step.after_step s) (c.in_ok-length.length, drop c.in_ok-length.behind s)
    c.in_ok-gap.ensures c.in_ok-step.ensures c.in_ok-length.ensures
    ∙ ap (λ (run : Run). Some (run, drop c.in_ok-length.behind s)) (sym c.run_behind.ensures)
