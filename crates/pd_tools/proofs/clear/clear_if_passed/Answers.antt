use Rattle.std.proofs.Common.{arith, refl, ◌∙◌, sym}
use Rattle.std.proofs.lemmas.Result.{err_from_is_err_and}
use Rattle.pd_tools.proofs.Clears.{untouched_left, cleared_left}
use Rattle.pd_tools.proofs.clear.clear_if_passed.Goals as goal

pub returns-then-not-passes-clause-left : goal.returns-then-not-passes-clause-left
returns-then-not-passes-clause-left g c synced =
    untouched_left c.args.flagged c.args.passing c.args.report.now (g.A.Device.state c.args.input.now) (g.A.Device.state c.args.input.now) synced 1 (λ e. omega arith) (record { held = refl; history = refl })

pub returns-clause-left : goal.returns-clause-left
returns-clause-left g c synced =
    let passed = sym c.passes.ensures ∙ c.if-not-passes.false in
    cleared_left c.args.flagged c.args.passing c.args.report.now (g.A.Device.state c.args.input.now) (g.A.Device.state c.clear_needs_check.new.dev) synced passed c.clear_needs_check.ensures.told
    c.clear_needs_check.ensures.crash c.clear_needs_check.ensures.unset 0 (λ zero. c.in_ok-clear_needs_check.ensures.done) (λ some. absurd (some refl))

pub returns-in_err-clear_needs_check-clause-left : goal.returns-in_err-clear_needs_check-clause-left
returns-in_err-clear_needs_check-clause-left g c =
    let p = err_from_is_err_and c.from_residual.result c.from_residual.ensures.1 in
    let passed = sym c.passes.ensures ∙ c.if-not-passes.false in
    rw p.1 (λ synced fresh status some.
    cleared_left c.args.flagged c.args.passing c.args.report.now (g.A.Device.state c.args.input.now) (g.A.Device.state c.clear_needs_check.new.dev) synced passed c.clear_needs_check.ensures.told
    c.clear_needs_check.ensures.crash c.clear_needs_check.ensures.unset status (λ zero. absurd (some zero)) (λ _ same. absurd (omega (arith, c.in_err-clear_needs_check.ensures.faults.0))))
