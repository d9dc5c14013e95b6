use Rattle.std.proofs.Common.{◌≡◌, ℕ, ◌&&◌, ◌∙◌, ap, arith}
use Rattle.pd_graph.specs.Marks.{has_bit}
use Rattle.pd_scan.specs.Lost.{is_unbroken, is_between}
use Rattle.pd_scan.proofs.JudgeLemmas.{fit_none, fit_more}
use Rattle.pd_scan.proofs.lost.roles_between.Goals as goal

pub loop-role-init : goal.loop-role-init
loop-role-init g c = λ other within. fit_none c.args.first other (is_unbroken (g.F.Format.graph c.args.format.now) other c.args.b c.args.block.now.0)

pub loop-role-preserved : goal.loop-role-preserved
loop-role-preserved g c = λ other within.
    let order = c.loop-role.auto.role in
    fit_more (λ (r : ℕ). is_unbroken (g.F.Format.graph c.args.format.now) r c.args.b c.args.block.now.0) c.args.first c.loop-role.role other
    (has_bit c.loop-role.roles other) (has_bit c.with_role_if-roles.result other) c.is_unbroken-fits.result order (c.loop-role.invariant other within)
    c.is_unbroken-fits.ensures (c.with_role_if-roles.ensures other within)

pub returns : goal.returns
returns g c = λ other within.
    let high = c.loop-role.auto.role-end c.requires.order in
    let low = c.loop-role-test.false in
    let last : c.loop-role.role ≡ c.args.end = omega arith in
    c.loop-role.invariant other within
    ∙ ap (λ (e : ℕ). is_between c.args.first e other && is_unbroken (g.F.Format.graph c.args.format.now) other c.args.b c.args.block.now.0) last
