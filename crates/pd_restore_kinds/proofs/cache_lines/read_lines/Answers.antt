use Rattle.std.proofs.Common.{rules, true, false, refl, ◌∙◌, arith}
use Rattle.pd_restoring.proofs.ReadingLemmas.{keeps_source}
use Rattle.pd_restore_kinds.proofs.CacheLineLemmas.{steps_as}
use Rattle.pd_restore_kinds.proofs.cache_lines.read_lines.Goals as goal

pub lines-init : goal.lines-init
lines-init g c = record { reads = c.requires.reads; cache_is = refl; told = λ t leaves. leaves; kept = record { access = refl; path = refl }; faults = refl }

pub lines-preserved : goal.lines-preserved
lines-preserved g c =
    let source = g.S.Source.state in
    let was = (source c.lines.source).left in
    let left = (source c.step.new.source).left in
    let ends = c.in_ok-step.ensures in
    let s = steps_as c.in_ok-step.field-0 true c.lines.text c.step.new.text was left c.lines.gathered c.step.new.gathered c.if-branch.true ends.steps in
    record {
      reads = s.0;
      cache_is = ends.cache ∙ c.lines.invariant.cache_is;
      told = λ t leaves. s.1.1 t (c.lines.invariant.told t leaves);
      kept = keeps_source c.lines.invariant.kept ends.source;
      faults = ends.faults ∙ c.lines.invariant.faults;
    }

pub returns-in_err-step-clause-says : goal.returns-in_err-step-clause-says
returns-in_err-step-clause-says g c t leaves = let says = c.in_err-step.ensures.says t (c.lines.invariant.told t leaves) in search rules

pub lines-smaller : goal.lines-smaller
lines-smaller g c =
    let source = g.S.Source.state in
    let was = (source c.lines.source).left in
    let left = (source c.step.new.source).left in
    let ends = c.in_ok-step.ensures in
    let s = steps_as c.in_ok-step.field-0 true c.lines.text c.step.new.text was left c.lines.gathered c.step.new.gathered c.if-branch.true ends.steps in
    omega (arith, s.1.0, s.0.few, s.0.low)

pub returns-clause-ends : goal.returns-clause-ends
returns-clause-ends g c =
    let source = g.S.Source.state in
    let was = (source c.lines.source).left in
    let left = (source c.step.new.source).left in
    let e = steps_as c.in_ok-step.field-0 false c.lines.text c.step.new.text was left c.lines.gathered c.step.new.gathered c.if-branch.false c.in_ok-step.ensures.steps in
    record { lines = e.lines; told = λ t leaves. e.told t (c.lines.invariant.told t leaves) }
