use Rattle.std.proofs.Common.{ℕ, ◌||◌, ◌&&◌, nat_eq, Bool, refl, sym, ◌∙◌, ap, arith}
use Rattle.std.proofs.Math.Bool.{or-false}
use Rattle.std.proofs.lemmas.Bool.{le-ltb, lt-ltb}
use Rattle.pd_graph.specs.declared.notes.Note.{Note}
use Rattle.pd_graph.specs.Audit.{note_at, has_rule_at}
use Rattle.pd_settle.specs.Settled.{noted_rule, breaks}
use Rattle.pd_settle.proofs.SettledLemmas.{rules_both, marks_more}
use Rattle.pd_settle.proofs.settling.mark_each.Goals as goal

pub loop-b-init : goal.loop-b-init
loop-b-init c = record {
  rules = λ d wanted.
      sym (ap (λ (x : Bool). has_rule_at c.args.audit.now d wanted || (x && breaks (noted_rule (note_at c.args.audit.now d)) wanted)) (le-ltb d 0 (omega arith))
      ∙ or-false (has_rule_at c.args.audit.now d wanted));
  kept = record { number = refl; walked = refl; roles = λ d. refl; counts = λ d. refl; notes = λ d. refl };
}

pub loop-b-preserved : goal.loop-b-preserved
loop-b-preserved c = record {
  rules = λ d wanted.
      marks_more (λ (e : ℕ). breaks (noted_rule (note_at c.args.audit.now e)) wanted) d c.loop-b.b (has_rule_at c.args.audit.now d wanted) (has_rule_at c.loop-b.audit d wanted)
      (has_rule_at c.mark.new.audit d wanted) (c.loop-b.invariant.rules d wanted)
      (c.mark.ensures.rules d wanted
      ∙ ap (λ (n : Note). has_rule_at c.loop-b.audit d wanted || (nat_eq d c.loop-b.b && breaks (noted_rule n) wanted)) (c.loop-b.invariant.kept.notes c.loop-b.b));
  kept = rules_both c.args.audit.now c.loop-b.audit c.mark.new.audit c.loop-b.invariant.kept c.mark.ensures.kept;
}

pub returns-clause-rules : goal.returns-clause-rules
returns-clause-rules c d wanted small =
    let last = c.loop-b-test.false in
    let end = c.nr-b-end.ensures.number in
    c.loop-b.invariant.rules d wanted
    ∙ ap (λ (x : Bool). has_rule_at c.args.audit.now d wanted || (x && breaks (noted_rule (note_at c.args.audit.now d)) wanted)) (lt-ltb d c.loop-b.b (omega arith))
