use Rattle.std.proofs.Common.{refl, sym, ◌∙◌}
use Rattle.pd_kinds.specs.declared.kind.Stage.TheVariants.{Whole, Counts}
use Rattle.pd_check.proofs.CheckLemmas.{broken_report, sound_report, past_report, past_memory, past_read}
use Rattle.pd_check.proofs.checking.check_from.Goals as goal

pub returns-then-not-is_empty-clause-report : goal.returns-then-not-is_empty-clause-report
returns-then-not-is_empty-clause-report g c =
    broken_report _ _ _ _ c.requires.first c.args.until c.super_rules-rules.result c.super_report.result c.super_rules-rules.ensures
    (λ none. let e = c.if-not-is_empty.ensures.1 none in cc)
    c.super_report.ensures

pub returns-in-Super-clause-report : goal.returns-in-Super-clause-report
returns-in-Super-clause-report g c =
    rw c.in-Super.is
    (sound_report _ _ _ _ c.requires.first (λ rule. sym (c.super_rules-rules.ensures rule) ∙ c.if-not-is_empty.ensures.0 refl rule) c.new.result c.new.ensures)

pub returns-in_default-clause-report : goal.returns-in_default-clause-report
returns-in_default-clause-report g c =
    past_report _ _ _ _ c.requires.first (λ rule. sym (c.super_rules-rules.ensures rule) ∙ c.if-not-is_empty.ensures.0 refl rule) _ c.format.ensures.graph
    c.args.until c.check_later_stages.result c.in_default.not-Super c.in_default.not-Whole c.in_default.not-Counts c.check_later_stages.ensures.report

pub returns-in_default-clause-memory : goal.returns-in_default-clause-memory
returns-in_default-clause-memory g c =
    past_memory _ _ _ _ c.requires.first (λ rule. sym (c.super_rules-rules.ensures rule) ∙ c.if-not-is_empty.ensures.0 refl rule)
    c.args.until c.check_later_stages.result c.in_default.not-Super

pub returns-in_default-clause-reads : goal.returns-in_default-clause-reads
returns-in_default-clause-reads g c =
    past_read _ _ _ _ c.requires.first (λ rule. sym (c.super_rules-rules.ensures rule) ∙ c.if-not-is_empty.ensures.0 refl rule) _ c.format.ensures.graph
    c.args.until _ _ c.check_later_stages.ensures.reads

pub returns-in-Whole-clause-memory : goal.returns-in-Whole-clause-memory
returns-in-Whole-clause-memory g c =
    rw c.in-Whole.is
    (past_memory _ _ _ _ c.requires.first (λ rule. sym (c.super_rules-rules.ensures rule) ∙ c.if-not-is_empty.ensures.0 refl rule)
    Whole c.check_whole.result (λ e. cc))

pub returns-in-Whole-clause-reads : goal.returns-in-Whole-clause-reads
returns-in-Whole-clause-reads g c =
    rw c.in-Whole.is
    (past_read _ _ _ _ c.requires.first (λ rule. sym (c.super_rules-rules.ensures rule) ∙ c.if-not-is_empty.ensures.0 refl rule) _ refl Whole _ _ c.check_whole.ensures.reads)

pub returns-in-Counts-clause-memory : goal.returns-in-Counts-clause-memory
returns-in-Counts-clause-memory g c =
    rw c.in-Counts.is
    (past_memory _ _ _ _ c.requires.first (λ rule. sym (c.super_rules-rules.ensures rule) ∙ c.if-not-is_empty.ensures.0 refl rule)
    Counts c.check_counts.result (λ e. cc))

pub returns-in-Counts-clause-reads : goal.returns-in-Counts-clause-reads
returns-in-Counts-clause-reads g c =
    rw c.in-Counts.is
    (past_read _ _ _ _ c.requires.first (λ rule. sym (c.super_rules-rules.ensures rule) ∙ c.if-not-is_empty.ensures.0 refl rule) _ refl Counts _ _ c.check_counts.ensures.reads)
