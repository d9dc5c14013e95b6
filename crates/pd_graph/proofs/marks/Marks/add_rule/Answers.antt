use Rattle.std.proofs.Common.{◌∙◌, ap, sym, List, ◌||◌}
use Rattle.pd_kinds.specs.declared.rules.Rules.{Rules}
use Rattle.pd_kinds.specs.Rule.{same_rule}
use Rattle.pd_kinds.specs.Rule.{has_rule}
use Rattle.pd_graph.specs.Marks.{has_rule_in, rules_of}
use Rattle.pd_graph.proofs.TableLemmas.{has_rule_in_more}
use Rattle.pd_graph.proofs.marks.Marks.add_rule.Goals as goal

pub returns-clause-rules : goal.returns-clause-rules
returns-clause-rules c =
    λ place other.
    ap (λ (sets : List Rules). has_rule_in sets place other) c.set.ensures
    ∙ has_rule_in_more (rules_of c.args.self.now) c.args.b c.get.result c.with-rules.result (same_rule c.args.rule) c.requires
    (λ any. c.with-rules.ensures any ∙ ap (λ (set : Rules). has_rule set any || same_rule c.args.rule any) (sym (c.get.ensures c.get.result))) place other
