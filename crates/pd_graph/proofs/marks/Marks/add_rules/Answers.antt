use Rattle.std.proofs.Common.{◌||◌, List, ap, sym, ◌∙◌}
use Rattle.pd_kinds.specs.declared.rules.Rules.{Rules}
use Rattle.pd_kinds.specs.Rule.{has_rule}
use Rattle.pd_graph.specs.Marks.{has_rule_in, rules_of}
use Rattle.pd_graph.proofs.TableLemmas.{has_rule_in_more}
use Rattle.pd_graph.proofs.marks.Marks.add_rules.Goals as goal

pub returns-clause-rules : goal.returns-clause-rules
returns-clause-rules c =
    λ place other.
    ap (λ (sets : List Rules). has_rule_in sets place other) c.set.ensures
    ∙ has_rule_in_more (rules_of c.args.self.now) c.args.b c.get.result c.union-rules.result (has_rule c.args.broken.now) c.requires
    (λ wanted.
    c.union-rules.ensures wanted
    ∙ ap (λ (rules : Rules). has_rule rules wanted || has_rule c.args.broken.now wanted) (sym (c.get.ensures c.get.result))) place other
