use Rattle.std.proofs.Common.{ℕ, ap, List, get_or, ◌∙◌}
use Rattle.pd_kinds.specs.declared.rules.Rules.{Rules}
use Rattle.pd_graph.specs.Marks.{has_rule_in}
use Rattle.pd_graph.proofs.TableLemmas.{same_everywhere, no_rule_in}
use Rattle.pd_graph.proofs.marks.Marks.new.Goals as goal

pub returns-clause-unmarked : goal.returns-clause-unmarked
returns-clause-unmarked c = record {
  seen = λ b. ap (λ (items : List ℕ). get_or items b 0) c.in_ok-seen.ensures ∙ same_everywhere c.args.nr b 0;
  read = λ b. ap (λ (items : List ℕ). get_or items b 0) c.in_ok-read.ensures ∙ same_everywhere c.args.nr b 0;
  counts = λ b. ap (λ (items : List ℕ). get_or items b 0) c.in_ok-counts.ensures ∙ same_everywhere c.args.nr b 0;
  rules = λ b wanted. ap (λ (items : List Rules). has_rule_in items b wanted) c.in_ok-rules.ensures ∙ no_rule_in c.args.nr b c.none.result wanted c.none.ensures;
}
