use Rattle.std.proofs.Common.{◌≡◌, Bool, true, false, ◌||◌, ◌&&◌, ap, sym, nat_eq, refl, List, ℕ, get_or}
use Rattle.pd_kinds.specs.Rule.{same_rule}
use Rattle.pd_kinds.specs.declared.rule.Rule.TheVariants.{Role}
use Rattle.pd_graph.specs.Marks.{has_several}
use Rattle.pd_graph.specs.Marks.{has_rule_in, rules_of, seen_of}
use Rattle.pd_graph.proofs.audit.Audit.mark.Goals as goal

or_between : (kept new role : Bool) → ((kept || new) || role) ≡ ((kept || role) || new)
or_between true true c = refl
or_between true false true = refl
or_between true false false = refl
or_between false true true = refl
or_between false true false = refl
or_between false false true = refl
or_between false false false = refl

combined : (new old more role role' : Bool) → new ≡ (old || more) → role ≡ role' → (new || role') ≡ ((old || role) || more)
combined new old more role role' e same = rw (e, same) (or_between old more role')

pub returns-clause-rules : goal.returns-clause-rules
returns-clause-rules c = λ place other.
    combined _ (has_rule_in (rules_of c.args.self.now.marks) place other) (nat_eq place c.args.b && same_rule c.args.rule other)
    (has_several (get_or (seen_of c.args.self.now.marks) place 0) && same_rule Role other)
    (has_several (get_or (seen_of c.add_rule.new.self) place 0) && same_rule Role other)
    (c.add_rule.ensures.rules place other)
    (ap (λ (items : List ℕ). has_several (get_or items place 0) && same_rule Role other) (sym c.add_rule.ensures.seen))
