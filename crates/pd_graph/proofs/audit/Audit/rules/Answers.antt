use Rattle.std.proofs.Common.{◌≡◌, Bool, true, false, ◌||◌, ◌&&◌, refl, sym, ◌∙◌, ap, arith, ◌<◌, length}
use Rattle.pd_kinds.specs.declared.rules.Rules.{Rules}
use Rattle.pd_kinds.specs.Rule.{has_rule}
use Rattle.pd_kinds.specs.Rule.{same_rule}
use Rattle.pd_kinds.specs.declared.rule.Rule.TheVariants.{Role}
use Rattle.pd_graph.specs.Marks.{has_several}
use Rattle.pd_graph.specs.Marks.{rules_of}
use Rattle.pd_graph.proofs.TableLemmas.{has_rule_in-get_or}
use Rattle.pd_graph.proofs.audit.Audit.rules.Goals as goal

or_swap : (a b : Bool) → (a || b) ≡ (b || a)
or_swap true true = refl
or_swap true false = refl
or_swap false true = refl
or_swap false false = refl

-- what the call of `with_if` gives, in the order of the definition
in_order : (given kept read role : Bool) (several several' : Bool) → given ≡ ((several && role) || kept) → kept ≡ read → several ≡ several'
    → given ≡ (read || (several' && role))
in_order given kept read role several several' e same seen = e ∙ rw (same, seen) (or_swap (several' && role) read)

pub returns : goal.returns
returns c = λ rule.
    let small : c.args.b < length (rules_of c.args.self.now.marks) = let h = c.args.self.now.places.rules in let k = c.requires in omega arith in
    let kept = has_rule_in-get_or (rules_of c.args.self.now.marks) c.args.b c.get.result rule small in
    let same = ap (λ (set : Rules). has_rule set rule) (sym (c.get.ensures c.get.result)) in
    in_order (has_rule c.with_if.result rule) (has_rule c.get.result rule) _ (same_rule Role rule) c.are_several.result _
    (c.with_if.ensures rule) (same ∙ sym kept) (c.are_several.ensures ∙ ap has_several (sym (c.get-2.ensures 0)))
