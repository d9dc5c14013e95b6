use Rattle.std.proofs.Common.{ℕ, List, length, ◌||◌, nat_eq, ap, sym, ◌∙◌}
use Rattle.std.proofs.lemmas.List.{length-set}
use Rattle.pd_graph.specs.Marks.{has_bit, is_in}
use Rattle.pd_graph.specs.Marks.{values_of}
use Rattle.pd_graph.proofs.BitLemmas.{has_bit_more, is_in_more}
use Rattle.pd_graph.proofs.roles.add_role.Goals as goal

pub returns-clause-roles : goal.returns-clause-roles
returns-clause-roles c = λ p.
    ap (λ (sets : List ℕ). is_in sets p) c.set.ensures
    ∙ is_in_more (values_of c.args.table.now) c.args.b c.args.role _ c.requires.within c.requires.role
    (λ other small. has_bit_more c.get.result c.args.role other c.requires.role
    ∙ ap (λ (roles : ℕ). has_bit roles other || nat_eq other c.args.role) (sym (c.get.ensures 0))) p

pub returns-clause-places : goal.returns-clause-places
returns-clause-places c =
    ap (λ (sets : List ℕ). length sets) c.set.ensures ∙ length-set (values_of c.args.table.now) c.args.b _
