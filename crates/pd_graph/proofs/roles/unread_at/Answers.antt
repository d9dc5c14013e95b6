use Rattle.std.proofs.Common.{ℕ, ap, ◌∙◌, arith}
use Rattle.pd_graph.specs.Marks.{has_bit}
use Rattle.pd_graph.specs.Marks.{values_of}
use Rattle.pd_graph.proofs.BitLemmas.{is_in-pair}
use Rattle.pd_graph.proofs.roles.unread_at.Goals as goal

pub returns-clause-some : goal.returns-clause-some
returns-clause-some c = record {
  block = omega (arith, c.places.ensures);
  within = c.in_ok-role.ensures.some.within;
  met = is_in-pair (values_of c.args.seen.now) c.args.b c.in_ok-role.role c.in_ok-role.ensures.some.within ∙ (ap (λ (roles : ℕ). has_bit roles c.in_ok-role.role) (c.get.ensures 0) ∙ c.in_ok-role.ensures.some.met);
  unread = is_in-pair (values_of c.args.read.now) c.args.b c.in_ok-role.role c.in_ok-role.ensures.some.within ∙ (ap (λ (roles : ℕ). has_bit roles c.in_ok-role.role) (c.get-2.ensures 0) ∙ c.in_ok-role.ensures.some.unread);
}
