use Rattle.std.proofs.Common.{refl, sym, ◌∙◌}
use Rattle.pd_repair.proofs.repair.super_in.Goals as goal

pub returns-then-is_empty-clause-sound : goal.returns-then-is_empty-clause-sound
returns-then-is_empty-clause-sound c =
    record { is = c.read_thin_super.ensures; sound = λ rule. sym (c.thin_super_rules-rules.ensures rule) ∙ c.if-is_empty.ensures.0 refl rule }

pub returns-else-is_empty-clause-broken : goal.returns-else-is_empty-clause-broken
returns-else-is_empty-clause-broken c = record {
  rules = c.thin_super_rules-rules.result;
  is = refl;
  broken = c.thin_super_rules-rules.ensures;
  named = λ none. let e = c.if-is_empty.ensures.1 none in cc;
}
