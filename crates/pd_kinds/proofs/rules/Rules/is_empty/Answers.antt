use Rattle.std.proofs.Common.{◌≡◌, false, nat_eq, refl, eq-eqb, subst, ℕ}
use Rattle.std.specs.Int.{bit_at}
use Rattle.std.proofs.lemmas.Bool.{eqb-true}
use Rattle.std.proofs.lemmas.Nat.Bits.{bit_at-zero}
use Rattle.pd_kinds.specs.Rule.{number_of}
use Rattle.pd_kinds.proofs.ReportLemmas.{rule_numbered, empty_from_bits}
use Rattle.pd_kinds.proofs.rules.Rules.is_empty.Goals as goal

pub returns : goal.returns
returns c = (
  λ none. λ rule.
      let zero_bits = eqb-true c.args.self.now.bits 0 none in
      rw (zero_bits, bit_at-zero (number_of rule)) refl,
  λ none. eq-eqb c.args.self.now.bits 0 (empty_from_bits c.args.self.now.bits c.args.self.now.no_other
      (λ k h. let at_rule = rule_numbered k h in
      let P : ℕ → Type 0 = λ n. nat_eq (bit_at c.args.self.now.bits n) 1 ≡ false in
      subst P at_rule.1 (none at_rule.0))),
)
