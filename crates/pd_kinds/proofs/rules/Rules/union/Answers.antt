use Rattle.std.proofs.lemmas.Nat.{or_lt}
use Rattle.pd_kinds.specs.Rule.{number_of}
use Rattle.pd_kinds.proofs.ReportLemmas.{bit_of_both}
use Rattle.pd_kinds.proofs.rules.Rules.union.Goals as goal

pub invariant_of-result : goal.invariant_of-result
invariant_of-result c = record {
  no_other = or_lt 22 c.args.self.now.bits c.args.other.now.bits c.args.self.now.no_other c.args.other.now.no_other;
}

pub returns : goal.returns
returns c = λ rule. bit_of_both c.args.self.now.bits c.args.other.now.bits (number_of rule)
