use Rattle.pd_kinds.specs.Rule.{number_of}
use Rattle.pd_kinds.proofs.ReportLemmas.{number_below, tag_is, with_bit_below, bit_of_with}
use Rattle.pd_kinds.proofs.rules.Rules.with.Goals as goal

pub invariant_of-result : goal.invariant_of-result
invariant_of-result c =
    let e = tag_is c.args.rule in
    record { no_other = rw e (with_bit_below c.args.self.now.bits (number_of c.args.rule) c.args.self.now.no_other (number_below c.args.rule)) }

pub returns : goal.returns
returns c = λ other.
    let e = tag_is c.args.rule in
    rw e (bit_of_with c.args.self.now.bits (number_of c.args.rule) (number_of other) (number_below c.args.rule) (number_below other))
