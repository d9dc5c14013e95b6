use Rattle.std.proofs.Common.{◌∙◌, arith}
use Rattle.pd_count.proofs.GroupLemmas.{none_in_groups}
use Rattle.pd_count.proofs.counts.Counts.new.Goals as goal

pub invariant_of-result : goal.invariant_of-result
invariant_of-result c = (
  c.in_ok-absent_groups.ensures.len ∙ omega (arith, c.div_ceil-places.ensures),
  λ b past. none_in_groups c.args.size c.in_ok-absent_groups.field-0.items c.in_ok-absent_groups.ensures.absent b,
)

pub returns-clause-none : goal.returns-clause-none
returns-clause-none c = none_in_groups c.args.size c.in_ok-absent_groups.field-0.items c.in_ok-absent_groups.ensures.absent
