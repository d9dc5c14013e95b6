use Rattle.std.proofs.Common.{◌∙◌}
use Rattle.pd_lines.proofs.Printing.{begun_with, printed_both}
use Rattle.pd_uses.specs.declared.hits.DataUse.{DataUse}
use Rattle.pd_uses.specs.Uses.{use_line}
use Rattle.pd_uses.proofs.OrderLemmas.{parts_lost, parts_so_far}
use Rattle.pd_uses.proofs.reverse_map.add_uses.Goals as goal

abbrev none : DataUse
none = record { block = 0; id = 0; virt = 0 }

pub returns-in_err-print_text_line-clause-prints : goal.returns-in_err-print_text_line-clause-prints
returns-in_err-print_text_line-clause-prints g c =
    begun_with c.from_residual.result c.from_residual.ensures.0
    (parts_lost use_line c.args.uses.now c.loop-one.one-index none c.loop-one-test.true c.loop-one.invariant.printed c.in_err-print_text_line.ensures.prints)

pub loop-one-preserved : goal.loop-one-preserved
loop-one-preserved g c = record {
  same_reference = c.in_ok-print_text_line.ensures.same_reference ∙ c.loop-one.invariant.same_reference;
  printed = rw (parts_so_far use_line c.args.uses.now c.loop-one.one-index none c.loop-one-test.true)
      (printed_both c.loop-one.invariant.printed c.in_ok-print_text_line.ensures.prints);
  faults = c.in_ok-print_text_line.ensures.faults ∙ c.loop-one.invariant.faults;
}
