use Rattle.std.proofs.Common.{◌∙◌, [], sym, ap, refl, arith}
use Rattle.pd_lines.specs.Printer.{printing}
use Rattle.pd_lines.proofs.Printing.{begun_with, printed_none}
use Rattle.pd_uses.specs.FoundUses.{found_uses}
use Rattle.pd_uses.specs.Uses.{ordered_uses}
use Rattle.pd_uses.specs.Uses.{uses_text}
use Rattle.pd_uses.proofs.LineLemmas.{lines_end, lines_lost, lines_more, text_parts}
use Rattle.pd_uses.proofs.LineLemmas.{same_end}
use Rattle.pd_uses.proofs.reverse_map.add_parts.Goals as goal

pub loop-cut-init : goal.loop-cut-init
loop-cut-init g c =
    let last = c.max-last.ensures in
    record {
      same_reference = refl;
      least = omega arith;
      printed = record {
        text = [];
        cut = sym (rw last (ap uses_text (same_end c.args.region.first c.args.region.end (found_uses c.args.found.now))));
        printed = printed_none (printing g.K.Sink.state c.args.printer.now);
      };
      faults = refl;
    }

pub returns-in_err-add_part-clause-prints : goal.returns-in_err-add_part-clause-prints
returns-in_err-add_part-clause-prints g c =
    let uses = found_uses c.args.found.now in
    let first = c.loop-cut.first in
    let end = c.part_end-end.result in
    let last = c.max-last.result in
    begun_with c.from_residual.result c.from_residual.ensures.0
    (lines_lost (uses_text (ordered_uses first end uses)) (uses_text (ordered_uses end last uses)) c.loop-cut.invariant.printed
    (text_parts first end last c.part_end-end.ensures.from c.part_end-end.ensures.to uses) c.in_err-add_part.ensures.prints)

pub loop-cut-preserved : goal.loop-cut-preserved
loop-cut-preserved g c =
    let uses = found_uses c.args.found.now in
    let first = c.loop-cut.first in
    let end = c.part_end-end.result in
    let last = c.max-last.result in
    record {
      same_reference = c.in_ok-add_part.ensures.same_reference ∙ c.loop-cut.invariant.same_reference;
      least = c.part_end-end.ensures.to;
      printed = lines_more (uses_text (ordered_uses first end uses)) (uses_text (ordered_uses end last uses)) c.loop-cut.invariant.printed
          (text_parts first end last c.part_end-end.ensures.from c.part_end-end.ensures.to uses) c.in_ok-add_part.ensures.prints;
      faults = c.in_ok-add_part.ensures.faults ∙ c.loop-cut.invariant.faults;
    }

pub returns-clause-prints : goal.returns-clause-prints
returns-clause-prints g c = lines_end c.add_part-2.result (printing g.K.Sink.state c.add_part-2.new.printer) c.loop-cut.invariant.printed c.add_part-2.ensures.prints
