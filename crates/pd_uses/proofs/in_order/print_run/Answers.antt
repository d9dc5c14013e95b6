use Rattle.std.proofs.Common.{◌∙◌, arith}
use Rattle.pd_lines.proofs.Printing.{begun_with, printed_both}
use Rattle.pd_uses.specs.InOrder.{place_line}
use Rattle.pd_uses.proofs.OrderLemmas.{places_lost, places_so_far}
use Rattle.pd_uses.proofs.in_order.print_run.Goals as goal

pub returns-in_err-print_line-clause-prints : goal.returns-in_err-print_line-clause-prints
returns-in_err-print_line-clause-prints g c =
    begun_with c.from_residual.result c.from_residual.ensures.0
    (places_lost (place_line c.args.id c.args.run) c.args.run.number c.loop-place.place (omega arith) c.loop-place.invariant.printed (rw (c.as_bytes.ensures.bytes, c.go_to.ensures, c.use_by.ensures, c.hit.ensures) at c.in_err-print_line.ensures.prints))

pub loop-place-preserved : goal.loop-place-preserved
loop-place-preserved g c = record {
  same_reference = c.in_ok-print_line.ensures.same_reference ∙ c.loop-place.invariant.same_reference;
  printed = rw (places_so_far (place_line c.args.id c.args.run) c.loop-place.place)
      (printed_both c.loop-place.invariant.printed (rw (c.as_bytes.ensures.bytes, c.go_to.ensures, c.use_by.ensures, c.hit.ensures) at c.in_ok-print_line.ensures.prints));
  faults = c.in_ok-print_line.ensures.faults ∙ c.loop-place.invariant.faults;
}
