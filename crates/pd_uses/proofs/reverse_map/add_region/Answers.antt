use Rattle.std.proofs.Common.{◌∙◌, List, ℕ, sym, ap, ap₂, subst}
use Rattle.pd_lines.specs.Printer.{printing}
use Rattle.pd_lines.specs.Printing.{Prints}
use Rattle.pd_lines.proofs.Printing.{begun_none, begun_with}
use Rattle.pd_uses.specs.declared.hits.DataUse.{DataUse}
use Rattle.pd_uses.specs.FoundUses.{found_uses, visits_uses}
use Rattle.pd_uses.specs.Uses.{ordered_uses, uses_text}
use Rattle.pd_uses.proofs.OrderLemmas.{in_order, visits_text}
use Rattle.pd_uses.proofs.reverse_map.add_region.Goals as goal

pub returns-in_err-cuts-clause-prints : goal.returns-in_err-cuts-clause-prints
returns-in_err-cuts-clause-prints g c =
    begun_with c.from_residual.result c.from_residual.ensures.0
    (begun_none (uses_text (ordered_uses c.args.region.first c.args.region.end (found_uses c.args.found.now))) (printing g.K.Sink.state c.args.printer.now))

pub returns-then-are_in_order-clause-prints : goal.returns-then-are_in_order-clause-prints
returns-then-are_in_order-clause-prints g c =
    let state = g.K.Sink.state in
    let first = c.args.region.first in
    let end = c.args.region.end in
    let leaves = c.leaves-leaves.result.now in
    let visits = c.visits-visits.result.now in
    let rise = c.are_in_order.ensures c.if-are_in_order.true in
    subst (λ (text : List ℕ). Prints text c.print_visits.result (printing state c.args.printer.now) (printing state c.print_visits.new.printer))
    (visits_text leaves visits
    ∙ ap uses_text
    (sym (in_order first end (visits_uses leaves visits) rise)
    ∙ ap (λ (uses : List DataUse). ordered_uses first end uses) (ap₂ visits_uses c.leaves-leaves.ensures c.visits-visits.ensures))) c.print_visits.ensures.prints
