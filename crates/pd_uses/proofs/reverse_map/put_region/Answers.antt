use Rattle.std.proofs.Common.{OnOk, rules, subst}
use Rattle.pd_kinds.specs.Objects.{Appends, AppendsFront}
use Rattle.pd_lines.proofs.Printing.{all_begun, all_lost}
use Rattle.pd_query.proofs.QueryLemmas.{put_all}
use Rattle.pd_uses.specs.FoundUses.{found_uses}
use Rattle.pd_uses.specs.Uses.{ordered_uses}
use Rattle.pd_uses.specs.Uses.{uses_text}
use Rattle.pd_uses.proofs.reverse_map.put_region.Goals as goal

pub returns-clause-whole : goal.returns-clause-whole
returns-clause-whole g c =
    let state = g.K.Sink.state in
    let text = uses_text (ordered_uses c.args.region.first c.args.region.end (found_uses c.args.found.now)) in
    subst (λ out. OnOk c.finish.result (Appends text (state c.args.out.now).written (state out).written)) (search rules)
    (put_all c.finish.result {first = state c.args.out.now} {sink = state c.finish.new.printer.0} (rw (c.to_sink-printer.ensures.none, c.to_sink-printer.ensures.same) at c.in_ok-add_region.ensures.prints) c.finish.ensures.finishes)

pub returns-clause-front : goal.returns-clause-front
returns-clause-front g c =
    let state = g.K.Sink.state in
    let text = uses_text (ordered_uses c.args.region.first c.args.region.end (found_uses c.args.found.now)) in
    subst (λ out. AppendsFront text (state c.args.out.now).written (state out).written) (search rules)
    (all_lost {first = state c.args.out.now} {sink = state c.finish.new.printer.0} (rw (c.to_sink-printer.ensures.none, c.to_sink-printer.ensures.same) at c.in_ok-add_region.ensures.prints) c.finish.ensures.finishes)

pub returns-in_err-add_region-clause-front : goal.returns-in_err-add_region-clause-front
returns-in_err-add_region-clause-front g c =
    let state = g.K.Sink.state in
    let text = uses_text (ordered_uses c.args.region.first c.args.region.end (found_uses c.args.found.now)) in
    subst (λ out. AppendsFront text (state c.args.out.now).written (state out).written) (search rules)
    (all_begun {first = state c.args.out.now} (rw (c.to_sink-printer.ensures.none, c.to_sink-printer.ensures.same) at c.in_err-add_region.ensures.prints))
