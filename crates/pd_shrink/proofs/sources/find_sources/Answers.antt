use Rattle.std.proofs.Common.{◌++◌, ap, ◌∙◌}
use Rattle.std.proofs.lemmas.Result.{IfOk-weaker}
use Rattle.pd_shrink.specs.Making.{spans_past, union_from}
use Rattle.pd_shrink.proofs.SpanLemmas.{leaf_runs_small, own_runs_small, sources_kept}
use Rattle.pd_shrink.proofs.sources.find_sources.Goals as goal

pub add_leaf_spans-requires : goal.add_leaf_spans-requires
add_leaf_spans-requires c = leaf_runs_small c.args.kept.now c.head_of-head.ensures.sound

pub add_spans-requires : goal.add_spans-requires
add_spans-requires c = rw c.own_runs_of.ensures (own_runs_small c.args.kept.now c.head_of-head.ensures.sound)

pub returns : goal.returns
returns c =
    let some = c.add_leaf_spans.new.spans.items in
    let all = c.add_spans.new.spans.items in
    let sorted = c.sort_spans.new.spans.items in
    IfOk-weaker c.blocks_of.result _ _
    (λ found is.
    is
    ∙ (ap (union_from 0) c.deref.ensures.value
    ∙ sources_kept c.args.kept.now c.args.end some all sorted c.head_of-head.ensures.sound (rw c.new-spans.ensures.items at c.in_ok-add_leaf_spans.ensures)
    (c.in_ok-add_spans.ensures ∙ ap (λ runs. some ++ spans_past c.args.end runs) c.own_runs_of.ensures)
    c.sort_spans.ensures.same c.sort_spans.ensures.sorted))
    c.blocks_of.ensures
