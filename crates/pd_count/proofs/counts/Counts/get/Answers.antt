use Rattle.std.proofs.Common.{◌∙◌, sym, ap, ◌/◌, arith, ◌<◌, length}
use Rattle.pd_count.specs.Counted.{Counted, count_of}
use Rattle.pd_count.proofs.GroupLemmas.{count_in_group}
use Rattle.pd_count.proofs.counts.Counts.get.Goals as goal

pub returns : goal.returns
returns c =
    let size_is = ap (λ (t : Counted). t.size) c.self.view_is in
    let within : c.args.b / 16320 / 64 < length c.self.inside.groups.items = omega (arith, size_is, c.self.invariant.0) in
    c.get.ensures ∙ sym (count_in_group c.self.inside.size c.self.inside.groups.items c.args.b c.index.result.now within c.index.ensures)
    ∙ ap (λ t. count_of t c.args.b) c.self.view_is
