use Rattle.std.proofs.Common.{[], ◌∷◌, ◌+◌, ◌%◌, ◌^◌, ◌∙◌}
use Rattle.std.proofs.lemmas.List.{append_assoc}
use Rattle.pd_salvage_shapes.specs.Note.{range_numbers}
use Rattle.pd_salvage_shapes.proofs.VisitingLemmas.{longer_range}
use Rattle.pd_salvage_shapes.proofs.numbers.add_range.Goals as goal

pub loop-i-preserved : goal.loop-i-preserved
loop-i-preserved c =
    let first = c.args.range.first in
    let i = c.loop-i.i in
    record {
      items = c.in_ok-push.ensures.items ∙ rw (c.loop-i.invariant.items, longer_range first i) (append_assoc c.args.numbers.now.items (range_numbers (record { first = first; count = i })) ((first + i) % 2 ^ 32 ∷ []));
    }
