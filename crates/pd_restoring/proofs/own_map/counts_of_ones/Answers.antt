use Rattle.std.proofs.Common.{◌∙◌, arith}
use Rattle.pd_restoring.proofs.MapLemmas.{ones_none, ones_more, one_new}
use Rattle.pd_restoring.proofs.own_map.counts_of_ones.Goals as goal

pub loop-b-init : goal.loop-b-init
loop-b-init c = record { size = c.in_ok-counts.ensures.size; ones = ones_none c.in_ok-counts.counts c.in_ok-counts.ensures.none }

pub add-requires-clause-few : goal.add-requires-clause-few
add-requires-clause-few c = let b = c.loop-b.b in omega (arith, c.loop-b.invariant.ones b, one_new b b (omega arith))

pub loop-b-preserved : goal.loop-b-preserved
loop-b-preserved c =
    let added = c.in_ok-add.ensures.added in
    record { size = added.size ∙ c.loop-b.invariant.size; ones = ones_more c.loop-b.counts c.add.new.self c.loop-b.b added c.loop-b.invariant.ones }
