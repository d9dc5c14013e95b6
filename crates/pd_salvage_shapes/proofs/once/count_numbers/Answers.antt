use Rattle.std.proofs.Common.{◌++◌, take, ◌∙◌, arith}
use Rattle.pd_salvage_shapes.proofs.OnceLemmas.{numbers_next}
use Rattle.pd_salvage_shapes.proofs.once.count_numbers.Goals as goal

pub loop-k-preserved : goal.loop-k-preserved
loop-k-preserved c =
    let met = c.args.met.now in
    let i = c.loop-k.k-index in
    record {
      counted = λ before are. numbers_next before met c.count_use.new.uses i _ (omega arith) c.from.ensures (c.count_use.ensures.counted (before ++ take i met) (c.loop-k.invariant.counted before are));
      same = c.count_use.ensures.same ∙ c.loop-k.invariant.same;
    }
