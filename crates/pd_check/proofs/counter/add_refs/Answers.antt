use Rattle.std.proofs.Common.{◌∙◌, arith}
use Rattle.pd_check.proofs.RefsLemmas.{one_ref_more}
use Rattle.pd_check.proofs.counter.add_refs.Goals as goal

pub loop-i-preserved : goal.loop-i-preserved
loop-i-preserved g c = record {
  size = c.in_ok-add_ref.ensures.size ∙ c.loop-i.invariant.size;
  counted = λ before start within few.
      one_ref_more c.loop-i.counts c.add_ref.new.counts c.args.counts.now.size c.loop-i.i c.data_ref_of_any.result before ((g.F.Format.contents c.args.format.now).data_refs c.args.role c.args.block.now.0)
      c.data_ref_of_any.ensures within few (c.loop-i.invariant.counted before start within few)
      (λ all counted inside short. c.in_ok-add_ref.ensures.counted all counted (omega (arith, c.loop-i.invariant.size, inside)) short);
}
