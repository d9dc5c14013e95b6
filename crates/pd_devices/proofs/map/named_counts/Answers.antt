use Rattle.std.proofs.Common.{◌∙◌, arith}
use Rattle.pd_count.specs.Counted.{count_of}
use Rattle.pd_laws_laid.specs.Shared.{named_times}
use Rattle.pd_devices.proofs.MapLemmas.{below_more, past_more, counted_all}
use Rattle.pd_devices.proofs.map.named_counts.Goals as goal

pub loop-b-init : goal.loop-b-init
loop-b-init c = record {
  size = c.in_ok-counts.ensures.size;
  below = λ b below. absurd (omega (arith, below));
  past = λ b past. c.in_ok-counts.ensures.none b;
}

pub add_times-requires-clause-none : goal.add_times-requires-clause-none
add_times-requires-clause-none c = c.loop-b.invariant.past c.loop-b.b (omega arith)

pub loop-b-preserved : goal.loop-b-preserved
loop-b-preserved c =
    let added = c.in_ok-add_times.ensures in
    let times = named_times (count_of c.args.uses.now) c.args.leaves c.args.end in
    record {
      size = added.size ∙ c.loop-b.invariant.size;
      below = below_more c.loop-b.counts c.add_times.new.counts times c.loop-b.b
          (added.counted ∙ c.times_named.ensures.named c.args.end (omega arith)) added.others c.loop-b.invariant.below;
      past = past_more c.loop-b.counts c.add_times.new.counts c.loop-b.b added.others c.loop-b.invariant.past;
    }

pub returns-clause-named : goal.returns-clause-named
returns-clause-named c =
    let before = c.loop-b.invariant.below in
    let behind = c.loop-b.invariant.past in
    counted_all c.loop-b.counts (count_of c.args.uses.now) c.args.leaves c.args.end c.requires.leaves (λ b below. before b (omega arith)) (λ b from. behind b (omega arith))
