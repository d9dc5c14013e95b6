use Rattle.std.proofs.Common.{◌≡◌, ℕ, ◌-◌, ◌++◌, ◌∙◌, ap, arith}
use Rattle.std.specs.List.{range_with_len}
use Rattle.pd_shrink.proofs.SpanLemmas.{between_more}
use Rattle.pd_shrink.proofs.sources.add_blocks.Goals as goal

pub loop-b-preserved : goal.loop-b-preserved
loop-b-preserved c = record {
  added = between_more c.args.first c.loop-b.b c.args.found.now.items c.loop-b.found.items c.push.new.self.items c.loop-b.auto.b c.in_ok-push.ensures.items c.loop-b.invariant.added;
  most = omega arith;
}

pub returns : goal.returns
returns c =
    let last : c.loop-b.b - c.args.first ≡ c.args.stop - c.args.first = omega arith in
    c.loop-b.invariant.added ∙ ap (λ (n : ℕ). c.args.found.now.items ++ range_with_len c.args.first n) last
