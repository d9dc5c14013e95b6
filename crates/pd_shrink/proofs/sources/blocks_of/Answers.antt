use Rattle.pd_shrink.specs.declared.sources.Span.{Span}
use Rattle.pd_shrink.proofs.SpanLemmas.{union_all, union_more}
use Rattle.pd_shrink.proofs.sources.blocks_of.Goals as goal

-- where no row is
abbrev no_span : Span
no_span = record { first = 0; stop = 0 }

pub loop-span-preserved : goal.loop-span-preserved
loop-span-preserved c =
    union_more c.args.spans.now c.loop-span.span-index c.loop-span.least c.max.result c.max-least.result no_span c.loop-span.found.items c.add_blocks.new.found.items c.loop-span-test.true
    c.max.ensures c.max-least.ensures c.in_ok-add_blocks.ensures c.loop-span.invariant

pub returns : goal.returns
returns c = union_all c.args.spans.now c.loop-span.span-index c.loop-span.least c.loop-span.found.items c.loop-span-test.false c.loop-span.invariant
