use Rattle.pd_smwrite.proofs.OverflowLemmas.{none_low, chunk_low, chunk_high}
use Rattle.pd_smwrite.proofs.bitmaps.high_in.Goals as goal

pub returns-in-None : goal.returns-in-None
returns-in-None c = none_low c.args.counts.now c.args.i c.args.start c.requires.low c.in-None.ensures

pub returns-in-None-first : goal.returns-in-None-first
returns-in-None-first c =
    chunk_low c.args.counts.now c.args.i c.args.start c.requires.low c.in-Some.chunk.now c.in-Some.ensures c.in-None-first.ensures

pub returns-in-Some-first : goal.returns-in-Some-first
returns-in-Some-first c =
    chunk_high c.args.counts.now c.args.i c.args.start c.requires.low c.in-Some.chunk.now c.in-Some.ensures c.in-Some-first.at c.size-size.ensures.past
    c.in-Some-first.ensures
