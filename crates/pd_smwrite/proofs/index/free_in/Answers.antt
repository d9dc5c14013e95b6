use Rattle.std.proofs.Common.{◌∙◌, arith}
use Rattle.pd_smwrite.proofs.FreeLemmas.{free_none, free_some}
use Rattle.pd_smwrite.proofs.index.free_in.Goals as goal

pub returns-in-None-clause-free : goal.returns-in-None-clause-free
returns-in-None-clause-free c =
    free_none c.args.counts.now c.args.i c.min-covered.result (omega (arith, c.min-covered.ensures, c.size.ensures.size)) c.in-None.ensures

pub returns-in-Some-clause-free : goal.returns-in-Some-clause-free
returns-in-Some-clause-free c =
    c.zeros.ensures.zeros
    ∙ free_some c.args.counts.now c.args.i c.min-covered.result c.in-Some.chunk.now (omega (arith, c.min-covered.ensures, c.size.ensures.size)) c.in-Some.ensures
