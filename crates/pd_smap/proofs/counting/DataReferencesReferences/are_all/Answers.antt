use Rattle.std.proofs.Common.{◌∙◌, sym}
use Rattle.std.proofs.lemmas.Bool.{eqb-true}
use Rattle.pd_smap.proofs.CountLemmas.{run_counts, run_uncounted}
use Rattle.pd_smap.proofs.counting.DataReferencesReferences.are_all.Goals as goal

pub returns-in-Some : goal.returns-in-Some
returns-in-Some c = λ all.
    run_counts c.args.self.now.0.now c.args.first c.args.len c.args.count c.in-Some.chunk.now c.requires.chunk c.in-Some.ensures (c.are_all.ensures all)

pub returns-in-None : goal.returns-in-None
returns-in-None c = λ zero k below.
    run_uncounted c.args.self.now.0.now c.args.first c.args.len c.requires.chunk c.in-None.ensures k below ∙ sym (eqb-true c.args.count 0 zero)
