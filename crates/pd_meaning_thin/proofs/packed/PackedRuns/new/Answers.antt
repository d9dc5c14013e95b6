use Rattle.pd_meaning_thin.proofs.ChunkLemmas.{ArePacked-none, runs_in-none}
use Rattle.pd_meaning_thin.proofs.packed.PackedRuns.new.Goals as goal

pub invariant_of-result : goal.invariant_of-result
invariant_of-result c = rw c.new.ensures ArePacked-none

pub returns : goal.returns
returns c = rw c.new.ensures runs_in-none
