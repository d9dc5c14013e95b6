-- What a counter of references knows of the blocks that it was shown.
use Rattle.std.specs.Prelude.{◌≡◌, ℕ, ◌<◌, Bool, false, List}
use Rattle.std.proofs.Common.{subst, sym}
use Rattle.std.proofs.Math.Path.{fun_ext}
use Rattle.pd_kinds.specs.Graph.{Graph}
use Rattle.pd_count.specs.Counted.{HasCounted}
use Rattle.pd_graph.specs.Format.{AreSame}
use Rattle.pd_check.specs.declared.counter.RefCounter.{RefCounter}
use Rattle.pd_check.specs.Refs.{NamesDataIn, refs_in}

-- whether memory was wanting
abbrev pub is_lacking : RefCounter → Bool
is_lacking counter = counter.lacks_memory

-- how many data blocks it counts
abbrev pub data_blocks_of : RefCounter → ℕ
data_blocks_of counter = counter.counts.size

-- blocks name data blocks in its role alone, and it has counted those of these pairs, where no memory was wanting
pub record HasSeen (counter : RefCounter) (graph : Graph) (image : List (List ℕ)) (pairs : ℕ → Bool) : Type 0 where
  pub one_role : 0 < graph.data_blocks → NamesDataIn graph counter.role
  pub counted : is_lacking counter ≡ false → HasCounted counter.counts (refs_in graph image counter.role pairs)

-- it knows the same of the same pairs
pub same_seen : (counter : RefCounter) (graph : Graph) (image : List (List ℕ)) (pairs others : ℕ → Bool) → AreSame pairs others
    → HasSeen counter graph image pairs → HasSeen counter graph image others
same_seen counter graph image pairs others same seen = subst (HasSeen counter graph image) (fun_ext (λ p. sym (same p))) seen
