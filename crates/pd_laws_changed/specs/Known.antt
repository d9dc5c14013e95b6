-- What is known of a cache without a fault up to the stage Order: its format keeps the laws, and all that it names is reached.
-- Two images of a kind that are alike: they differ in the first eight bytes of block 0 alone, which hold the checksum and
-- the flags of the superblock.
use Rattle.std.specs.Prelude.{ℕ, List, ◌≡◌, true, drop, length}
use Rattle.std.specs.List.{AllByRecursion}
use Rattle.pd_kinds.specs.CacheFormat.{cache_fields, cache_graph}
use Rattle.pd_kinds.specs.Graph.{Edge, block_at}
use Rattle.pd_kinds.specs.Lawful.{IsLawful}
use Rattle.pd_kinds.specs.Node.{Entry}
use Rattle.pd_kinds.specs.Stages.{IsReached}
use Rattle.pd_kinds.specs.Trees.{entries_below}
use Rattle.pd_kinds.specs.InOrder.{AreInOrder}
use Rattle.pd_kinds.specs.declared.kind.Kind.{Kind}
use Rattle.pd_kinds.specs.Field.{has_checksum}
use Rattle.pd_kinds.specs.Super.{salt_of}
use Rattle.pd_tree.specs.Search.{HasCacheRoots, HasCacheTrees, IsTreeTo}

pub record IsKnown (image : List (List ℕ)) : Type 0 where
  pub lawful : IsLawful (cache_graph (block_at image 0))
  pub ordered : AreInOrder (cache_graph (block_at image 0)) image
  pub roots : HasCacheRoots (cache_graph (block_at image 0)) image (cache_fields (block_at image 0))
  pub trees : HasCacheTrees (cache_graph (block_at image 0))
  pub edges : (b role : ℕ) → IsReached (cache_graph (block_at image 0)) image b role
      → AllByRecursion (λ (e : Edge). IsReached (cache_graph (block_at image 0)) image e.block e.role) ((cache_graph (block_at image 0)).edges role b (block_at image b))
  pub named : (b role next : ℕ) → IsTreeTo (cache_graph (block_at image 0)) role 8 next (λ v. v) → IsReached (cache_graph (block_at image 0)) image b role
      → AllByRecursion (λ (e : Entry). IsReached (cache_graph (block_at image 0)) image e.value next) (entries_below (cache_graph (block_at image 0)) image 8 role b)

-- the other image has as many blocks, the same blocks behind block 0, the same bytes in block 0 from offset 8 on, and a
-- checksum there that holds
pub record AreAlike (kind : Kind) (image other : List (List ℕ)) : Type 0 where
  pub size : length other ≡ length image
  pub blocks : drop 1 other ≡ drop 1 image
  pub bytes : drop 8 (block_at other 0) ≡ drop 8 (block_at image 0)
  pub checksum : has_checksum (block_at other 0) (salt_of kind) ≡ true
