-- Trusted base.
-- What the laws of a writeback take for granted, and what they speak of: the tree that names the blocks which say what is dirty, a
-- fast device with room, and devices that agree where nothing is copied.
use Rattle.std.specs.Prelude.{◌≡◌, ℕ, ◌+◌, ◌*◌, ◌<◌, ◌≤◌, false, if◌then◌else◌, List, length, map, IfSome}
use Rattle.std.specs.List.{AllByRecursion, slice_get}
use Rattle.pd_kinds.specs.CacheFormat.{cache_fields, cache_graph, has_dirty_bits}
use Rattle.pd_kinds.specs.Graph.{block_at}
use Rattle.pd_kinds.specs.Meaning.{CacheEntry, CacheMeaning, cache_meaning}
use Rattle.pd_kinds.specs.Node.{Entry}
use Rattle.pd_kinds.specs.Trees.{entries_below}
use Rattle.pd_answers.specs.Writebacks.{blocks_each, fast_need, hot_blocks, is_hot}

-- the role and the root of the tree whose entries name the blocks that say what is dirty: in version 1 that of the mapping array, in
-- version 2 that of the dirty bitset
abbrev pub dirty_tree_role : ℕ → ℕ
dirty_tree_role version = if has_dirty_bits version then 10 else 1

abbrev pub dirty_tree_root : List (List ℕ) → ℕ
dirty_tree_root image =
    if has_dirty_bits (cache_fields (block_at image 0)).version
    then (cache_fields (block_at image 0)).dirty_root
    else (cache_fields (block_at image 0)).mapping_root

-- the entries of that tree
abbrev pub dirty_entries : List (List ℕ) → List Entry
dirty_entries image =
    entries_below (cache_graph (block_at image 0)) image 8 (dirty_tree_role (cache_fields (block_at image 0)).version) (dirty_tree_root image)

-- nothing is dirty
abbrev pub undirtied : CacheEntry → CacheEntry
undirtied e = record e { dirty = false }

abbrev pub without_dirt : CacheMeaning → CacheMeaning
without_dirt m = record m { entries = map undirtied m.entries }

-- the fast device has all blocks that are copied
abbrev pub HasHotBlocks : List (List ℕ) → List (List ℕ) → Type 0
HasHotBlocks image fast =
    fast_need (blocks_each (cache_meaning image).block_size) (hot_blocks (cache_meaning image)) ≤ length fast

-- where both devices have a block of 4096 bytes of an entry, of k such, it stands over the origin in its place
abbrev pub IsOver : ℕ → List (List ℕ) → List (List ℕ) → List (List ℕ) → CacheEntry → Type 0
IsOver k origin fast over e =
    (j : ℕ) → j < k → e.origin * k + j < length origin → e.block * k + j < length fast → slice_get over (e.origin * k + j) ≡ slice_get fast (e.block * k + j)

-- both devices have the same bytes in a block of a cache, of k blocks of 4096 bytes, as far as both have it
abbrev pub IsSameOnBoth : ℕ → List (List ℕ) → List (List ℕ) → CacheEntry → Type 0
IsSameOnBoth k origin fast e =
    (j : ℕ) → j < k → IfSome (slice_get fast (e.block * k + j)) (λ cached. IfSome (slice_get origin (e.origin * k + j)) (λ old. cached ≡ old))

-- they have so in each that a writeback doesn't copy
pub record AgreeElsewhere (image origin fast : List (List ℕ)) : Type 0 where
  pub each : AllByRecursion (λ e. is_hot (cache_meaning image) e ≡ false → IsSameOnBoth (blocks_each (cache_meaning image).block_size) origin fast e)
      (cache_meaning image).entries
