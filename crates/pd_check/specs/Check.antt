-- What a check of any kind of metadata finds, and how it ends.
-- What each kind of metadata says of its superblock.
-- The counts of metadata blocks and of data blocks: their faults, and how much is read to find them.
-- What the stages of the whole image and of the counts go out from.
use Rattle.std.specs.Prelude.{ℕ, Bool, List, Option, Some, None, ◌*◌, true, false, ◌&&◌, not, nat_lt, if◌then◌else◌, ◌≡◌, ◌≢◌, ◌≤◌, ◌+◌, [], length, slice_get, Result, Err, IfSome}
use Rattle.std.specs.List.{flat_map, range_with_len}
use Rattle.pd_kinds.specs.declared.kind.Kind.{Kind}
use Rattle.pd_kinds.specs.declared.kind.Kind.TheVariants.{Thin, Cache, Era}
use Rattle.pd_kinds.specs.declared.rule.Rule.{Rule}
use Rattle.pd_kinds.specs.Graph.{Graph, block_at, nodes, meta_count, data_count}
use Rattle.pd_kinds.specs.declared.superblocks.SmRoot.{SmRoot}
use Rattle.pd_kinds.specs.ThinFormat.{thin_fields, thin_super_bad, thin_graph}
use Rattle.pd_kinds.specs.CacheFormat.{cache_fields, cache_super_bad, cache_graph}
use Rattle.pd_kinds.specs.EraFormat.{era_fields, era_super_bad, era_graph}
use Rattle.pd_kinds.specs.declared.kind.Stage.{Stage}
use Rattle.pd_kinds.specs.declared.kind.Stage.TheVariants.{Super, Walk, Order, Whole, Counts}
use Rattle.pd_kinds.specs.declared.report.CheckFault.{CheckFault}
use Rattle.pd_kinds.specs.declared.report.CheckFault.TheVariants.{Memory}
use Rattle.pd_kinds.specs.declared.rule.Fault.{Fault}
use Rattle.pd_kinds.specs.Stages.{CanWantMemory, faults, block_faults, walk_bad, order_bad, Checked, count_fault}
use Rattle.pd_kinds.specs.declared.rule.Space.TheVariants.{Meta, DataBlock}
use Rattle.pd_kinds.specs.Bitmap.{bitmaps_for}
use Rattle.pd_graph.specs.declared.audit.Audit.{Audit}
use Rattle.pd_graph.specs.Walk.{IsWalked}
use Rattle.pd_tree.specs.Below.{nodes_below}
use Rattle.pd_check.specs.declared.metadata.DataSpace.{DataSpace}
use Rattle.pd_check.specs.Known.{IsKnown}

-- the rules that block 0 breaks, on a device of so many blocks
abbrev pub super_bad_of : Kind → ℕ → List ℕ → Rule → Bool
super_bad_of Thin = thin_super_bad
super_bad_of Cache = cache_super_bad
super_bad_of Era = era_super_bad

-- the format that block 0 gives
abbrev pub graph_of_super : Kind → List ℕ → Graph
graph_of_super Thin = thin_graph
graph_of_super Cache = cache_graph
graph_of_super Era = era_graph

-- the root of the map that counts the metadata blocks, and the role of its overflow tree's nodes
abbrev pub meta_map_of : Kind → List ℕ → SmRoot
meta_map_of Thin first = (thin_fields first).meta_map
meta_map_of Cache first = (cache_fields first).meta_map
meta_map_of Era first = (era_fields first).meta_map

-- the data blocks that it counts, where it does: a pool's mappings, in role 3, refer to them
abbrev pub data_space_of : Kind → List ℕ → Option DataSpace
data_space_of Thin first = Some (record { root = (thin_fields first).data_map; role = 3 })
data_space_of Cache first = None
data_space_of Era first = None

-- the image has so many blocks, and this one is the first
pub record IsFirstBlock (blocks : ℕ) (first : List ℕ) (image : List (List ℕ)) : Type 0 where
  pub number : blocks ≡ length image
  pub content : slice_get image 0 ≡ Some first

-- memory is wanted only where a check up to the stage can want it
abbrev pub MayWantMemory : {R : Type 0} → Kind → Stage → Option (List (List ℕ)) → Result R CheckFault → Type 0
MayWantMemory kind until held (Err Memory) = CanWantMemory kind until held
MayWantMemory kind until held _ = Unit {0}

-- how often a check up to a stage reads a block in a role at the most: the walk once, settling and the rules of the
-- whole image twice each, and the counts once
abbrev pub reads_of : Stage → ℕ
reads_of Super = 1
reads_of Walk = 1
reads_of Order = 3
reads_of Whole = 5
reads_of Counts = 6

-- and how often up to the order of the trees, where a check goes as far
abbrev pub reads_to_order : Stage → ℕ
reads_to_order Super = 1
reads_to_order Walk = 1
reads_to_order Order = 3
reads_to_order Whole = 3
reads_to_order Counts = 3

-- the stages after the walk
abbrev pub goes_past_walk : Stage → Bool
goes_past_walk Super = false
goes_past_walk Walk = false
goes_past_walk Order = true
goes_past_walk Whole = true
goes_past_walk Counts = true

-- the faults of the walk, and where there are none, of the order of the trees if a check goes as far
abbrev pub past_faults : Stage → Graph → List (List ℕ) → List Fault
past_faults until graph image =
    if goes_past_walk until && not (nat_lt 0 (length (block_faults graph.nr (walk_bad graph image))))
    then block_faults graph.nr (order_bad graph image)
    else block_faults graph.nr (walk_bad graph image)

-- a check up to a stage reads no node of the graph that a superblock gives more often than so, and none
-- where the superblock has faults
pub record ReadsFew (kind : Kind) (until : Stage) (image : List (List ℕ)) (old new : ℕ) : Type 0 where
  pub nodes : new ≤ old + reads_of until * length (nodes (graph_of_super kind (block_at image 0)) image)
  pub none : (faults kind Super image ≢ []) → new ≤ old

-- the faults of the counts of metadata blocks, and of those of data blocks
unfoldable pub meta_faults : Checked → List (List ℕ) → List Fault
meta_faults checked image =
    flat_map (λ b. count_fault Meta b (meta_count checked.graph image b) (checked.stored_meta b)) (range_with_len 0 checked.graph.nr)

unfoldable pub data_faults : Checked → List (List ℕ) → List Fault
data_faults checked image =
    flat_map (λ d. count_fault DataBlock d (data_count checked.graph image d) (checked.stored_data d)) (range_with_len 0 checked.graph.data_blocks)

-- how many blocks are read at the most to compare the counts of metadata blocks: the index block, the bitmaps, and
-- the nodes of the overflow tree
abbrev pub meta_reads : SmRoot → List (List ℕ) → ℕ
meta_reads root image = 1 + bitmaps_for root.blocks + length (nodes_below 4 image 63 root.overflow_root)

-- and for those of data blocks: the nodes of the index tree, the bitmaps, and the nodes of the overflow tree
abbrev pub data_reads : DataSpace → List (List ℕ) → ℕ
data_reads space image =
    length (nodes_below 16 image 63 space.root.bitmap_root) + bitmaps_for space.root.blocks + length (nodes_below 4 image 63 space.root.overflow_root)

-- where there are data blocks
abbrev pub space_reads : Option DataSpace → List (List ℕ) → ℕ
space_reads None image = 0
space_reads (Some space) image = data_reads space image

-- and for both
unfoldable pub count_reads : Kind → List ℕ → List (List ℕ) → ℕ
count_reads kind first image = meta_reads (meta_map_of kind first) image + space_reads (data_space_of kind first) image

-- the data blocks that a superblock claims need no more bitmaps than there are metadata blocks
abbrev pub ClaimsFew : Kind → List ℕ → Type 0
ClaimsFew kind first = IfSome (data_space_of kind first) (λ space. bitmaps_for space.root.blocks ≤ (graph_of_super kind first).nr)

-- this is block 0, the image has no faults up to the order of the trees, and the audit knows it
pub record IsOrdered (kind : Kind) (first : List ℕ) (image : List (List ℕ)) (audit : Audit) : Type 0 where
  pub first_block : block_at image 0 ≡ first
  pub none : faults kind Order image ≡ []
  pub known : IsKnown (graph_of_super kind first) image audit

-- and the image has no faults up to the rules of the whole image either
pub record IsWhole (kind : Kind) (first : List ℕ) (image : List (List ℕ)) (audit : Audit) : Type 0 where
  pub first_block : block_at image 0 ≡ first
  pub none : faults kind Whole image ≡ []
  pub known : IsKnown (graph_of_super kind first) image audit
  pub walked : IsWalked (graph_of_super kind first) image audit
