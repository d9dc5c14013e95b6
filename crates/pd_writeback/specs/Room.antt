-- What is told of the room for hot blocks.
-- The blocks that the entries of a tree name, in ascending order.
use Rattle.std.specs.Prelude.{◌≡◌, ◌⊎◌, ℕ, ◌+◌, ◌*◌, ◌<◌, ◌≤◌, List, Result, Ok, Err, Bool, true, false, ◌==◌, if◌then◌else◌, [], ◌∷◌, filter, length, map, replicate, slice_index, slice_index_or, slice_set}
use Rattle.std.specs.List.{All, range_with_len}
use Rattle.pd_kinds.specs.CacheFormat.{CacheFields, has_dirty_bits}
use Rattle.pd_answers.specs.Writebacks.{CachedBlock, fast_need, origin_need}
use Rattle.pd_value.specs.declared.thin.Root.{Root}
use Rattle.pd_tree.specs.declared.cursor.Cursor.{Cursor}
use Rattle.pd_tree.specs.Below.{items_below}
use Rattle.pd_tree.specs.Cursor.{cursor_items, root_of}
use Rattle.pd_writeback.specs.declared.making.WriteFault.{WriteFault}
use Rattle.pd_writeback.specs.declared.making.WriteFault.TheVariants.{Memory, Meta, Origin, Fast, BlockSize, NoRoom}
use Rattle.pd_writeback.specs.declared.hot.HotBlock.{HotBlock}

-- there is room on both devices
pub record HasRoom (k : ℕ) (hot : List CachedBlock) (fast origin : ℕ) : Type 0 where
  pub on_fast : fast_need k hot ≤ fast
  pub on_origin : origin_need k hot ≤ origin

-- there is none on the fast device, or there is none on the origin alone
pub record LacksFast (k : ℕ) (hot : List CachedBlock) (fast need blocks : ℕ) : Type 0 where
  pub need_is : need ≡ fast_need k hot
  pub blocks_are : blocks ≡ fast
  pub lacking : fast < fast_need k hot

pub record LacksOrigin (k : ℕ) (hot : List CachedBlock) (fast origin need blocks : ℕ) : Type 0 where
  pub on_fast : fast_need k hot ≤ fast
  pub need_is : need ≡ origin_need k hot
  pub blocks_are : blocks ≡ origin
  pub lacking : origin < origin_need k hot

abbrev pub LacksRoom : ℕ → List CachedBlock → ℕ → ℕ → WriteFault → Type 0
LacksRoom k hot fast origin Memory = ⊥
LacksRoom k hot fast origin Meta = ⊥
LacksRoom k hot fast origin Origin = ⊥
LacksRoom k hot fast origin Fast = ⊥
LacksRoom k hot fast origin BlockSize = ⊥
LacksRoom k hot fast origin (NoRoom need blocks) = LacksFast k hot fast need blocks ⊎ LacksOrigin k hot fast origin need blocks

abbrev pub LooksAtRoom : ℕ → List CachedBlock → ℕ → ℕ → Result (Unit {0}) WriteFault → Type 0
LooksAtRoom k hot fast origin (Ok done) = HasRoom k hot fast origin
LooksAtRoom k hot fast origin (Err fault) = LacksRoom k hot fast origin fault

-- each hot block is on the fast device, and begins on the origin
pub record Fits (k fast origin : ℕ) (hot : HotBlock) : Type 0 where
  pub on_fast : (hot.cache_block + 1) * k ≤ fast
  pub on_origin : hot.origin_block * k + 1 ≤ origin

abbrev pub AllFit : ℕ → ℕ → ℕ → List HotBlock → Type 0
AllFit k fast origin hot = All (Fits k fast origin) hot

-- the blocks that entries name
abbrev pub names : List (ℕ × Root) → List ℕ
names items = map (λ (item : ℕ × Root). item.1.0) items

-- those of the entries below a root, and of those that are left
abbrev pub tree_names : List (List ℕ) → ℕ → List ℕ
tree_names image root = names (items_below 8 root_of image 63 root)

abbrev pub names_left : List (List ℕ) → Cursor Root → List ℕ
names_left image entries = names (cursor_items 8 root_of image entries)

-- a block is marked, but for block 0 and those past the end
abbrev pub mark : List Bool → ℕ → List Bool
mark seen b = if b == 0 then seen else slice_set seen b true

unfoldable pub marks : List Bool → List ℕ → List Bool
marks seen [] = seen
marks seen (b ∷ bs) = marks (mark seen b) bs

-- the blocks that are marked, ascending
unfoldable pub seen_places : List Bool → List ℕ
seen_places seen = filter (λ b. slice_index_or seen b false) (range_with_len 0 (length seen))

-- the blocks below a number that are named
abbrev pub places_named : ℕ → List ℕ → List ℕ
places_named room bs = seen_places (marks (replicate room false) bs)

-- blocks of the metadata behind the first, in ascending order
pub record ArePlaces (blocks : ℕ) (places : List ℕ) : Type 0 where
  pub each : (i : ℕ) → i < length places → (1 ≤ slice_index places i) × (slice_index places i < blocks)
  pub ascend : (i j : ℕ) → i < j → j < length places → slice_index places i < slice_index places j

-- the root of the tree whose entries name the blocks that say what is dirty, by the version
abbrev pub dirty_root : CacheFields → ℕ
dirty_root fields = if has_dirty_bits fields.version then fields.dirty_root else fields.mapping_root
