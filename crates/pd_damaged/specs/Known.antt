-- What is known of the blocks, and what of it is right.
use Rattle.std.specs.Prelude.{◌≡◌, ◌⊎◌, ℕ, zero, suc, ◌<◌, ◌≤◌, ◌||◌, Bool, true, false, if◌then◌else◌, List, slice_index_or, fold, Option, Some, None, IfSome, IsSome}
use Rattle.std.specs.List.{range_with_len}
use Rattle.pd_kinds.specs.Graph.{block_at, is_outside}
use Rattle.pd_kinds.specs.Node.{child_at, entry_count, is_inner_node}
use Rattle.pd_laid.specs.Salvage.{is_damaged}
use Rattle.pd_graph.specs.Marks.{values_of}
use Rattle.pd_salvage.specs.declared.way.Range.{Range}
use Rattle.pd_salvage.specs.Range.{all_keys, child_range}
use Rattle.pd_damaged.specs.Kept.{join, kept_below, measure_of, no_kept}
use Rattle.pd_damaged.specs.declared.kept.Kept.{Kept}
use Rattle.pd_damaged.specs.declared.known.Known.{Known}
use Rattle.pd_damaged.specs.declared.table.KnownTable.{KnownTable}
use Rattle.pd_damaged.specs.declared.remains.Remains.{Remains}

-- a salvage keeps nothing below a block outside the metadata, or a damaged one
abbrev pub is_lost : ℕ → List (List ℕ) → ℕ → Bool
is_lost nr image b = is_outside nr b || is_damaged 8 b (block_at image b)

-- each path from a block has at most so many nodes before it ends at a leaf, or where nothing is kept
unfoldable pub IsLow : ℕ → List (List ℕ) → ℕ → ℕ → Type 0
IsLow nr image zero b = is_lost nr image b ≡ true
IsLow nr image (suc h) b =
    (is_lost nr image b ≡ true)
    ⊎ ((is_inner_node (block_at image b) ≡ false)
    ⊎ ((i : ℕ) → i < entry_count 8 (block_at image b) → IsLow nr image h (child_at (block_at image b) i)))

-- what is known of a block is right
pub record IsKnownOf (nr data_blocks : ℕ) (image : List (List ℕ)) (b : ℕ) (known : Known) : Type 0 where
  pub low : IsLow nr image known.height b
  pub least : (h : ℕ) → IsLow nr image h b → known.height ≤ h
  pub few : known.height ≤ 64
  pub kept : known.kept ≡ measure_of (kept_below nr data_blocks image b)

-- nothing is kept below a block
abbrev pub nothing_known : Known
nothing_known = record { height = 0; kept = no_kept }

-- what a table has of a block, and what is known of it by that: nothing is kept below one outside
abbrev pub note_at : KnownTable → ℕ → Option Known
note_at table b = slice_index_or (values_of table.known) b None

abbrev pub known_at : KnownTable → ℕ → Option Known
known_at table b = if is_outside table.nr b then Some nothing_known else note_at table b

-- what is known of each block is right
pub record AreKnown (image : List (List ℕ)) (table : KnownTable) : Type 0 where
  pub each : (b : ℕ) → IfSome (known_at table b) (IsKnownOf table.nr table.data_blocks image b)

abbrev pub AreRight : List (List ℕ) → Remains → Type 0
AreRight image remains = AreKnown image remains.table

-- the number of metadata blocks, and of data blocks
abbrev pub meta_blocks_of : Remains → ℕ
meta_blocks_of remains = remains.table.nr

abbrev pub data_blocks_of : Remains → ℕ
data_blocks_of remains = remains.table.data_blocks

-- what is known of the blocks stays
abbrev pub KnowsTheSame : Remains → Remains → Type 0
KnowsTheSame old new = new.table ≡ old.table

-- the measure of what is kept, and that of nothing where it isn't known
abbrev pub kept_of : Option Known → Kept
kept_of None = no_kept
kept_of (Some known) = known.kept

abbrev pub kept_at : KnownTable → ℕ → Kept
kept_at table b = kept_of (known_at table b)

-- the measures below the first children of a node, joined
abbrev pub joined_kept : KnownTable → List ℕ → ℕ → Kept
joined_kept table block n = fold (λ (sum : Kept) (i : ℕ). join sum (kept_at table (child_at block i))) no_kept (range_with_len 0 n)

-- the height of a block is known, and below a number
abbrev pub IsUnder : ℕ → Option Known → Type 0
IsUnder height None = ⊥
IsUnder height (Some known) = known.height < height

-- the height of a node that has one by some of its children, with a child besides
pub record IsOver (height : ℕ) (child : Option Known) (over : ℕ) : Type 0 where
  pub from : height ≤ over
  pub few : over ≤ 64
  pub above : IsUnder over child
  pub least : (h : ℕ) → height ≤ h → IsUnder h child → over ≤ h

-- the heights of the first children of a node are known, and below a number
abbrev pub AreUnder : ℕ → KnownTable → List ℕ → ℕ → Type 0
AreUnder height table block n = (i : ℕ) → i < n → IsUnder height (known_at table (child_at block i))

-- the height of a node by those of its first children
pub record IsHeightOf (table : KnownTable) (block : List ℕ) (n height : ℕ) : Type 0 where
  pub some : 1 ≤ height
  pub few : height ≤ 64
  pub above : AreUnder height table block n
  pub least : (h : ℕ) → 1 ≤ h → AreUnder h table block n → height ≤ h

-- the keys of what is kept lie in a range
pub record LiesIn (range : Range) (kept : Kept) : Type 0 where
  pub low : range.low ≤ kept.least
  pub high : kept.greatest < range.high

-- those below the first children of a node lie where the node looks for them
pub record LieInRange (table : KnownTable) (block : List ℕ) (n : ℕ) : Type 0 where
  pub each : (i : ℕ) → i < n → LiesIn (child_range 8 block all_keys i) (kept_at table (child_at block i))

-- each block is known from which every path has less than so many nodes
pub record KnowsBelow (image : List (List ℕ)) (height : ℕ) (table : KnownTable) : Type 0 where
  pub each : (b h : ℕ) → h < height → IsLow table.nr image h b → IsSome (known_at table b)

-- each block is known but for those on a cycle and above one, and those with a path of more than 64 nodes
abbrev pub KnowsLow : List (List ℕ) → Remains → Type 0
KnowsLow image remains = KnowsBelow image 65 remains.table

-- a block is known
abbrev pub Knows : Remains → ℕ → Type 0
Knows remains b = IsSome (known_at remains.table b)

-- a low block that was looked at is known, if all lower ones were
abbrev pub IsLookedAt : List (List ℕ) → Remains → Remains → ℕ → Type 0
IsLookedAt image old new b =
    (h : ℕ) → h ≤ 64 → IsLow old.table.nr image h b → KnowsBelow image h old.table → Knows new b

-- so far those before a block
pub record AreLookedAt (image : List (List ℕ)) (old new : Remains) (before : ℕ) : Type 0 where
  pub each : (b : ℕ) → b < before → IsLookedAt image old new b
