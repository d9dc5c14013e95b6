-- What is known of the blocks of a mapping array that were met, and what is left of them.
-- What is known of the origins of blocks that were met.
-- The memory in which the rules of a whole cache are looked at.
use Rattle.std.specs.Prelude.{◌≡◌, ℕ, ◌==◌, nat_lt, if◌then◌else◌, Bool, List, ◌++◌, length, slice_index_or, Option, None, Some, ◌<◌, ◌≤◌, ◌||◌, true, false, [], map, is_some}
use Rattle.pd_kinds.specs.Graph.{block_at, Graph}
use Rattle.pd_kinds.specs.Whole.{has_repeat}
use Rattle.pd_kinds.specs.declared.limits.TheConstants.{MAX_META_BLOCKS}
use Rattle.pd_value.specs.declared.thin.Root.{Root}
use Rattle.pd_graph.specs.declared.audit.Audit.{Audit}
use Rattle.pd_graph.specs.Audit.{blocks_of, roles_at}
use Rattle.pd_graph.specs.Marks.{has_bit}
use Rattle.pd_tree.specs.declared.cursor.Cursor.{Cursor}
use Rattle.pd_tree.specs.Cursor.{cursor_items, root_of}
use Rattle.pd_check.specs.Arrays.{number_where, places_of as marks_of}
use Rattle.pd_meaning_cache.specs.OriginSet.{AreAdded, count_of}
use Rattle.pd_cache.specs.declared.origins.Origins.{Origins}
use Rattle.pd_cache.specs.Words.{block_origins, origins_in}
use Rattle.pd_cache.specs.declared.room.CacheMemory.{CacheMemory}

-- of each block that was met whether it has a valid word, and whether such a block was met again
abbrev pub seen_at : Origins → ℕ → Option Bool
seen_at origins b = slice_index_or origins.seen.items b None

abbrev pub is_again : Origins → Bool
is_again origins = origins.again

-- how many blocks there are
abbrev pub places_of : Origins → ℕ
places_of origins = length origins.seen.items

-- a block was met for the first time
pub record AddsBlock (b : ℕ) (added : List ℕ) (old new : Origins) : Type 0 where
  pub met : (os : List ℕ) → AreAdded os old.met → AreAdded (os ++ added) new.met
  pub seen : (c : ℕ) → seen_at new c ≡ (if c == b then Some (nat_lt 0 (length added)) else seen_at old c)
  pub again : is_again new ≡ is_again old
  pub places : places_of new ≡ places_of old

-- a block that was met before: its origins are among those of the blocks, and whether it has any
pub record IsSeen (image : List (List ℕ)) (blocks : List ℕ) (b : ℕ) (valid : Bool) : Type 0 where
  pub among : (x : ℕ) → count_of x (block_origins (block_at image b)) ≤ count_of x (origins_in image blocks)
  pub some : valid ≡ nat_lt 0 (length (block_origins (block_at image b)))

-- these blocks were met, one after another: an origin came twice exactly where a block with a valid word was met again
-- or two origins that were added are equal, and each origin was added
pub record AreMet (image : List (List ℕ)) (blocks : List ℕ) (origins : Origins) : Type 0 where
  pub met : List ℕ
  pub added : AreAdded met origins.met
  pub repeats : has_repeat (origins_in image blocks) ≡ (is_again origins || has_repeat met)
  pub kept : (x : ℕ) → 1 ≤ count_of x (origins_in image blocks) → 1 ≤ count_of x met
  pub only : (x : ℕ) → count_of x met ≤ count_of x (origins_in image blocks)
  pub seen : (b : ℕ) (valid : Bool) → seen_at origins b ≡ Some valid → IsSeen image blocks b valid

-- no block was met
pub record IsFresh (origins : Origins) : Type 0 where
  pub added : AreAdded [] origins.met
  pub seen : (b : ℕ) → seen_at origins b ≡ None
  pub again : is_again origins ≡ false

-- some of the blocks were met, and these are left
pub record IsPartMet (image : List (List ℕ)) (all left : List ℕ) (origins : Origins) : Type 0 where
  pub blocks : List ℕ
  pub parts : all ≡ blocks ++ left
  pub met : AreMet image blocks origins

-- a block that the walk met as one of the mapping array, in role 2
pub record IsMapBlock (audit : Audit) (b : ℕ) : Type 0 where
  pub within : b < blocks_of audit
  pub met : has_bit (roles_at audit b) 2 ≡ true

-- only such blocks were met
pub record AreMapBlocks (audit : Audit) (origins : Origins) : Type 0 where
  pub each : (b : ℕ) → is_some (seen_at origins b) ≡ true → has_bit (roles_at audit b) 2 ≡ true

-- how many were
abbrev pub seen_number : Origins → ℕ
seen_number origins = number_where (λ b. is_some (seen_at origins b)) (places_of origins)

-- the blocks that are left
abbrev pub blocks_named : List (ℕ × Root) → List ℕ
blocks_named items = map (λ (item : ℕ × Root). item.1.0) items

abbrev pub blocks_left : List (List ℕ) → Cursor Root → List ℕ
blocks_left image entries = blocks_named (cursor_items 8 root_of image entries)

-- it is that of so many metadata blocks, and nothing was met yet
pub record IsRoomFor (nr : ℕ) (room : CacheMemory) : Type 0 where
  pub marks : marks_of room.arrays.marks ≡ nr
  pub origins : places_of room.origins ≡ nr
  pub fresh : IsFresh room.origins

-- it is that of a cache's format, where there may be so many
pub record HasRoom (room : CacheMemory) (graph : Graph) : Type 0 where
  pub roles : graph.roles ≡ 12
  pub is : graph.nr ≤ MAX_META_BLOCKS → IsRoomFor graph.nr room
