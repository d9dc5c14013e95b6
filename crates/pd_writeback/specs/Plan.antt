-- What a plan is, and of what.
-- The hot blocks of a cache, as a plan keeps them.
-- When a call that reads the metadata alone fails.
use Rattle.std.specs.Prelude.{ℕ, ◌%◌, Bool, ◌==◌, ◌||◌, not, if◌then◌else◌, List, [], ◌∷◌, ◌++◌, map, ◌≡◌, true, false, Option, Result, Ok, Err, IfSome, ◌≤◌}
use Rattle.std.specs.List.{list_any}
use Rattle.std.specs.List.Sorted.{IsPermutation}
use Rattle.pd_kinds.specs.CacheFormat.{CacheFields, cache_fields}
use Rattle.pd_kinds.specs.Graph.{block_at}
use Rattle.pd_kinds.specs.Meaning.{cache_meaning}
use Rattle.pd_kinds.specs.Objects.{Rose}
use Rattle.pd_answers.specs.Writebacks.{CachedBlock, blocks_each, dirty_places, hot_blocks, is_block_size_bad}
use Rattle.pd_meaning_cache.specs.declared.cache_rows.CacheRow.{CacheRow}
use Rattle.pd_writeback.specs.declared.hot.HotBlock.{HotBlock}
use Rattle.pd_writeback.specs.declared.making.WriteFault.{WriteFault}
use Rattle.pd_writeback.specs.declared.making.WriteFault.TheVariants.{Memory, Meta, Origin, Fast, BlockSize, NoRoom}
use Rattle.pd_writeback.specs.declared.plan.Plan.{Plan}
use Rattle.pd_writeback.specs.Room.{HasRoom, LacksRoom}

-- as a cached block of the definitions
abbrev pub cached_of_hot : HotBlock → CachedBlock
cached_of_hot hot = record { cache_block = hot.cache_block; origin_block = hot.origin_block }

abbrev pub cached_all : List HotBlock → List CachedBlock
cached_all hot = map cached_of_hot hot

-- a block, where it is hot
abbrev pub hot_one : Bool → ℕ → ℕ → List CachedBlock
hot_one is_hot cache_block origin_block = if is_hot then record { cache_block = cache_block; origin_block = origin_block } ∷ [] else []

-- the hot ones among rows, by whether the cache was shut down
unfoldable pub hot_rows : Bool → List CacheRow → List CachedBlock
hot_rows clean [] = []
hot_rows clean (row ∷ rows) = hot_one (row.dirty || not clean) row.block row.origin ++ hot_rows clean rows

-- whether a cache was shut down
abbrev pub is_clean : CacheFields → Bool
is_clean fields = fields.flags % 2 == 1

-- the hot blocks of a plan, and how many blocks of 4096 bytes each has
abbrev pub plan_hot : Plan → List CachedBlock
plan_hot plan = cached_all plan.hot.items

abbrev pub plan_each : Plan → ℕ
plan_each plan = plan.each

-- it is a plan of this image: the superblock is its, the hot blocks are, in another order, and the places are those of
-- the blocks that say what is dirty
pub record IsPlanOf (image : List (List ℕ)) (plan : Plan) : Type 0 where
  pub super_block : plan.super_block.value.0 ≡ block_at image 0
  pub version : plan.version ≡ (cache_fields (block_at image 0)).version
  pub each : plan.each ≡ blocks_each (cache_meaning image).block_size
  pub hot : IsPermutation (hot_blocks (cache_meaning image)) (plan_hot plan)
  pub places : (b : ℕ) → list_any (λ place. place == b) plan.places.items ≡ list_any (λ place. place == b) (dirty_places image)

-- what is found of the metadata: the block size in sectors, and what is hot
pub record IsFound (held : Option (List (List ℕ))) (block_size : ℕ) (hot : List CachedBlock) : Type 0 where
  pub told : IfSome held (λ image. (block_size ≡ (cache_meaning image).block_size) × (hot ≡ hot_blocks (cache_meaning image)))

-- a plan was made of this, with devices of so many blocks
pub record IsMade (held : Option (List (List ℕ))) (meta origin fast block_size : ℕ) (hot : List CachedBlock) (plan : Plan) : Type 0 where
  pub found : IsFound held block_size hot
  pub whole : is_block_size_bad block_size ≡ false
  pub room : HasRoom (blocks_each block_size) hot fast origin
  pub each : plan_each plan ≡ blocks_each block_size
  pub same : IsPermutation hot (plan_hot plan)
  pub of : IfSome held (λ image. IsPlanOf image plan)
  pub meta_blocks : plan.meta_blocks ≡ meta
  pub origin_blocks : plan.origin_blocks ≡ origin
  pub fast_blocks : plan.fast_blocks ≡ fast

-- there is no whole number of blocks in a block of the cache
pub record HasBadSize (held : Option (List (List ℕ))) (block_size : ℕ) (hot : List CachedBlock) : Type 0 where
  pub found : IsFound held block_size hot
  pub bad : is_block_size_bad block_size ≡ true

-- there is no room
pub record HasNoRoom (held : Option (List (List ℕ))) (origin fast : ℕ) (fault : WriteFault) (block_size : ℕ) (hot : List CachedBlock) : Type 0 where
  pub found : IsFound held block_size hot
  pub whole : is_block_size_bad block_size ≡ false
  pub lacks : LacksRoom (blocks_each block_size) hot fast origin fault

abbrev pub IsUnplanned : Option (List (List ℕ)) → ℕ → ℕ → WriteFault → Type 0
IsUnplanned held origin fast Memory = Unit {0}
IsUnplanned held origin fast Meta = Unit {0}
IsUnplanned held origin fast Origin = ⊥
IsUnplanned held origin fast Fast = ⊥
IsUnplanned held origin fast BlockSize = (block_size : ℕ) × (hot : List CachedBlock) × HasBadSize held block_size hot
IsUnplanned held origin fast (NoRoom need blocks) = (block_size : ℕ) × (hot : List CachedBlock) × HasNoRoom held origin fast (NoRoom need blocks) block_size hot

-- what the making of a plan answers
abbrev pub Plans : Option (List (List ℕ)) → ℕ → ℕ → ℕ → Result Plan WriteFault → Type 0
Plans held meta origin fast (Ok plan) = (block_size : ℕ) × (hot : List CachedBlock) × IsMade held meta origin fast block_size hot plan
Plans held meta origin fast (Err fault) = IsUnplanned held origin fast fault

-- memory was wanting, or the device's count of faults rose
abbrev pub IsOfMeta : WriteFault → ℕ → ℕ → Type 0
IsOfMeta Memory old new = new ≡ old
IsOfMeta Meta old new = Rose old new × (old ≤ new)
IsOfMeta Origin old new = ⊥
IsOfMeta Fast old new = ⊥
IsOfMeta BlockSize old new = ⊥
IsOfMeta (NoRoom need blocks) old new = ⊥

abbrev pub CountsMeta : {T : Type 0} → Result T WriteFault → ℕ → ℕ → Type 0
CountsMeta (Ok done) old new = new ≡ old
CountsMeta (Err fault) old new = IsOfMeta fault old new

-- the origin or the fast device failed
abbrev pub IsOfCopy : WriteFault → ℕ → ℕ → ℕ → ℕ → Type 0
IsOfCopy Memory origin origin' fast fast' = ⊥
IsOfCopy Meta origin origin' fast fast' = ⊥
IsOfCopy Origin origin origin' fast fast' = (Rose origin origin' × (origin ≤ origin')) × (fast' ≡ fast)
IsOfCopy Fast origin origin' fast fast' = (origin' ≡ origin) × (Rose fast fast' × (fast ≤ fast'))
IsOfCopy BlockSize origin origin' fast fast' = ⊥
IsOfCopy (NoRoom need blocks) origin origin' fast fast' = ⊥

abbrev pub CountsCopies : {T : Type 0} → Result T WriteFault → ℕ → ℕ → ℕ → ℕ → Type 0
CountsCopies (Ok done) origin origin' fast fast' = (origin' ≡ origin) × (fast' ≡ fast)
CountsCopies (Err fault) origin origin' fast fast' = IsOfCopy fault origin origin' fast fast'

-- the making of a plan fails by the metadata, or since it has an answer that is none
abbrev pub IsOfPlanning : WriteFault → ℕ → ℕ → Type 0
IsOfPlanning Memory old new = new ≡ old
IsOfPlanning Meta old new = Rose old new × (old ≤ new)
IsOfPlanning Origin old new = ⊥
IsOfPlanning Fast old new = ⊥
IsOfPlanning BlockSize old new = new ≡ old
IsOfPlanning (NoRoom need blocks) old new = new ≡ old

abbrev pub CountsPlanning : {T : Type 0} → Result T WriteFault → ℕ → ℕ → Type 0
CountsPlanning (Ok done) old new = new ≡ old
CountsPlanning (Err fault) old new = IsOfPlanning fault old new

-- the marking fails by the metadata's device alone
abbrev pub IsOfMarking : WriteFault → ℕ → ℕ → Type 0
IsOfMarking Memory old new = ⊥
IsOfMarking Meta old new = Rose old new × (old ≤ new)
IsOfMarking Origin old new = ⊥
IsOfMarking Fast old new = ⊥
IsOfMarking BlockSize old new = ⊥
IsOfMarking (NoRoom need blocks) old new = ⊥

abbrev pub CountsMarking : {T : Type 0} → Result T WriteFault → ℕ → ℕ → Type 0
CountsMarking (Ok done) old new = new ≡ old
CountsMarking (Err fault) old new = IsOfMarking fault old new
