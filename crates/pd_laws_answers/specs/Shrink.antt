-- Trusted base.
-- What a shrink leaves, where the devices tell what they hold.
use Rattle.std.specs.Prelude.{◌≡◌, ◌⊎◌, ℕ, ◌*◌, min, Bool, List, map, take, Some, IfSome}
use Rattle.pd_kinds.specs.declared.kind.Kind.TheVariants.{Thin}
use Rattle.pd_kinds.specs.Crash.{HoldsSynced, IsOldNoneOrMade, IsSynced, IsUntouched, LeavesOnly, may_leave, moment}
use Rattle.pd_kinds.specs.Image.{IsImage}
use Rattle.pd_kinds.specs.Meaning.{Mapping, ThinDevice, ThinPool, thin_meaning}
use Rattle.pd_kinds.specs.Stages.{IsClean}
use Rattle.pd_laid.specs.Shape.{ThinShape, image_shape}
use Rattle.pd_answers.specs.Terms.{Objects, IsAnswered}
use Rattle.pd_answers.specs.Writebacks.{blocks_each}
use Rattle.pd_answers.specs.Shrinks.{Move, ReadTheSame, end_of_pool, free_blocks, moved_pool, moves_to, sources, moved_shape}
use Rattle.pd_answers.specs.Promises.{terms_of}
use Rattle.pd_answers.specs.declared.request.Request.TheVariants.{Shrink}
use Rattle.pd_laws_answers.specs.Saved.{KeepsShape}

-- a shrink was asked, with the leaves that devices share or without, by the paths of the metadata, the output and the data device and by
-- the number of data blocks that are to be left, and was answered with this status
abbrev pub IsShrinkAnswered : Bool → List ℕ → List ℕ → List ℕ → ℕ → Objects → Objects → ℕ → Type 0
IsShrinkAnswered is_shared metadata output pool blocks = IsAnswered (terms_of (Some (Shrink is_shared metadata output pool blocks)))

-- a pool without what a shrink changes: how many data blocks it has, and which of them each mapping leads to
abbrev pub without_place : Mapping → Mapping
without_place x = record x { data_block = 0 }

abbrev pub without_places_of : ThinDevice → ThinDevice
without_places_of d = record d { mappings = map without_place d.mappings }

abbrev pub without_places : ThinPool → ThinPool
without_places m = record m { data_blocks = 0; devices = map without_places_of m.devices }

-- the front of a data device that so many data blocks of the pool take
abbrev pub front_of_data : ThinPool → List (List ℕ) → List (List ℕ)
front_of_data m held = take (m.data_blocks * blocks_each m.block_size) held

-- The smaller pool that a shrink leaves of another one, by its metadata and by what the data device then holds: it is clean, it has at
-- most so many data blocks, and the same devices with the same details and virtual blocks. Each device reads what it read, also where
-- the data device is cut to the smaller pool's data blocks
pub record IsShrunk (blocks : ℕ) (image held smaller left : List (List ℕ)) : Type 0 where
  pub clean : IsClean Thin smaller
  pub size : (thin_meaning smaller).data_blocks ≡ min blocks (thin_meaning image).data_blocks
  pub same : without_places (thin_meaning smaller) ≡ without_places (thin_meaning image)
  pub reads : ReadTheSame (thin_meaning image) held (thin_meaning smaller) left
  pub cut : ReadTheSame (thin_meaning image) held (thin_meaning smaller) (front_of_data (thin_meaning smaller) left)

-- what is moved where a pool is to have at most so many data blocks, by its metadata
abbrev pub moves_in : ℕ → List (List ℕ) → List Move
moves_in blocks image =
    let end = end_of_pool (thin_meaning image) blocks in
    moves_to (sources (thin_meaning image) end) (free_blocks image end)

-- the pool afterwards, and its shape: the same devices share the same leaves, whose mappings name the blocks that were moved
abbrev pub pool_left : ℕ → List (List ℕ) → ThinPool
pool_left blocks image = moved_pool (thin_meaning image) (end_of_pool (thin_meaning image) blocks) (moves_in blocks image)

abbrev pub shape_left : ℕ → List (List ℕ) → ThinShape
shape_left blocks image = moved_shape (image_shape image) (end_of_pool (thin_meaning image) blocks) (moves_in blocks image)

-- the smaller pool keeps the sharing: it is clean and means the moved pool, and its devices share the leaves that they shared before,
-- each of which is told once
abbrev pub KeepsSharing : ℕ → List (List ℕ) → List (List ℕ) → Type 0
KeepsSharing blocks image smaller = KeepsShape smaller (pool_left blocks image) (shape_left blocks image)

-- the output holds such a pool, and nothing of it is unsynced
abbrev pub HoldsSharing : ℕ → Objects → Objects → Type 0
HoldsSharing blocks before after =
    IfSome before.input.held (λ image. IsImage image → IfSome before.output.held (λ base.
    IfSome after.output.held (λ smaller. KeepsSharing blocks image smaller × HoldsSynced smaller after.output)))

-- a crash at any moment leaves of it, by no chance, the old image, no valid superblock, or such a pool
abbrev pub LeavesSharing : ℕ → Objects → Objects → Type 0
LeavesSharing blocks before after =
    IfSome before.input.held (λ image. IsImage image → IfSome before.output.held (λ base.
    LeavesOnly (IsOldNoneOrMade base (KeepsSharing blocks image)) before.output after.output))

-- the metadata and the data device told what they hold
abbrev pub BothTold : Objects → (List (List ℕ) → List (List ℕ) → Type 0) → Type 0
BothTold before P = IfSome before.input.held (λ image. IfSome before.third.held (P image))

-- the output and the data device hold such a pool, and nothing of it is unsynced
abbrev pub HoldsShrunk : ℕ → Objects → Objects → Type 0
HoldsShrunk blocks before after =
    BothTold before (λ image held. IsImage image → IfSome before.output.held (λ base.
    IfSome after.output.held (λ smaller. IfSome after.third.held (λ left.
    IsShrunk blocks image held smaller left × HoldsSynced smaller after.output × HoldsSynced left after.third))))

-- the data device holds, with nothing unsynced, what a crash at any moment may leave smaller metadata of: that of the output is by no
-- chance anything but what it was, no valid superblock, or a smaller pool that reads the same there
pub record AreMoved (blocks : ℕ) (image held left : List (List ℕ)) (before after : Objects) : Type 0 where
  pub synced : HoldsSynced left after.third
  pub output_left : IfSome before.output.held (λ base.
      LeavesOnly (IsOldNoneOrMade base (λ smaller. IsShrunk blocks image held smaller left)) before.output after.output)

-- what a crash at any moment of a shrink leaves
pub record KeepsReads (blocks : ℕ) (image held : List (List ℕ)) (before after : Objects) : Type 0 where
  -- the old metadata isn't written, and each device reads by it what it read, on what is left of the data device
  pub metadata : IsUntouched before.input after.input
  pub data_left : LeavesOnly (λ left firsts. ReadTheSame (thin_meaning image) held (thin_meaning image) left) before.third after.third
  -- the output isn't written before the moved blocks are in their places
  pub order : IsUntouched before.output after.output
      ⊎ IfSome after.third.held (λ left. AreMoved blocks image held left before after)
  -- a crash of both at the call's end leaves of an output of which nothing was unsynced, by no chance, what it was, no valid
  -- superblock, or a smaller pool that reads the same on what is left of the data device
  pub together : IsSynced before.output → (smaller firsts left others : List (List ℕ)) → may_leave after.output (moment after.output) smaller firsts
      → may_leave after.third (moment after.third) left others
      → IfSome before.output.held (λ base. IsOldNoneOrMade base (λ made. IsShrunk blocks image held made left) smaller firsts)

abbrev pub LeavesReads : ℕ → Objects → Objects → Type 0
LeavesReads blocks before after = BothTold before (λ image held. IsImage image → KeepsReads blocks image held before after)
