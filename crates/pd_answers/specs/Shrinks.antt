-- Trusted base.
-- The terms of a shrink: the data blocks past a pool's new end are moved below it, and new metadata is written.
-- A pool that is made smaller: which data blocks move where, and what its devices read on the data device.
-- A pool that is made smaller, told with the leaves that its devices share: what is shared stays shared.
use Rattle.std.specs.Prelude.{◌≡◌, ℕ, ◌+◌, ◌-◌, ◌*◌, min, max, ◌==◌, ◌&&◌, nat_le, if◌then◌else◌, List, [], ◌∷◌, length, map, filter, fold, Option, Some, None, Bool, true, false, ◌≢◌, ◌⊎◌, nat_lt, not, ◌++◌, IfSome, codes, decimal}
use Rattle.std.specs.List.{list_any, find, range_with_len}
use Rattle.std.specs.Option.{option_and_then, option_map}
use Rattle.pd_kinds.specs.Graph.{block_at, data_count}
use Rattle.pd_kinds.specs.Meaning.{Mapping, ThinDevice, ThinPool, thin_meaning}
use Rattle.pd_kinds.specs.ThinFormat.{thin_graph}
use Rattle.pd_kinds.specs.declared.kind.Kind.TheVariants.{Thin}
use Rattle.pd_kinds.specs.declared.kind.Stage.TheVariants.{Counts}
use Rattle.pd_kinds.specs.Crash.{HoldsOldOrNone, HoldsSynced, IsUntouched, LeavesOnly, StillTells}
use Rattle.pd_kinds.specs.Rule.{Reported, report_of}
use Rattle.pd_kinds.specs.Stages.{faults, CanWantMemory}
use Rattle.pd_grammar.specs.Need.{mapped_data}
use Rattle.pd_grammar.specs.Lines.{reported_lines, no_room_line}
use Rattle.pd_laid.specs.Shape.{Piece, ShapeDevice, ThinShape, own, shared, pool_of, image_shape}
use Rattle.pd_answers.specs.Writebacks.{CachedBlock, blocks_each, overlaid, is_block_size_bad, HasBlocks, KeepsOthers, block_size_line, noted}
use Rattle.pd_answers.specs.Repairs.{Saved, saved_making}
use Rattle.pd_answers.specs.Terms.{Answer, Objects, reading, writing, any_reads, Terms, unnamed}
use Rattle.pd_answers.specs.Outputs.{Lays, Making, HoldsMade, IsRoom, IsWorkDone, LeavesMade}

-- how many data blocks the smaller pool has: the number that is asked for, and never more than there were
abbrev pub end_of_pool : ThinPool → ℕ → ℕ
end_of_pool m blocks = min blocks m.data_blocks

-- the data blocks of mappings that aren't below the new end, ascending
unfoldable pub sources : ThinPool → ℕ → List ℕ
sources m end = filter (λ d. nat_le end d && list_any (λ b. b == d) (mapped_data m)) (range_with_len 0 m.data_blocks)

-- the data blocks below the new end without a reference, ascending; what only the held copy of the pool uses isn't free
unfoldable pub free_blocks : List (List ℕ) → ℕ → List ℕ
free_blocks image end = filter (λ d. data_count (thin_graph (block_at image 0)) image d == 0) (range_with_len 0 end)

-- a data block that is moved to another
pub record Move : Type 0 where
  pub source : ℕ
  pub target : ℕ

-- the first source is moved to the first free block, the second to the second, and so on
abbrev pub moves_to : List ℕ → List ℕ → List Move
moves_to [] free = []
moves_to (d ∷ ds) [] = []
moves_to (d ∷ ds) (b ∷ free) = record { source = d; target = b } ∷ moves_to ds free

-- where a data block is afterwards; those that aren't moved stay
unfoldable pub moved_to : List Move → ℕ → ℕ
moved_to [] d = d
moved_to (x ∷ moves) d = if x.source == d then x.target else moved_to moves d

-- the pool with so many data blocks, whose mappings name the blocks that were moved
abbrev pub moved_mapping : List Move → Mapping → Mapping
moved_mapping moves x = record { virtual_block = x.virtual_block; data_block = moved_to moves x.data_block; time = x.time }

abbrev pub moved_device : List Move → ThinDevice → ThinDevice
moved_device moves d = record {
  id = d.id;
  mapped = d.mapped;
  transaction = d.transaction;
  created = d.created;
  snapped = d.snapped;
  mappings = map (moved_mapping moves) d.mappings;
}

unfoldable pub moved_pool : ThinPool → ℕ → List Move → ThinPool
moved_pool m end moves = record {
  uuid = m.uuid;
  time = m.time;
  transaction = m.transaction;
  block_size = m.block_size;
  data_blocks = end;
  devices = map (moved_device moves) m.devices;
}

-- the data device with each moved block copied to its place, where a data block has k blocks of 4096 bytes
abbrev pub copy_of_move : Move → CachedBlock
copy_of_move x = record { cache_block = x.source; origin_block = x.target }

unfoldable pub data_after : ℕ → List Move → List (List ℕ) → List (List ℕ)
data_after k moves held = overlaid k (map copy_of_move moves) held held

-- the data block that a device has at a virtual block, and the blocks of the data device that it reads there
abbrev pub device_with : ThinPool → ℕ → Option ThinDevice
device_with m id = find (λ (d : ThinDevice). d.id == id) m.devices

abbrev pub mapping_at : ThinDevice → ℕ → Option Mapping
mapping_at d virtual_block = find (λ (x : Mapping). x.virtual_block == virtual_block) d.mappings

unfoldable pub data_block_of : ThinPool → ℕ → ℕ → Option ℕ
data_block_of m id virtual_block =
    option_map (λ (x : Mapping). x.data_block) (option_and_then (λ d. mapping_at d virtual_block) (device_with m id))

abbrev pub blocks_of_data : ℕ → List (List ℕ) → Option ℕ → List (List ℕ)
blocks_of_data k held None = []
blocks_of_data k held (Some d) = map (block_at held) (range_with_len (d * k) k)

unfoldable pub read_at : ThinPool → List (List ℕ) → ℕ → ℕ → List (List ℕ)
read_at m held id virtual_block = blocks_of_data (blocks_each m.block_size) held (data_block_of m id virtual_block)

-- each device reads the same at each virtual block: by one pool on one data device, and by another on another
abbrev pub ReadTheSame : ThinPool → List (List ℕ) → ThinPool → List (List ℕ) → Type 0
ReadTheSame m held n others = (id virtual_block : ℕ) → read_at n others id virtual_block ≡ read_at m held id virtual_block

-- how many data blocks the smaller pool would need: those below its end that are in use, and the moved ones
abbrev pub moved_need : ThinPool → ℕ → List ℕ → ℕ
moved_need m end free = (end - length free) + length (sources m end)

-- how many blocks the data device must have so that the sources can be read
abbrev pub data_need : ℕ → List ℕ → ℕ
data_need k ds = fold max 0 (map (λ d. (d + 1) * k) ds)

-- a piece whose mappings name the blocks that were moved; a use stays, as its leaf's mappings do so
abbrev pub moved_piece : List Move → Piece → Piece
moved_piece moves (own mappings) = own (map (moved_mapping moves) mappings)
moved_piece moves (shared number) = shared number

abbrev pub moved_shape_device : List Move → ShapeDevice → ShapeDevice
moved_shape_device moves d = record {
  id = d.id;
  mapped = d.mapped;
  transaction = d.transaction;
  created = d.created;
  snapped = d.snapped;
  pieces = map (moved_piece moves) d.pieces;
}

-- the shape with so many data blocks, whose leaves and pieces name the blocks that were moved
unfoldable pub moved_shape : ThinShape → ℕ → List Move → ThinShape
moved_shape w end moves = record {
  uuid = w.uuid;
  time = w.time;
  transaction = w.transaction;
  block_size = w.block_size;
  data_blocks = end;
  leaves = map (map (moved_mapping moves)) w.leaves;
  devices = map (moved_shape_device moves) w.devices;
}

-- a sound pool, without its shared leaves or with them: what it is of an image, what it means, and what becomes of it
abbrev pub saved_whole : (is_shared : Bool) → List (List ℕ) → Saved is_shared
saved_whole false = thin_meaning
saved_whole true = image_shape

abbrev pub saved_pool : (is_shared : Bool) → Saved is_shared → ThinPool
saved_pool false = λ pool. pool
saved_pool true = pool_of

abbrev pub moved_saved : (is_shared : Bool) → Saved is_shared → ℕ → List Move → Saved is_shared
moved_saved false = moved_pool
moved_saved true = moved_shape

-- the line after the work: how many data blocks were moved
abbrev pub moved_line : ℕ → List ℕ
moved_line n = codes "moved " ++ (decimal n ++ (10 ∷ []))

-- what a shrink goes by: the pool, without its shared leaves or with them, its new number of data blocks and the free ones
-- below that, how many blocks the data device has, and how many there are for the new metadata
pub record ShrinkGround (is_shared : Bool) : Type 0 where
  pub saved : Saved is_shared
  pub end : ℕ
  pub free : List ℕ
  pub data_blocks : ℕ
  pub room : ℕ

-- what it means, what is moved, and the pool afterwards
abbrev pub pool_before : {is_shared : Bool} → ShrinkGround is_shared → ThinPool
pool_before {is_shared} ground = saved_pool is_shared ground.saved

abbrev pub moves_of : {is_shared : Bool} → ShrinkGround is_shared → List Move
moves_of ground = moves_to (sources (pool_before ground) ground.end) ground.free

abbrev pub making_after : {is_shared : Bool} → ShrinkGround is_shared → Making
making_after {is_shared} ground = saved_making is_shared (moved_saved is_shared ground.saved ground.end (moves_of ground))

-- why a pool isn't made smaller: the block size is none, or so many blocks are needed and there are so many
pub data ShrinkLack : Type 0 where
  bad_block_size : ShrinkLack
  no_room : ℕ → ℕ → ShrinkLack

abbrev pub or_lack : ℕ → ℕ → Option ShrinkLack → Option ShrinkLack
or_lack need blocks lack = if nat_lt blocks need then Some (no_room need blocks) else lack

-- the first of these: the block size, then what the smaller pool, the data device, and the output would need
unfoldable pub lack_of : {is_shared : Bool} → ShrinkGround is_shared → Option ShrinkLack
lack_of ground =
    if is_block_size_bad (pool_before ground).block_size then Some bad_block_size
    else or_lack (moved_need (pool_before ground) ground.end ground.free) ground.end
    (or_lack (data_need (blocks_each (pool_before ground).block_size) (sources (pool_before ground) ground.end)) ground.data_blocks
    (or_lack ((making_after ground).need ground.room) ground.room None))

-- what a shrink finds: the report of the check before it, and what it goes by
pub record ShrinkFound (is_shared : Bool) : Type 0 where
  pub report : Reported
  pub ground : ShrinkGround is_shared

-- what it goes by is that of an image
pub record IsGroundOf {is_shared : Bool} (image : List (List ℕ)) (blocks : ℕ) (ground : ShrinkGround is_shared) : Type 0 where
  pub saved : ground.saved ≡ saved_whole is_shared image
  pub end : ground.end ≡ end_of_pool (pool_before ground) blocks
  pub free : ground.free ≡ free_blocks image ground.end

-- what it finds is right
pub record FindsShrink {is_shared : Bool} (blocks : ℕ) (before after : Objects) (found : ShrinkFound is_shared) : Type 0 where
  pub pool_device : HasBlocks before.third after.third found.ground.data_blocks
  pub output : IsRoom before.output after.output found.ground.room
  pub told : IfSome before.input.held (λ image. (found.report ≡ report_of (faults Thin Counts image)) × IsGroundOf image blocks found.ground)

-- a shrink puts a line with the number of moved blocks after its work; else why it made nothing, to `notes`
abbrev pub answer_to : {is_shared : Bool} → Option ShrinkLack → ShrinkGround is_shared → Answer
answer_to None ground = record { status = 0; out = moved_line (length (sources (pool_before ground) ground.end)); notes = [] }
answer_to (Some bad_block_size) ground = noted 1 block_size_line
answer_to (Some (no_room need blocks)) ground = noted 4 (no_room_line need blocks)

-- before that stands the report of metadata with faults
abbrev pub shrink_answer : {is_shared : Bool} → ShrinkFound is_shared → Answer
shrink_answer found =
    if not (found.report.total == 0) then noted 1 (reported_lines found.report)
    else answer_to (lack_of found.ground) found.ground

-- the smaller pool is laid, where nothing is refused
abbrev pub LaysShrunk : {is_shared : Bool} → ShrinkFound is_shared → List (List ℕ) → List (List ℕ) → Type 0
LaysShrunk found = Lays (shrink_answer found) (making_after found.ground) found.ground.room

-- what a shrink leaves of the output and of the data device; the input isn't written
pub record LeavesShrunk {is_shared : Bool} (found : ShrinkFound is_shared) (before after : Objects) (status : ℕ) : Type 0 where
  -- under every status, the data device tells what it holds, where it told that before, and a crash at any moment of the call
  -- leaves it as it was but for the targets
  pub copies_told : StillTells before.third after.third
  pub copies : IfSome before.third.held (λ held. LeavesOnly
      (λ image firsts. KeepsOthers (blocks_each (pool_before found.ground).block_size) (map copy_of_move (moves_of found.ground)) held image) before.third after.third)
  -- and it leaves the output as it was, with the smaller pool, or without a valid superblock
  pub output : LeavesMade (LaysShrunk found) (not ((shrink_answer found).status == 0)) status before.output after.output
  -- the output isn't written before a crash leaves all of the moved blocks in their places
  pub order : IfSome before.third.held (λ held. IsUntouched before.output after.output
      ⊎ HoldsSynced (data_after (blocks_each (pool_before found.ground).block_size) (moves_of found.ground) held) after.third)
  -- once the work is done a crash from then on leaves them so, and the output holds the smaller pool, also where the line
  -- couldn't be put after that
  pub moved : IsWorkDone before after status → IfSome before.third.held (λ held. HoldsSynced (data_after (blocks_each (pool_before found.ground).block_size) (moves_of found.ground) held) after.third)
  pub made : IsWorkDone before after status → HoldsMade (LaysShrunk found) before.output after.output
  -- what is refused leaves both alone, and where nothing is moved the data device is left alone
  pub refused : (shrink_answer found).status ≢ 0 → IsUntouched before.output after.output × IsUntouched before.third after.third
  pub nothing_moved : sources (pool_before found.ground) found.ground.end ≡ [] → IsUntouched before.third after.third
  -- while `out` isn't touched, at any status but 0 the output is as it was, or has no valid superblock, unless it failed itself
  pub kept : status ≢ 0 → after.out ≡ before.out → after.output.faults ≡ before.output.faults → HoldsOldOrNone before.output after.output
  -- the data device is written before the output, and the input is read before either: a fault of one leaves the later ones alone
  pub output_spared : status ≡ 5 → after.output.faults ≡ before.output.faults → IsUntouched before.output after.output
  pub data_spared : status ≡ 5 → after.output.faults ≡ before.output.faults → after.third.faults ≡ before.third.faults → IsUntouched before.third after.third

-- a shrink, with shared leaves or without, reads the metadata, writes new metadata to the output, and reads and writes the data
-- device
abbrev pub shrink : Bool → List ℕ → List ℕ → List ℕ → ℕ → Terms
shrink is_shared metadata output pool blocks = record {
  uses = record unnamed { out = reading []; input = reading metadata; output = writing output; third = writing pool };
  Finding = ShrinkFound is_shared;
  finds = FindsShrink blocks;
  answer = shrink_answer;
  statuses = 0 ∷ 1 ∷ 4 ∷ 5 ∷ 7 ∷ [];
  memory = λ before. CanWantMemory Thin Counts before.input.held;
  silent = 1 ∷ 4 ∷ 5 ∷ 7 ∷ [];
  spared = λ found. (shrink_answer found).status ≢ 0;
  reads = any_reads;
  leaves = LeavesShrunk;
}
