-- How the plan of a shrink is made.
-- Data blocks in rows: those of runs past the end of a smaller pool.
use Rattle.std.specs.Prelude.{◌≡◌, ℕ, ◌+◌, ◌-◌, ◌^◌, ◌≤◌, ◌<◌, Bool, List, [], length, Option, Some, None, Result, Ok, Err, IfSome, max, nat_le, nat_lt, ◌&&◌, if◌then◌else◌, ◌∷◌, ◌++◌}
use Rattle.std.specs.List.{AllByRecursion, flat_map, list_any, range_with_len}
use Rattle.pd_kinds.specs.declared.kind.Kind.TheVariants.{Thin}
use Rattle.pd_kinds.specs.declared.kind.Stage.TheVariants.{Counts}
use Rattle.pd_kinds.specs.declared.superblocks.SmRoot.{SmRoot}
use Rattle.pd_kinds.specs.Graph.{block_at}
use Rattle.pd_kinds.specs.Image.{room_of}
use Rattle.pd_kinds.specs.Meaning.{ThinPool}
use Rattle.pd_kinds.specs.Stages.{faults}
use Rattle.pd_kinds.specs.ThinFormat.{ThinFields, thin_fields}
use Rattle.pd_answers.specs.Shrinks.{data_need, free_blocks, moves_to, sources, saved_whole, ShrinkLack, no_room, or_lack}
use Rattle.pd_answers.specs.Repairs.{Saved, saved_making}
use Rattle.pd_meaning_thin.specs.declared.joined.Run.{Run}
use Rattle.pd_shrink.specs.declared.making.ShrinkFault.{ShrinkFault}
use Rattle.pd_shrink.specs.declared.making.ShrinkFault.TheVariants.{Memory, Meta, Output, BlockSize, NoRoom}
use Rattle.pd_shrink.specs.declared.kept.Kept.{Kept}
use Rattle.pd_shrink.specs.declared.moves.MovedBlock.{MovedBlock}
use Rattle.pd_shrink.specs.declared.plan.Shrink.{Shrink}
use Rattle.pd_shrink.specs.Kept.{IsKept, saved_in, shared_of}
use Rattle.pd_shrink.specs.Moves.{AreOnce, IsAcross, moves_in, AreMovesOf}
use Rattle.pd_shrink.specs.declared.sources.Span.{Span}

-- the numbers of a superblock that breaks no rule, on a device of so many blocks
pub record FitsDevice (blocks : ℕ) (s : ThinFields) : Type 0 where
  pub some : 1 ≤ s.meta_map.blocks
  pub within : s.meta_map.blocks ≤ blocks
  pub few : s.meta_map.blocks ≤ 4161600
  pub few_data : s.data_map.blocks ≤ 2 ^ 40
  pub index : s.data_map.bitmap_root < blocks
  pub overflow : s.data_map.overflow_root < blocks

-- an image without faults whose superblock has these fields
pub record IsSoundWith (s : ThinFields) (image : List (List ℕ)) : Type 0 where
  pub none : faults Thin Counts image ≡ []
  pub fields : s ≡ thin_fields (block_at image 0)

-- an image without faults, with the space map of its data blocks and what is held of it
pub record IsSoundPool (map : SmRoot) (kept : Kept) (image : List (List ℕ)) : Type 0 where
  pub none : faults Thin Counts image ≡ []
  pub data_map : map ≡ (thin_fields (block_at image 0)).data_map
  pub means : saved_in kept ≡ saved_whole (shared_of kept) image

-- what the moves of these sources lack, where so many data blocks below the new end are free
abbrev pub lack_of_moves : ℕ → List ℕ → ℕ → ℕ → ℕ → Option ShrinkLack
lack_of_moves k ds number end pool = or_lack ((end - number) + length ds) end (or_lack (data_need k ds) pool None)

abbrev pub LooksAtRoom : Option ShrinkLack → Result (Unit {0}) ShrinkFault → Type 0
LooksAtRoom lack (Ok done) = lack ≡ None
LooksAtRoom lack (Err Memory) = ⊥
LooksAtRoom lack (Err Meta) = ⊥
LooksAtRoom lack (Err Output) = ⊥
LooksAtRoom lack (Err BlockSize) = ⊥
LooksAtRoom lack (Err (NoRoom need blocks)) = lack ≡ Some (no_room need blocks)

-- moves to the first ones of the free blocks, for which there is room
pub record HasMoves (held : Option (List (List ℕ))) (m : ThinPool) (end k pool : ℕ) (free : List ℕ) (moves : List MovedBlock) : Type 0 where
  pub told : IfSome held (λ image. free ≡ free_blocks image end)
  pub room : lack_of_moves k (sources m end) (length free) end pool ≡ None
  pub are : moves_in moves ≡ moves_to (sources m end) free
  pub moving : AreMovesOf m end (moves_in moves)
  pub across : AllByRecursion (IsAcross k pool end) moves
  pub once : AreOnce moves

-- there is no room for them
pub record LacksMoves (held : Option (List (List ℕ))) (m : ThinPool) (end k pool : ℕ) (lack : ShrinkLack) : Type 0 where
  pub free : List ℕ
  pub told : IfSome held (λ image. free ≡ free_blocks image end)
  pub lacks : lack_of_moves k (sources m end) (length free) end pool ≡ Some lack

abbrev pub MissesMoves : Option (List (List ℕ)) → ThinPool → ℕ → ℕ → ℕ → ShrinkFault → Type 0
MissesMoves held m end k pool Memory = Unit {0}
MissesMoves held m end k pool Meta = Unit {0}
MissesMoves held m end k pool Output = ⊥
MissesMoves held m end k pool BlockSize = ⊥
MissesMoves held m end k pool (NoRoom need blocks) = LacksMoves held m end k pool (no_room need blocks)

-- a plan of the pool afterwards, for which there is room
pub record IsFinished (is_shared : Bool) (after : Saved is_shared) (moves : List MovedBlock) (k output pool : ℕ) (shrink : Shrink) : Type 0 where
  pub moved : IsKept is_shared after shrink.moved
  pub moves_are : shrink.moves.items ≡ moves
  pub each : shrink.each ≡ k
  pub output_blocks : shrink.output_blocks ≡ output
  pub pool_blocks : shrink.pool_blocks ≡ pool
  pub fits : (saved_making is_shared after).need (room_of output) ≤ room_of output

abbrev pub IsUnfinished : (is_shared : Bool) → Saved is_shared → ℕ → ShrinkFault → Type 0
IsUnfinished is_shared after output Memory = Unit {0}
IsUnfinished is_shared after output Meta = ⊥
IsUnfinished is_shared after output Output = ⊥
IsUnfinished is_shared after output BlockSize = ⊥
IsUnfinished is_shared after output (NoRoom need blocks) =
    (need ≡ (saved_making is_shared after).need (room_of output)) × ((blocks ≡ room_of output) × (room_of output < need))

abbrev pub Finishes : (is_shared : Bool) → Saved is_shared → List MovedBlock → ℕ → ℕ → ℕ → Result Shrink ShrinkFault → Type 0
Finishes is_shared after moves k output pool (Ok shrink) = IsFinished is_shared after moves k output pool shrink
Finishes is_shared after moves k output pool (Err fault) = IsUnfinished is_shared after output fault

-- the numbers from one to below another
abbrev pub blocks_between : ℕ → ℕ → List ℕ
blocks_between first stop = range_with_len first (stop - first)

-- a row, where it has a block
abbrev pub span_between : ℕ → ℕ → List Span
span_between first stop = if nat_lt first stop then record { first = first; stop = stop } ∷ [] else []

-- what runs have past the end
abbrev pub spans_past : ℕ → List Run → List Span
spans_past end runs = flat_map (λ (r : Run). span_between (max r.target end) (r.target + r.length)) runs

-- whether a row has a block, and whether one of some rows has it
abbrev pub has_block : ℕ → Span → Bool
has_block b s = nat_le s.first b && nat_lt b s.stop

abbrev pub is_in_spans : List Span → ℕ → Bool
is_in_spans spans b = list_any (has_block b) spans

-- the blocks of rows one after another, without those below the least that may come
unfoldable pub union_from : ℕ → List Span → List ℕ
union_from least [] = []
union_from least (s ∷ spans) = blocks_between (max s.first least) s.stop ++ union_from (max least s.stop) spans
