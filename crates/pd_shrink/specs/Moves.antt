-- Data blocks that are moved, and what is said of the data device meanwhile.
-- The pool in memory whose data blocks were moved.
use mathlib.Core.Bool.{Bool-set}
use mathlib.Core.HLevel.{×_prop, Unit-prop}
use Rattle.std.specs.Prelude.{◌≡◌, ℕ, ◌+◌, ◌*◌, ◌≤◌, ◌<◌, ◌==◌, false, List, [], ◌∷◌, map, ◌^◌, ◌++◌, length, take, drop, sum_by, Option, Some, None}
use Rattle.std.specs.List.{list_any, AllByRecursion}
use Rattle.pd_kinds.specs.Meaning.{Mapping, ThinDevice, ThinPool}
use Rattle.pd_grammar.specs.ThinText.{device_of_part, joined_runs}
use Rattle.pd_answers.specs.Writebacks.{CachedBlock, KeepsOthers}
use Rattle.pd_answers.specs.Shrinks.{Move, moved_mapping, moves_to, sources}
use Rattle.pd_meaning_thin.specs.declared.joined.Run.{Run}
use Rattle.pd_meaning_thin.specs.Runs.{spelled}
use Rattle.pd_salvage.specs.declared.saved.SavedDevice.{SavedDevice}
use Rattle.pd_salvage.specs.declared.saved.SavedHead.{SavedHead}
use Rattle.pd_salvage.specs.declared.saved_shape.SavedLeaf.{SavedLeaf}
use Rattle.pd_salvage.specs.declared.saved_shape.SavedPiece.{SavedPiece}
use Rattle.pd_salvage.specs.declared.saved_shape.SavedPiece.TheVariants.{Own, Shared}
use Rattle.pd_salvage.specs.Gather.{mappings_of_runs}
use Rattle.pd_salvage.specs.Saved.{part_of}
use Rattle.pd_laws_changed.specs.KnownPool.{IsMoving}
use Rattle.pd_shrink.specs.declared.moves.MovedBlock.{MovedBlock}

-- a move as the definitions speak of it
abbrev pub move_in : MovedBlock → Move
move_in x = record { source = x.source; target = x.target }

abbrev pub moves_in : List MovedBlock → List Move
moves_in moves = map move_in moves

-- a source lies at or past a new end, its target below it, and both on the device
pub record IsAcross (k blocks end : ℕ) (x : MovedBlock) : Type 0 where
  pub from : end ≤ x.source
  pub to : x.target < end
  pub inside : (x.source + 1) * k ≤ blocks

-- no target comes twice
abbrev pub AreOnce : List MovedBlock → Type 0
AreOnce [] = Unit {0}
AreOnce (x ∷ moves) = (list_any (λ (y : MovedBlock). y.target == x.target) moves ≡ false) × AreOnce moves

-- which has one proof at most
pub AreOnce-prop : (moves : List MovedBlock) → IsProp (AreOnce moves)
AreOnce-prop [] = Unit-prop
AreOnce-prop (x ∷ moves) = ×_prop (Bool-set _ _) (AreOnce-prop moves)

-- all sources lie at or past some new end, all targets below it
pub record AreApart (k blocks : ℕ) (moves : List MovedBlock) : Type 0 where
  pub end : ℕ
  pub across : AllByRecursion (IsAcross k blocks end) moves
  pub once : AreOnce moves

-- a crash leaves the data device as it was but for the targets
abbrev pub IsLeftKept : ℕ → List CachedBlock → List (List ℕ) → List (List ℕ) → List (List ℕ) → Type 0
IsLeftKept k copies base image firsts = KeepsOthers k copies base image

-- the moves of a pool to a new end: its sources to the first free blocks, of which there are enough
pub record AreMovesOf (m : ThinPool) (end : ℕ) (moves : List Move) : Type 0 where
  pub free : List ℕ
  pub moving : IsMoving m end free
  pub are : moves ≡ moves_to (sources m end) free

-- a move from a data block that isn't below one number to one that is below another
pub record IsMoveFrom (top least : ℕ) (x : Move) : Type 0 where
  pub from : least ≤ x.source
  pub below : x.target < top

-- the sources ascend
abbrev pub AreMovesFrom : ℕ → ℕ → List Move → Type 0
AreMovesFrom top least [] = Unit {0}
AreMovesFrom top least (x ∷ moves) = IsMoveFrom top least x × AreMovesFrom top (x.source + 1) moves

-- the numbers of a run's blocks fit their places
pub record FitsRun (r : Run) : Type 0 where
  pub virtual : 1 ≤ r.length → r.virt + r.length ≤ 2 ^ 64
  pub target : 1 ≤ r.length → r.target + r.length ≤ 2 ^ 40

-- the words of a superblock with so many data blocks
abbrev pub head_to : SavedHead → ℕ → SavedHead
head_to head end = record { uuid = head.uuid; time = head.time; transaction = head.transaction; block_size = head.block_size; blocks = end }

-- runs are as long as can be
abbrev pub AreJoined : List Run → Type 0
AreJoined runs = joined_runs (mappings_of_runs runs) ≡ map spelled runs

-- runs by the parts of a pool, each of which has so many of them, and the mappings of each part
abbrev pub split_runs : {T : Type 0} → (T → ℕ) → List T → List Run → List (List Run)
split_runs count [] runs = []
split_runs count (x ∷ xs) runs = take (count x) runs ∷ split_runs count xs (drop (count x) runs)

abbrev pub split_mappings : {T : Type 0} → (T → ℕ) → List T → List Run → List (List Mapping)
split_mappings count xs runs = map mappings_of_runs (split_runs count xs runs)

abbrev pub moved_mappings : List Move → List (List Mapping) → List (List Mapping)
moved_mappings moves parts = map (map (moved_mapping moves)) parts

-- a part is added with its runs, as long as can be, whose data blocks were moved; what else it says is kept
pub record AddsPart {T K : Type 0} (count : T → ℕ) (says : T → K) (moves : List Move) (part : T) (runs : List Run) (parts : List T) (before : List Run) (parts' : List T) (after : List Run) : Type 0 where
  pub made : T
  pub given : List Run
  pub parts_are : parts' ≡ parts ++ made ∷ []
  pub runs_are : after ≡ before ++ given
  pub number : count made ≡ length given
  pub same : says made ≡ says part
  pub moved : mappings_of_runs given ≡ map (moved_mapping moves) (mappings_of_runs runs)
  pub joined : AreJoined given

-- all parts with their runs, as long as can be, whose data blocks were moved; what else they say is kept
pub record AreMoved {T K : Type 0} (count : T → ℕ) (says : T → K) (moves : List Move) (parts : List T) (runs : List Run) (parts' : List T) (runs' : List Run) : Type 0 where
  pub same : map says parts' ≡ map says parts
  pub moved : split_mappings count parts' runs' ≡ moved_mappings moves (split_mappings count parts runs)
  pub joined : AllByRecursion AreJoined (split_runs count parts' runs')
  pub number : sum_by count parts' ≡ length runs'

-- how many runs a device has, and what else it says
abbrev pub runs_of_device : SavedDevice → ℕ
runs_of_device d = d.runs

abbrev pub bare_device : SavedDevice → ThinDevice
bare_device d = device_of_part (part_of d [])

-- how many runs and mappings a shared leaf has
abbrev pub runs_of_leaf : SavedLeaf → ℕ
runs_of_leaf leaf = leaf.runs

abbrev pub entries_of_leaf : SavedLeaf → ℕ
entries_of_leaf leaf = leaf.entries

-- the shared leaf that a piece is
abbrev pub leaf_of_piece : SavedPiece → Option ℕ
leaf_of_piece (Own runs) = None
leaf_of_piece (Shared number) = Some number
