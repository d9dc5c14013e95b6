-- The mappings of a device, joined to runs as they come.
use Rattle.std.specs.Prelude.{◌≡◌, ℕ, ◌≤◌, nat_lt, List, [], ◌++◌, length, map, filter, Option, Some, None, IfSome}
use Rattle.std.specs.List.{flat_map}
use Rattle.pd_kinds.specs.Meaning.{Mapping}
use Rattle.pd_grammar.specs.Lawful.{AreMappings}
use Rattle.pd_grammar.specs.ThinText.{joined_runs, mappings_of}
use Rattle.pd_value.specs.declared.thin.BlockTime.{BlockTime}
use Rattle.pd_meaning_thin.specs.declared.joined.Run.{Run}
use Rattle.pd_meaning_thin.specs.Runs.{block_time_of, mapping_of, spelled}
use Rattle.pd_salvage.specs.declared.cursor.SavedCursor.{SavedCursor}
use Rattle.pd_salvage.specs.declared.joined.Gathering.{Gathering}
use Rattle.pd_salvage.specs.declared.joined.Joining.{Joining}
use Rattle.pd_salvage.specs.Cursor.{saved_left}

-- the run of one mapping
abbrev pub run_of_mapping : ℕ → BlockTime → Run
run_of_mapping virt mapping = record { virt = virt; target = mapping.block; length = 1; time = mapping.time }

-- the mappings of runs
abbrev pub mappings_of_runs : List Run → List Mapping
mappings_of_runs runs = flat_map mappings_of (map spelled runs)

-- the mappings of a run that was begun
abbrev pub begun_mappings : Option Run → List Mapping
begun_mappings None = []
begun_mappings (Some run) = mappings_of (spelled run)

-- the mappings that are left of a device, whose data blocks are below a number
abbrev pub to_come : ℕ → List (List ℕ) → SavedCursor BlockTime → List Mapping
to_come blocks image cursor =
    map mapping_of (filter (λ (item : ℕ × BlockTime). nat_lt item.1.block blocks) (saved_left 8 block_time_of image cursor))

-- these mappings were taken: behind the runs that were there before stand the runs of the first ones, and the last
-- ones are those of the begun run
pub record IsJoining (before runs : List Run) (joining : Joining) (ms : List Mapping) : Type 0 where
  pub given : List Run
  pub runs_are : runs ≡ before ++ given
  pub some : IfSome joining.begun (λ run. 1 ≤ run.length)
  pub written : ms ≡ mappings_of_runs given ++ begun_mappings joining.begun
  -- whatever follows, the runs that stand there are as long as can be
  pub joined : (rest : List Mapping) → joined_runs (ms ++ rest) ≡ map spelled given ++ joined_runs (begun_mappings joining.begun ++ rest)

-- these mappings are taken behind those that were taken before
abbrev pub Takes : List Mapping → List Run → List Run → Joining → Joining → Type 0
Takes more runs runs' old new =
    (before : List Run) (ms : List Mapping) → IsJoining before runs old ms → IsJoining before runs' new (ms ++ more)

-- so many mappings were taken
pub record IsGathering (before runs : List Run) (gathering : Gathering) (ms : List Mapping) : Type 0 where
  pub joining : IsJoining before runs gathering.joining ms
  pub mapped : gathering.mapped ≡ length ms

-- behind the runs that were there before stand the runs of these mappings, as long as can be
pub record HasRuns (before runs : List Run) (ms : List Mapping) : Type 0 where
  pub given : List Run
  pub runs_are : runs ≡ before ++ given
  pub written : ms ≡ mappings_of_runs given
  pub joined : joined_runs ms ≡ map spelled given

-- behind the runs that were there before stand runs as long as can be, of so many mappings, with virtual blocks from a
-- number on and data blocks below one
pub record IsGathered (blocks least mapped : ℕ) (held : Option (List (List ℕ))) (all : List (List ℕ) → List Mapping) (before runs : List Run) : Type 0 where
  pub given : List Run
  pub runs_are : runs ≡ before ++ given
  pub joined : joined_runs (mappings_of_runs given) ≡ map spelled given
  pub number : mapped ≡ length (mappings_of_runs given)
  pub lawful : AreMappings blocks least (mappings_of_runs given)
  -- they are all of them, where the device tells
  pub told : IfSome held (λ image. mappings_of_runs given ≡ all image)
