-- What a repair would keep, as it is told.
-- The numbers of mappings that the details of devices say.
-- Whether a saved device has no stored number.
-- Saved devices and stored numbers in one list, and the lines of what is left of both.
-- What is kept, by what is saved and the stored numbers.
-- The latest time of what is saved, by what is held of it.
use Rattle.std.specs.Prelude.{ℕ, List, [], ◌∷◌, ◌++◌, codes, decimal, ◌≡◌, ◌+◌, ◌%◌, ◌^◌, ◌<◌, ◌≤◌, map, Bool, is_none, ◌-◌, drop, Option, Some, None, length, sum_by, max, min, if◌then◌else◌, fold}
use Rattle.std.specs.List.{flat_map, list_any, range_with_len}
use Rattle.pd_kinds.specs.ThinFormat.{ThinFields}
use Rattle.pd_kinds.specs.Meaning.{Mapping}
use Rattle.pd_grammar.specs.Need.{thin_need}
use Rattle.pd_grammar.specs.ThinText.{mappings_of}
use Rattle.pd_laid.specs.Salvage.{salvaged_entries}
use Rattle.pd_laid.specs.Shape.{pool_of}
use Rattle.pd_laid.specs.PoolText.{shape_need, mappings_of_runs}
use Rattle.pd_laid.specs.FoundRoots.{times_of}
use Rattle.pd_answers.specs.KeptLines.{Told, kept_line, lost_line, unsaved_line, IsLeastRoom}
use Rattle.pd_tree.specs.Cursor.{item_of}
use Rattle.pd_tree.specs.Search.{lookup}
use Rattle.pd_meaning_thin.specs.declared.joined.Run.{Run}
use Rattle.pd_meaning_thin.specs.Runs.{spelled}
use Rattle.pd_salvage.specs.declared.saved_shape.ShapedDevice.{ShapedDevice}
use Rattle.pd_salvage.specs.SavedShape.{HeldShape, held_shape}
use Rattle.pd_kept.specs.declared.kept.Kept.{Kept}
use Rattle.pd_kept.specs.declared.kept.KeptDevice.{KeptDevice}
use Rattle.pd_kept.specs.declared.merging.StoredNumber.{StoredNumber}
use Rattle.pd_kept.specs.declared.kept.KeptDevice.TheVariants as k

-- the line of a device
abbrev pub line_of : KeptDevice → List ℕ
line_of (k.Kept id mappings mapped) = kept_line id mappings mapped
line_of (k.Lost id mapped) = lost_line id mapped

-- what is told
abbrev pub told_of : Kept → Told
told_of kept = record {
  lines = flat_map line_of kept.devices.items;
  devices = kept.saved;
  mappings = kept.mappings;
  need = kept.need;
  shared_need = kept.shared_need;
}

-- the last line of its text
abbrev pub last_line : Kept → List ℕ
last_line kept =
    codes "keeps " ++ (decimal kept.saved ++ (codes " " ++ (decimal kept.mappings
    ++ (codes " need " ++ (decimal kept.need ++ (codes " shared " ++ (decimal kept.shared_need ++ (10 ∷ []))))))))

-- a number beside its device's
abbrev pub pair_of : StoredNumber → ℕ × ℕ
pair_of stored = (stored.id, stored.mapped)

-- the number in the details of a device
abbrev pub stored_word : ℕ → ℕ
stored_word details = details % 2 ^ 64

-- those that are saved
unfoldable pub stored_numbers : ThinFields → List (List ℕ) → List (ℕ × ℕ)
stored_numbers fields image = map (item_of stored_word) (salvaged_entries 24 fields.meta_map.blocks image fields.details_root)

-- ids ascend, from one on and below an end
abbrev pub AscendBelow : ℕ → ℕ → List (ℕ × ℕ) → Type 0
AscendBelow end least [] = Unit {0}
AscendBelow end least (item ∷ items) = (least ≤ item.0) × (item.0 < end) × AscendBelow end (item.0 + 1) items

abbrev pub AreStored : ℕ → List (ℕ × ℕ) → Type 0
AreStored least items = AscendBelow (2 ^ 64) least items

-- a number was added
pub record AddsStored (id mapped : ℕ) (old new : List StoredNumber) : Type 0 where
  pub added : map pair_of new ≡ map pair_of old ++ (id, mapped) ∷ []
  pub fits : id < 2 ^ 64

-- one of these ids has none among those
unfoldable pub lacks : List (ℕ × ℕ) → List (ℕ × ℕ) → Bool
lacks saved stored = list_any (λ (d : ℕ × ℕ). is_none (lookup d.0 stored)) saved

-- whether one has none is told by what is left of both
pub record IsLeft (lacking : Bool) (saved stored : List (ℕ × ℕ)) : Type 0 where
  pub next : ℕ
  pub is : lacks saved stored ≡ lacking
  pub saved_ascend : AreStored next saved
  pub stored_ascend : AreStored 0 stored

-- the same, where the stored numbers are those of an id and of greater ones
pub record IsBehind (lacking : Bool) (id : ℕ) (saved stored : List (ℕ × ℕ)) : Type 0 where
  pub left : IsLeft lacking saved stored
  pub behind : AreStored id stored

-- a saved device's number of mappings beside its id
abbrev pub saved_pair : ShapedDevice → ℕ × ℕ
saved_pair d = (d.id, d.details.mapped)

-- the line of an id, by the mappings that are saved of it and by the stored number
abbrev pub line_of_id : ℕ → Option ℕ → Option ℕ → List ℕ
line_of_id id None mapped = unsaved_line id mapped
line_of_id id (Some mappings) mapped = kept_line id mappings mapped

abbrev pub line_at : List (ℕ × ℕ) → List (ℕ × ℕ) → ℕ → List ℕ
line_at saved stored id = line_of_id id (lookup id saved) (lookup id stored)

-- the lines of the ids from one on and below an end
unfoldable pub lines_from : ℕ → ℕ → List (ℕ × ℕ) → List (ℕ × ℕ) → List ℕ
lines_from end id saved stored = flat_map (line_at saved stored) (range_with_len id (end - id))

-- those of all ids
unfoldable pub lines_at_all : List (ℕ × ℕ) → List (ℕ × ℕ) → List ℕ
lines_at_all saved stored = lines_from (2 ^ 64) 0 saved stored

-- some devices were told, and what is left of the saved ones and of the numbers has the lines that are missing
pub record Tells (all : List ℕ) (told : List KeptDevice) (saved stored : List (ℕ × ℕ)) : Type 0 where
  pub next : ℕ
  pub joined : flat_map line_of told ++ lines_from (2 ^ 64) next saved stored ≡ all
  pub saved_ascend : AreStored next saved
  pub stored_ascend : AreStored next stored

-- the same, where all numbers below an id were told
pub record IsAfterLost (all : List ℕ) (end : ℕ) (saved : List (ℕ × ℕ)) (told : List KeptDevice) (stored : List (ℕ × ℕ)) : Type 0 where
  pub tells : Tells all told saved stored
  pub behind : AreStored end stored

-- an answer is the number in the place, where it is the device's, and else the numbers that are left are those of greater ids
abbrev pub IsStoredAt : ℕ → Option ℕ → ℕ → List StoredNumber → Type 0
IsStoredAt id None at stored = AreStored id (map pair_of (drop at stored)) → AreStored (id + 1) (map pair_of (drop at stored))
IsStoredAt id (Some mapped) at stored = map pair_of (drop at stored) ≡ (id, mapped) ∷ map pair_of (drop (at + 1) stored)

pub record Weighs (h : HeldShape) (stored : List StoredNumber) (kept : Kept) : Type 0 where
  pub lines : flat_map line_of kept.devices.items ≡ lines_at_all (map saved_pair h.devices) (map pair_of stored)
  pub devices : kept.saved ≡ length h.devices
  pub mappings : kept.mappings ≡ sum_by (λ (d : ShapedDevice). d.details.mapped) h.devices
  pub need : IsLeastRoom (thin_need (pool_of (held_shape h))) kept.need
  pub shared_need : IsLeastRoom (shape_need (held_shape h)) kept.shared_need

-- the times of a device's details
abbrev pub own_times : ShapedDevice → List ℕ
own_times d = d.details.created ∷ d.details.snapped ∷ []

-- the times of the mappings of a run, and of some runs
abbrev pub times_of_run : Run → List ℕ
times_of_run run = map (λ (m : Mapping). m.time) (mappings_of (spelled run))

unfoldable pub times_of_runs : List Run → List ℕ
times_of_runs runs = map (λ (m : Mapping). m.time) (mappings_of_runs (map spelled runs))

-- the latest time in the pool of a shape
unfoldable pub latest_of_shape : HeldShape → ℕ
latest_of_shape h = fold max 0 (flat_map times_of (pool_of (held_shape h)).devices)

-- the time of what is saved, where these are the stored numbers
abbrev pub time_by : HeldShape → List StoredNumber → ℕ
time_by h stored =
    if lacks (map saved_pair h.devices) (map pair_of stored) then min (latest_of_shape h + 1) (2 ^ 32 - 1) else latest_of_shape h
