-- The lines of the generator's text.
-- The pool that the generator's text spells.
use Rattle.std.specs.Prelude.{ℕ, ◌+◌, ◌*◌, ◌%◌, ◌==◌, if◌then◌else◌, [], ◌∷◌, map, replicate, ◌≡◌, ◌-◌, List, ◌++◌}
use Rattle.std.specs.List.{range_with_len}
use Rattle.pd_kinds.specs.Meaning.{ThinPool, ThinDevice, Mapping}
use Rattle.pd_grammar.specs.ThinText.{Details, Head, Line, Part, Run, pool_line, device_line, map_line, head_of, lines_of_parts}
use Rattle.pd_answers.specs.Rehearsals.{generated_mapped}
use Rattle.pd_texts.specs.ThinLine.{line_of}
use Rattle.pd_gen.specs.declared.lines.Generated.{Generated}
use Rattle.pd_gen.specs.declared.lines.NextLine.{NextLine}
use Rattle.pd_gen.specs.declared.lines.NextLine.TheVariants.{Pool, Device, Maps, SnapshotMaps}
use Rattle.pd_gen.specs.declared.lines.Step.{Step}

-- the device maps each virtual block to the data block of twice its number
abbrev pub device_mapping : ℕ → Mapping
device_mapping v = record { virtual_block = v; data_block = 2 * v; time = 0 }

-- its snapshot has another data block, of a later time, at each two hundredth virtual block
abbrev pub snapshot_mapping : ℕ → Mapping
snapshot_mapping v = if v % 200 == 0 then record { virtual_block = v; data_block = 2 * v + 1; time = 1 } else device_mapping v

-- the words of the lines of the pool, and of a device
abbrev pub generated_head : ℕ → Head
generated_head number = record { uuid = replicate 16 0; time = 1; transaction = 2; block_size = 128; data_blocks = 10000 * number }

abbrev pub details_with : ℕ → ℕ → Details
details_with number id = record { id = id; mapped = generated_mapped number; transaction = id; created = id; snapped = 1 }

-- a device with these mappings
abbrev pub generated_device : ℕ → ℕ → (ℕ → Mapping) → ThinDevice
generated_device number id mapping_of = record {
  id = id;
  mapped = generated_mapped number;
  transaction = id;
  created = id;
  snapped = 1;
  mappings = map mapping_of (range_with_len 0 (generated_mapped number));
}

-- the pool with the device and its snapshot
unfoldable pub generated_pool : ℕ → ThinPool
generated_pool number = record {
  uuid = replicate 16 0;
  time = 1;
  transaction = 2;
  block_size = 128;
  data_blocks = 10000 * number;
  devices = generated_device number 0 device_mapping ∷ generated_device number 1 snapshot_mapping ∷ [];
}

-- the run of one mapping
abbrev pub run_of : Mapping → Run
run_of m = record { virtual_block = m.virtual_block; data_block = m.data_block; length = 1; time = m.time }

-- a device, with a run for each mapping
abbrev pub part_of : ThinDevice → Part
part_of d = record {
  details = record { id = d.id; mapped = d.mapped; transaction = d.transaction; created = d.created; snapped = d.snapped };
  runs = map run_of d.mappings;
}

-- all lines of the text
abbrev pub generated_lines : ℕ → List Line
generated_lines number = lines_of_parts (head_of (generated_pool number)) (map part_of (generated_pool number).devices)

-- the map lines of the virtual blocks from this one on
abbrev pub maps_from : (ℕ → Mapping) → ℕ → ℕ → List Line
maps_from mapping_of number v = map map_line (map run_of (map mapping_of (range_with_len v (generated_mapped number - v))))

abbrev pub device_maps_from : ℕ → ℕ → List Line
device_maps_from number v = maps_from device_mapping number v ++ (device_line (details_with number 1) ∷ maps_from snapshot_mapping number 0)

-- the lines from a place on, but for the last one
abbrev pub lines_from : ℕ → NextLine → List Line
lines_from number Pool = pool_line (generated_head number) ∷ device_line (details_with number 0) ∷ device_maps_from number 0
lines_from number Device = device_line (details_with number 0) ∷ device_maps_from number 0
lines_from number (Maps v) = device_maps_from number v
lines_from number (SnapshotMaps v) = maps_from snapshot_mapping number v

-- the lines that are still to come
abbrev pub lines_left : Generated → List Line
lines_left made = lines_from made.number made.next

-- the line in a place was given, and the place after it
pub record GivesGenerated (number : ℕ) (place : NextLine) (step : Step) : Type 0 where
  pub line : lines_from number place ≡ line_of step.line ∷ lines_from number step.next
