-- What a device in memory means.
-- What a sink in memory means.
-- What a source in memory means.
use Rattle.std.specs.Prelude.{ℕ, Bool, if◌then◌else◌, List, [], length, reverse, Some, None, drop}
use Rattle.std.specs.Option.{option_map}
use Rattle.pd_kinds.specs.Objects.{DeviceState, all_synced, SinkState, SourceState}
use Rattle.pd_image.specs.declared.calls.Calls.{Calls}
use Rattle.pd_image.specs.declared.mem_device.MemDevice.{MemDevice}
use Rattle.pd_image.specs.Calls.{access_number, counted, calls_failed}
use Rattle.pd_image.specs.Step.{block_bytes, history_of}
use Rattle.pd_image.specs.declared.mem_sink.MemSink.{MemSink}
use Rattle.pd_image.specs.declared.mem_source.MemSource.{MemSource}

-- what the device means to code over any device
abbrev pub mem_device_state : MemDevice → DeviceState
mem_device_state device = record {
  access = access_number device.access;
  path = option_map (λ path. path.items) device.path;
  blocks = length device.blocks.items;
  held = Some (block_bytes device.blocks.items);
  faults = calls_failed device.calls;
  reads = device.reads;
  history = history_of (block_bytes device.blocks.items) (reverse device.steps.items);
}

-- its numbered calls: of `attach`, `read`, `write` and `sync`
abbrev pub mem_device_calls : MemDevice → Calls
mem_device_calls device = device.calls

-- a device that holds these blocks, on which nothing was called yet
abbrev pub unattached_device : List (List ℕ) → DeviceState
unattached_device image = record {
  access = 0;
  path = None;
  blocks = length image;
  held = Some image;
  faults = 0;
  reads = 0;
  history = all_synced image [];
}

-- the same device, where a call that failed has been counted
abbrev pub with_answer : Bool → DeviceState → DeviceState
with_answer ok device = record device { faults = if ok then device.faults else counted device.faults }

-- what the sink means to code over any sink
abbrev pub mem_sink_state : MemSink → SinkState
mem_sink_state sink = record {
  access = access_number sink.access;
  path = option_map (λ path. path.items) sink.path;
  written = Some sink.written.items;
  faults = calls_failed sink.calls;
}

-- its numbered calls: of `attach` and `put`
abbrev pub mem_sink_calls : MemSink → Calls
mem_sink_calls sink = sink.calls

-- a sink to which nothing was written, and on which nothing was called yet
abbrev pub unattached_sink : SinkState
unattached_sink = record { access = 0; path = None; written = Some []; faults = 0 }

-- what the source means to code over any source
abbrev pub mem_source_state : MemSource → SourceState
mem_source_state source = record {
  access = access_number source.access;
  path = option_map (λ path. path.items) source.path;
  left = Some (drop source.taken source.bytes.items);
  faults = calls_failed source.calls;
}

-- its numbered calls: of `attach` and `take`
abbrev pub mem_source_calls : MemSource → Calls
mem_source_calls source = source.calls

-- how many bytes it gives at most in one call
abbrev pub mem_source_piece : MemSource → ℕ
mem_source_piece source = source.piece

-- a source of these bytes, on which nothing was called yet
abbrev pub unattached_source : List ℕ → SourceState
unattached_source bytes = record { access = 0; path = None; left = Some bytes; faults = 0 }
