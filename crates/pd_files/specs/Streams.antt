-- What a source over a real file means.
-- What a sink over a real file or a standard stream means.
use Rattle.std.specs.Prelude.{None}
use Rattle.pd_kinds.specs.Objects.{SourceState, SinkState}
use Rattle.pd_image.specs.Calls.{access_number}
use Rattle.pd_files.specs.declared.streams.StdSource.{StdSource}
use Rattle.pd_files.specs.declared.streams.StdSink.{StdSink}

-- what the source means to code over any source: it tells neither its bytes nor its path
abbrev pub std_source_state : {R F D : Type 0} → StdSource R F D → SourceState
std_source_state source = record {
  access = access_number source.access;
  path = None;
  left = None;
  faults = source.faults;
}

-- a source on which nothing was called yet
abbrev pub unattached_text : SourceState
unattached_text = record { access = 0; path = None; left = None; faults = 0 }

-- what the sink means to code over any sink: it tells neither what was written nor its path
abbrev pub std_sink_state : {R F D : Type 0} → StdSink R F D → SinkState
std_sink_state sink = record {
  access = access_number sink.access;
  path = None;
  written = None;
  faults = sink.faults;
}

-- a sink on which nothing was called yet
abbrev pub unattached_stream : SinkState
unattached_stream = record { access = 0; path = None; written = None; faults = 0 }
