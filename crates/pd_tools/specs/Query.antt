-- What a query of an image does.
-- What reading an image to a report does to the device.
use Rattle.std.specs.Prelude.{ℕ, ◌==◌, if◌then◌else◌, List, [], Bool}
use Rattle.pd_kinds.specs.Objects.{Rose, DeviceState}
use Rattle.pd_kinds.specs.Rule.{Reported}
use Rattle.pd_kinds.specs.declared.kind.Kind.{Kind}
use Rattle.pd_kinds.specs.declared.kind.Stage.{Stage}
use Rattle.pd_kinds.specs.Stages.{CanWantMemory}
use Rattle.pd_grammar.specs.Lines.{reported_lines}
use Rattle.pd_answers.specs.Terms.{Use, reading, writing}
use Rattle.pd_query.specs.declared.query.QueryFault.{QueryFault}
use Rattle.pd_query.specs.declared.query.QueryFault.TheVariants as f
use Rattle.pd_tools.specs.declared.ending.Stop.{Stop}
use Rattle.pd_tools.specs.declared.ending.Stop.TheVariants.{Device, Stream, Memory}

-- the status after a check with this report, and the line that goes to `notes`
abbrev pub query_status : Reported → ℕ
query_status report = if report.total == 0 then 0 else 1

abbrev pub query_line : Reported → List ℕ
query_line report = if report.total == 0 then [] else reported_lines report

-- what a query's fault stops
abbrev pub stop_as : QueryFault → Stop
stop_as f.Memory = Memory
stop_as f.Device = Device
stop_as f.Sink = Stream

-- why the text wasn't put: the count of the device that failed rose, or that of the sink
abbrev pub IsUnput : ℕ → ℕ → ℕ → ℕ → Stop → Type 0
IsUnput input input' out out' Memory = Unit {0}
IsUnput input input' out out' Device = Rose input input'
IsUnput input input' out out' Stream = Rose out out'

-- how a device is named that is attached for reading, or for writing too
abbrev pub attached_for : Bool → List ℕ → Use
attached_for write path = if write then writing path else reading path

-- why the device was not read to a report
abbrev pub IsUnread : Kind → Stage → DeviceState → DeviceState → Stop → Type 0
IsUnread kind until input input' Memory = CanWantMemory kind until input.held
IsUnread kind until input input' Device = Rose input.faults input'.faults
IsUnread kind until input input' Stream = ⊥
