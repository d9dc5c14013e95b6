-- What keeps a request from its answer.
use Rattle.std.specs.Prelude.{ℕ, List}
use Rattle.pd_grammar.specs.Lines.{device_line, sink_line, memory_line}
use Rattle.pd_salvage.specs.declared.saved.SalvageFault.{SalvageFault}
use Rattle.pd_salvage.specs.declared.saved.SalvageFault.TheVariants as f
use Rattle.pd_tools.specs.declared.ending.Stop.{Stop}
use Rattle.pd_tools.specs.declared.ending.Stop.TheVariants.{Device, Stream, Memory}

abbrev pub stop_line : Stop → List ℕ
stop_line Device = device_line
stop_line Stream = sink_line
stop_line Memory = memory_line

abbrev pub stop_status : Stop → ℕ
stop_status Device = 5
stop_status Stream = 6
stop_status Memory = 7

-- what a fault of saving stops
abbrev pub salvage_stop : SalvageFault → Stop
salvage_stop f.Memory = Memory
salvage_stop f.Device = Device
