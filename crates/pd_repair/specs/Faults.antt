-- The faults of what a repair calls, as its own, and how the writing ended.
use Rattle.std.specs.Prelude.{Result, Ok, Err}
use Rattle.pd_restoring.specs.declared.fault.MadeFault.{MadeFault}
use Rattle.pd_restoring.specs.Made.{Ending, done, failed, lacking, short, unbegun}
use Rattle.pd_restoring.specs.declared.fault.MadeFault.TheVariants as m
use Rattle.pd_salvage.specs.declared.saved.SalvageFault.{SalvageFault}
use Rattle.pd_salvage.specs.declared.saved.SalvageFault.TheVariants as s
use Rattle.pd_repair.specs.declared.repair.RepairFault.{RepairFault}
use Rattle.pd_repair.specs.declared.repair.RepairFault.TheVariants.{Memory, Input, Output, NoSuper, NoRoom}

abbrev pub salvage_fault : SalvageFault → RepairFault
salvage_fault s.Memory = Memory
salvage_fault s.Device = Input

abbrev pub made_fault : MadeFault → RepairFault
made_fault m.Memory = Memory
made_fault m.Device = Output
made_fault (m.NoRoom need blocks) = NoRoom need blocks

-- how the writing of what was saved ended
abbrev pub output_ending : {T : Type 0} → Result T RepairFault → Ending
output_ending (Ok answer) = done
output_ending (Err Memory) = lacking
output_ending (Err Input) = unbegun
output_ending (Err Output) = failed
output_ending (Err (NoSuper rules)) = unbegun
output_ending (Err (NoRoom need blocks)) = short need blocks
