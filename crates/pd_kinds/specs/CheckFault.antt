-- How a call ends that has no answer where memory is wanting, or a device failed.
use Rattle.std.specs.Prelude.{◌≡◌, ℕ, ◌≤◌, Result, Ok, Err}
use Rattle.pd_kinds.specs.declared.report.CheckFault.{CheckFault}
use Rattle.pd_kinds.specs.declared.report.CheckFault.TheVariants.{Memory, Device}
use Rattle.pd_kinds.specs.Objects.{Rose}

-- the device's count of faults rose where the call says that the device failed, and else stayed
abbrev pub CountsCheckFault : {R : Type 0} → Result R CheckFault → ℕ → ℕ → Type 0
CountsCheckFault (Ok answer) old new = new ≡ old
CountsCheckFault (Err Memory) old new = new ≡ old
CountsCheckFault (Err Device) old new = Rose old new × (old ≤ new)

-- where memory is wanting, no more than so many blocks were read
abbrev pub StopsEarly : {R : Type 0} → Result R CheckFault → ℕ → ℕ → Type 0
StopsEarly (Err Memory) most reads = reads ≤ most
StopsEarly _ most reads = Unit {0}
