-- What attaching the devices of a request does to them, by how it names them, and how they stand afterwards.
use Rattle.std.specs.Prelude.{◌≡◌, ◌⊎◌}
use Rattle.pd_kinds.specs.Objects.{DeviceState, Rose}
use Rattle.pd_kinds.specs.Crash.{IsUntouched}
use Rattle.pd_answers.specs.Terms.{IsNamed, IsOpen, IsUsed, Objects, Use, unused, reading, writing, ComesAfter, Uses}
use Rattle.pd_image.specs.Device.{KeepsPlace, OnlyReads}
use Rattle.pd_tools.specs.declared.task.DevicePath.{DevicePath}
use Rattle.pd_tools.specs.declared.task.DevicePath.TheVariants.{Unused, Reading, Writing}
use Rattle.pd_tools.specs.declared.task.Places.{Places}

-- the states of the three devices
pub record Devices : Type 0 where
  pub input : DeviceState
  pub output : DeviceState
  pub third : DeviceState

abbrev pub devices : DeviceState → DeviceState → DeviceState → Devices
devices input output third = record { input = input; output = output; third = third }

abbrev pub devices_of : Objects → Devices
devices_of objects = devices objects.input objects.output objects.third

-- how a place names its device
abbrev pub use_of : DevicePath → Use
use_of Unused = unused
use_of (Reading path) = reading path.now
use_of (Writing path) = writing path.now

-- how a request names its objects that attaches `out` so, and its devices at these places
abbrev pub uses_at : Use → Places → Uses
uses_at out places = record { source = unused; out = out; input = use_of places.input; output = use_of places.output; third = use_of places.third }

-- a device was attached as it is named, and otherwise left alone
pub record IsOpened (given : Use) (old new : DeviceState) : Type 0 where
  pub attached : IsOpen given new.access
  pub named : IsNamed given new.path
  pub untouched : IsUntouched old new
  pub faults : new.faults ≡ old.faults

-- what isn't named stays as it is
abbrev pub OpensAs : Use → DeviceState → DeviceState → Type 0
OpensAs unused old new = new ≡ old
OpensAs (reading path) old new = IsOpened (reading path) old new
OpensAs (writing path) old new = IsOpened (writing path) old new

-- all that are named were attached
pub record AreOpened (uses : Uses) (old new : Devices) : Type 0 where
  pub input : OpensAs uses.input old.input new.input
  pub output : OpensAs uses.output old.output new.output
  pub third : OpensAs uses.third old.third new.third

-- a device may have failed to be attached, and was left alone
pub record IsAsked (given : Use) (old new : DeviceState) : Type 0 where
  pub used : IsUsed given new.access new.path
  pub untouched : IsUntouched old new

abbrev pub AsksAs : Use → DeviceState → DeviceState → Type 0
AsksAs unused old new = new ≡ old
AsksAs (reading path) old new = IsAsked (reading path) old new
AsksAs (writing path) old new = IsAsked (writing path) old new

-- one that is named couldn't be attached, since it failed
pub record AreUnopened (uses : Uses) (old new : Devices) : Type 0 where
  pub input : AsksAs uses.input old.input new.input
  pub output : AsksAs uses.output old.output new.output
  pub third : AsksAs uses.third old.third new.third
  pub output_order : ComesAfter uses.output new.output.access (IsOpen uses.input new.input.access)
  pub third_order : ComesAfter uses.third new.third.access (IsOpen uses.input new.input.access × IsOpen uses.output new.output.access)
  pub cause : Rose old.input.faults new.input.faults ⊎ (Rose old.output.faults new.output.faults ⊎ Rose old.third.faults new.third.faults)

-- a device is still open as it is named, and unchanged where that is for reading
abbrev pub KeepsAs : Use → DeviceState → DeviceState → Type 0
KeepsAs unused old new = new ≡ old
KeepsAs (reading path) old new = OnlyReads old new
KeepsAs (writing path) old new = KeepsPlace old new
