-- What a device means that tells nothing.
use Rattle.std.specs.Prelude.{length, None}
use Rattle.pd_kinds.specs.Objects.{DeviceState}
use Rattle.pd_image.specs.Device.{untold_history}
use Rattle.pd_tests_pools.specs.declared.hidden.Hidden.{Hidden}

abbrev pub hidden_state : Hidden → DeviceState
hidden_state device = record {
  access = device.access;
  path = None;
  blocks = length device.blocks.items;
  held = None;
  faults = device.faults;
  reads = device.reads;
  history = untold_history;
}
