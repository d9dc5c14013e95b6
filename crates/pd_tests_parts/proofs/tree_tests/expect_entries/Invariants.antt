use Rattle.pd_image.specs.Device.{OnlyReads}
use Rattle.pd_image.specs.MemObjects.{mem_device_state}
use Rattle.pd_tests_parts.proofs.tree_tests.expect_entries.Given as goal

abbrev pub invariant-loop-entry : goal.invariant-loop-entry
invariant-loop-entry g l = record {
  kept : OnlyReads (mem_device_state l.initial.device) (mem_device_state l.device);
}
