use Rattle.pd_image.specs.Device.{IsAttached}
use Rattle.pd_image.specs.MemObjects.{mem_device_state}
use Rattle.pd_tests_parts.proofs.tree_tests.expect_sevens.Given as goal

abbrev pub invariant-loop : goal.invariant-loop
invariant-loop g l = record {
  attached : IsAttached (mem_device_state l.device);
}
