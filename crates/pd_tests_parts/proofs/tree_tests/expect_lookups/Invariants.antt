use Rattle.pd_image.specs.Device.{OnlyReads}
use Rattle.pd_image.specs.MemObjects.{mem_device_state}
use Rattle.pd_tests_parts.proofs.tree_tests.expect_lookups.Given as goal

abbrev pub invariant-loop-lookup : goal.invariant-loop-lookup
invariant-loop-lookup g l = OnlyReads (mem_device_state l.initial.device) (mem_device_state l.device)
