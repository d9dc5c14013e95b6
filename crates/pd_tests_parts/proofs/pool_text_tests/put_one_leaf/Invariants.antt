use Rattle.std.proofs.Common.{◌≡◌}
use Rattle.pd_image.specs.MemObjects.{mem_sink_state}
use Rattle.pd_tests_parts.proofs.pool_text_tests.put_one_leaf.Given as goal

abbrev pub invariant-loop-id : goal.invariant-loop-id
invariant-loop-id l = (mem_sink_state l.sink).access ≡ 1
