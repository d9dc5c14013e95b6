use Rattle.std.proofs.Common.{◌≡◌}
use Rattle.pd_image.specs.MemObjects.{mem_sink_state}
use Rattle.pd_tests_parts.proofs.text_tests.put_numbers.Given as goal

abbrev pub invariant-loop-number : goal.invariant-loop-number
invariant-loop-number l = (mem_sink_state l.sink).access ≡ 1
