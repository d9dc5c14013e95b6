use Rattle.std.proofs.Common.{◌≡◌}
use Rattle.pd_image.specs.MemObjects.{mem_source_state}
use Rattle.pd_tests_parts.proofs.text_tests.expect_lines.Given as goal

abbrev pub invariant-loop-text : goal.invariant-loop-text
invariant-loop-text g l = (mem_source_state l.source).access ≡ 1
