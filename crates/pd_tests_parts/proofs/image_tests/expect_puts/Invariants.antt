use Rattle.std.proofs.Common.{◌≡◌}
use Rattle.pd_tests_parts.proofs.image_tests.expect_puts.Given as goal

abbrev pub invariant-loop-row : goal.invariant-loop-row
invariant-loop-row g l = (g.S.Sink.state l.sink).access ≡ 1
