use Rattle.pd_image.specs.Device.{OnlyReads}
use Rattle.pd_tests_parts.proofs.image_tests.expect_rows.Given as goal

abbrev pub invariant-loop-row : goal.invariant-loop-row
invariant-loop-row g l = OnlyReads (g.D.Device.state l.initial.device) (g.D.Device.state l.device)
