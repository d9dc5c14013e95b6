use Rattle.pd_image.specs.Device.{OnlyReads}
use Rattle.pd_tests_parts.proofs.image_tests.has_numbers.Given as goal

abbrev pub invariant-loop-number : goal.invariant-loop-number
invariant-loop-number g l = OnlyReads (g.D.Device.state l.initial.device) (g.D.Device.state l.device)
