use Rattle.pd_image.specs.Device.{IsAttached}
use Rattle.pd_tests_parts.proofs.build_tests.has_words.Given as goal

abbrev pub invariant-loop-i : goal.invariant-loop-i
invariant-loop-i g l = record {
  attached : IsAttached (g.D.Device.state l.dev);
}
