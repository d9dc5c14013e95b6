use Rattle.std.proofs.Common.{◌≡◌}
use Rattle.pd_image.specs.MemObjects.{mem_sink_state}
use Rattle.pd_image.specs.MemObjects.{mem_source_state}
use Rattle.pd_tests_parts.proofs.era_text_tests.copy.Given as goal

abbrev pub invariant-loop : goal.invariant-loop
invariant-loop l = record {
  source : (mem_source_state l.source).access ≡ 1;
  sink : (mem_sink_state l.sink).access ≡ 1;
}
