use Rattle.std.proofs.Common.{◌≡◌}
use Rattle.pd_image.specs.MemObjects.{mem_sink_state}
use Rattle.pd_tests_parts.proofs.era_text_tests.print_runs.Given as goal

abbrev pub invariant-loop-line : goal.invariant-loop-line
invariant-loop-line l = record {
  can : goal.iterator-loop-line.can_next l.line-iterator;
  finite : goal.iterator-loop-line.is_finite l.line-iterator;
  sink : (mem_sink_state l.sink).access ≡ 1;
}
