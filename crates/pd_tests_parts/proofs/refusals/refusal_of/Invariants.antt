use Rattle.std.proofs.Common.{◌≡◌}
use Rattle.pd_image.specs.MemObjects.{mem_source_state}
use Rattle.pd_tests_parts.proofs.refusals.refusal_of.Given as goal

abbrev pub invariant-loop : goal.invariant-loop
invariant-loop g l = (mem_source_state l.source).access ≡ 1
