use Rattle.std.proofs.Common.{◌≡◌, ◌-◌}
use Rattle.std.specs.List.{range_with_len}
use Rattle.pd_draft.specs.DraftState.{draft_state}
use Rattle.pd_build.specs.Building.{IsFilling}
use Rattle.pd_tests_parts.proofs.build_tests.push_numbers.Given as goal

abbrev pub invariant-loop-i : goal.invariant-loop-i
invariant-loop-i g l = record {
  same_reference : l.draft.dev.ghost_name ≡ l.initial.draft.dev.ghost_name;
  filling : IsFilling 8 (range_with_len 0 l.count) (range_with_len l.i (l.count - l.i)) l.builder (draft_state l.initial.draft) (draft_state l.draft);
}
