use Rattle.std.proofs.Common.{◌≡◌, length}
use Rattle.pd_draft.specs.DraftState.{draft_state}
use Rattle.pd_build.specs.Tree.{link_entries}
use Rattle.pd_build.proofs.UpperLemmas.{IsRising}
use Rattle.pd_build.proofs.upper.UpperBuilder.finish.Given as goal

abbrev pub invariant-loop-level : goal.invariant-loop-level
invariant-loop-level g l = record {
  same_reference : l.draft.dev.ghost_name ≡ l.initial.draft.dev.ghost_name;
  rising : IsRising (link_entries l.initial.level.items) (link_entries l.level.items) (draft_state l.initial.draft) (draft_state l.draft);
}

abbrev pub decreases-loop-level : goal.decreases-loop-level
decreases-loop-level g l = length l.level.items
