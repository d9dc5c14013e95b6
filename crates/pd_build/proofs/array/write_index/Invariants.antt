use Rattle.std.proofs.Common.{◌≡◌, drop}
use Rattle.pd_draft.specs.DraftState.{draft_state}
use Rattle.pd_laid.specs.Laid.{array_items}
use Rattle.pd_build.specs.Building.{IsBuilding}
use Rattle.pd_build.proofs.array.write_index.Given as goal

abbrev pub invariant-loop-i : goal.invariant-loop-i
invariant-loop-i g l = record {
  same_reference : l.draft.dev.ghost_name ≡ l.initial.draft.dev.ghost_name;
  building : IsBuilding 8 (array_items l.first l.count) (drop l.i (array_items l.first l.count)) l.builder (draft_state l.initial.draft) (draft_state l.draft);
}
