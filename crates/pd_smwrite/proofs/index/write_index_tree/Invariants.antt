use Rattle.std.proofs.Common.{◌≡◌, drop}
use Rattle.pd_draft.specs.DraftState.{draft_state}
use Rattle.pd_laid.specs.Laid.{index_items}
use Rattle.pd_build.specs.Building.{IsBuilding}
use Rattle.pd_count.specs.Counted.{count_of}
use Rattle.pd_smwrite.proofs.index.write_index_tree.Given as goal

abbrev pub invariant-loop-i : goal.invariant-loop-i
invariant-loop-i g l = record {
  same_reference : l.draft.dev.ghost_name ≡ l.initial.draft.dev.ghost_name;
  building : IsBuilding 16 (index_items (count_of l.counts) l.counts.size l.first) (drop l.i (index_items (count_of l.counts) l.counts.size l.first)) l.builder (draft_state l.initial.draft) (draft_state l.draft);
}
