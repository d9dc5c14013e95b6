use Rattle.std.proofs.Common.{◌≡◌, ◌-◌, ◌<◌, ◌≤◌}
use Rattle.pd_draft.specs.DraftState.{draft_state}
use Rattle.pd_laid.specs.Laid.{overflow_items}
use Rattle.pd_build.specs.Building.{IsBuilding}
use Rattle.pd_count.specs.Counted.{count_of}
use Rattle.pd_smwrite.proofs.OverflowLemmas.{items_from}
use Rattle.pd_smwrite.proofs.bitmaps.write_overflow.Given as goal

abbrev pub invariant-loop-high : goal.invariant-loop-high
invariant-loop-high g l = record {
  same_reference : l.draft.dev.ghost_name ≡ l.initial.draft.dev.ghost_name;
  building : IsBuilding 4 (overflow_items (count_of l.counts) l.counts.size) (items_from (count_of l.counts) l.high (l.counts.size - l.high)) l.builder (draft_state l.initial.draft) (draft_state l.draft);
  is_size : l.size ≡ l.counts.size;
  within : l.high ≤ l.counts.size;
  high : l.high < l.counts.size → 3 ≤ count_of l.counts l.high;
}

abbrev pub decreases-loop-high : goal.decreases-loop-high
decreases-loop-high g l = l.size - l.high
