use Rattle.std.proofs.Common.{◌≡◌}
use Rattle.std.specs.List.{range_with_len}
use Rattle.pd_draft.specs.Closed.{Wrote}
use Rattle.pd_draft.specs.DraftState.{draft_state}
use Rattle.pd_laid.specs.Laid.{blocks_from}
use Rattle.pd_count.specs.Counted.{count_of}
use Rattle.pd_smwrite.specs.Map.{written_bitmap}
use Rattle.pd_smwrite.proofs.bitmaps.write_bitmaps.Given as goal

abbrev pub invariant-loop-i : goal.invariant-loop-i
invariant-loop-i g l = record {
  same_reference : l.draft.dev.ghost_name ≡ l.initial.draft.dev.ghost_name;
  wrote : Wrote (blocks_from (written_bitmap (count_of l.counts)) l.initial.draft.next (range_with_len 0 l.i)) (draft_state l.initial.draft) (draft_state l.draft);
}
