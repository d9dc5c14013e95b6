use Rattle.std.proofs.Common.{◌≡◌, take, drop, length}
use Rattle.pd_kinds.specs.Node.{inner_block}
use Rattle.pd_draft.specs.Closed.{Wrote}
use Rattle.pd_draft.specs.DraftState.{draft_state}
use Rattle.pd_laid.specs.Laid.{blocks_from, heads, even_parts}
use Rattle.pd_build.specs.Tree.{link_entries}
use Rattle.pd_build.proofs.UpperLemmas.{IsHalf}
use Rattle.pd_build.proofs.upper.write_level.Given as goal

abbrev pub invariant-loop-i : goal.invariant-loop-i
invariant-loop-i g l = record {
  same_reference : l.draft.dev.ghost_name ≡ l.initial.draft.dev.ghost_name;
  half : IsHalf l.nodes (link_entries l.initial.level) l.i l.used;
  below : drop l.used l.level ≡ drop l.used l.initial.level;
  heads_are : link_entries (take l.i l.level) ≡ heads l.initial.draft.next (take l.i (even_parts l.nodes (link_entries l.initial.level)));
  wrote : Wrote (blocks_from inner_block l.initial.draft.next (take l.i (even_parts l.nodes (link_entries l.initial.level)))) (draft_state l.initial.draft) (draft_state l.draft);
  same_length : length l.level ≡ length l.initial.level;
}
