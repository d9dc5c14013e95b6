use Rattle.std.proofs.Common.{◌≡◌, ◌*◌, drop}
use Rattle.pd_draft.specs.DraftState.{draft_state}
use Rattle.pd_build.specs.Building.{IsFilling}
use Rattle.pd_restore_kinds.specs.CacheRoots.{StandsAt}
use Rattle.pd_restore_kinds.specs.CacheRoots.{bytes_of, span, words_of}
use Rattle.pd_restore_kinds.proofs.cache_parts.write_words.Given as goal

abbrev pub invariant-loop-i : goal.invariant-loop-i
invariant-loop-i g l = record {
  same_reference : l.draft.dev.ghost_name ≡ l.initial.draft.dev.ghost_name;
  stands : StandsAt l.rows l.at (span l.words * l.i);
  filling : IsFilling (bytes_of l.words) (words_of l.words l.rows l.count) (drop l.i (words_of l.words l.rows l.count)) l.builder (draft_state l.initial.draft) (draft_state l.draft);
}
