use Rattle.std.proofs.Common.{◌≡◌, ◌+◌}
use Rattle.pd_restore_kinds.specs.CacheRoots.{StandsAt}
use Rattle.pd_restore_kinds.specs.CacheRoots.{bits_below}
use Rattle.pd_restore_kinds.proofs.cache_words.dirty_word.Given as goal

abbrev pub invariant-loop-i : goal.invariant-loop-i
invariant-loop-i l = record {
  stands : StandsAt l.rows l.at (l.first + l.i);
  word : l.word ≡ bits_below l.rows l.first l.i;
}
