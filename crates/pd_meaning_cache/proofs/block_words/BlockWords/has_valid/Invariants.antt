use Rattle.std.proofs.Common.{◌≡◌, ◌-◌}
use Rattle.std.specs.List.{list_any}
use Rattle.pd_kinds.specs.Whole.{is_valid_word}
use Rattle.pd_tree.specs.Cursor.{words_from}
use Rattle.pd_meaning_cache.proofs.block_words.BlockWords.has_valid.Given as goal

abbrev pub invariant-loop-i : goal.invariant-loop-i
invariant-loop-i l = list_any is_valid_word (words_from 8 l.fn.self.block.0 l.i) ≡ list_any is_valid_word (words_from 8 l.fn.self.block.0 l.fn.self.next)

abbrev pub decreases-loop-i : goal.decreases-loop-i
decreases-loop-i l = l.end - l.i
