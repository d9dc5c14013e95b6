use Rattle.std.proofs.Common.{◌≡◌, ◌++◌, map}
use Rattle.std.specs.List.{range_with_len}
use Rattle.pd_kinds.specs.Array.{word_at}
use Rattle.pd_meaning_era.proofs.era_words.add_words.Given as goal

-- the words before this one were added
abbrev pub invariant-loop-i : goal.invariant-loop-i
invariant-loop-i l = l.part.items ≡ l.initial.part.items ++ map (word_at 4 l.block.0) (range_with_len l.from l.i)
