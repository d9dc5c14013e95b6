use Rattle.std.proofs.Common.{◌≡◌, map, drop}
use Rattle.std.specs.List.{list_any}
use Rattle.pd_answers.specs.Words.{is_named}
use Rattle.pd_words.specs.Table.{word_as}
use Rattle.pd_words.proofs.table.has_word.Given as goal

abbrev pub invariant-loop-word : goal.invariant-loop-word
invariant-loop-word l = list_any (is_named l.name) (map word_as l.words) ≡ list_any (is_named l.name) (map word_as (drop l.word-index l.words))
