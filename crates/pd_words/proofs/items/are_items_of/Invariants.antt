use Rattle.std.proofs.Common.{◌≡◌, ◌-◌, length, map, drop, string_bytes, is_some}
use Rattle.pd_answers.specs.Words.{items_of, known}
use Rattle.pd_words.specs.Table.{word_as}
use Rattle.pd_words.proofs.items.are_items_of.Given as goal

abbrev pub invariant-loop-at : goal.invariant-loop-at
invariant-loop-at l =
    is_some (known (map word_as l.table) (items_of (drop l.fn.begin (map string_bytes l.words))))
    ≡ is_some (known (map word_as l.table) (items_of (drop l.at (map string_bytes l.words))))

abbrev pub decreases-loop-at : goal.decreases-loop-at
decreases-loop-at l = length l.words - l.at
