use Rattle.std.proofs.Common.{◌≡◌, map, drop, string_bytes}
use Rattle.pd_answers.specs.Words.{items_of, tool_in}
use Rattle.pd_words.specs.Table.{row_as}
use Rattle.pd_words.proofs.items.row_named.Given as goal

abbrev pub invariant-loop-row : goal.invariant-loop-row
invariant-loop-row l =
    tool_in (map row_as l.rows) l.name (items_of (drop 1 (map string_bytes l.words)))
    ≡ tool_in (map row_as (drop l.row-index l.rows)) l.name (items_of (drop 1 (map string_bytes l.words)))
