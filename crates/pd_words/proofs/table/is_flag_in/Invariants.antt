use Rattle.std.proofs.Common.{◌≡◌, map, drop}
use Rattle.std.specs.List.{list_any}
use Rattle.pd_words.specs.Table.{has_flag, row_as}
use Rattle.pd_words.proofs.table.is_flag_in.Given as goal

abbrev pub invariant-loop-row : goal.invariant-loop-row
invariant-loop-row l = list_any (has_flag l.name) (map row_as l.rows) ≡ list_any (has_flag l.name) (map row_as (drop l.row-index l.rows))
