-- A dump that wasn't put yet.
use Rattle.std.specs.Prelude.{ℕ, List, [], Option, Some, None}
use Rattle.pd_kinds.specs.CacheFormat.{CacheFields}
use Rattle.pd_meaning_cache.specs.declared.cache_rows.CacheRows.{CacheRows}
use Rattle.pd_dumps.specs.declared.cache.CacheDump.{CacheDump}
use Rattle.pd_dumps.specs.CacheLines.{rows_dump_text}

-- the text of what is left to be put
abbrev pub left_text : List (List ℕ) → CacheFields → Option CacheRows → List ℕ
left_text image fields None = []
left_text image fields (Some rows) = rows_dump_text image fields rows

-- its text
abbrev pub text_left : List (List ℕ) → CacheDump → List ℕ
text_left image dump = left_text image dump.s dump.rows
