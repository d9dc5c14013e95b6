-- The text of a cache, as it is dumped.
use Rattle.std.specs.Prelude.{ℕ, ◌-◌, ◌%◌, ◌^◌, min, ◌==◌, List, [], ◌∷◌, ◌++◌, map, slice_index}
use Rattle.pd_kinds.specs.CacheFormat.{CacheFields}
use Rattle.pd_kinds.specs.Meaning.{CacheEntry}
use Rattle.pd_grammar.specs.Texts.{text_of_lines}
use Rattle.pd_grammar.specs.CacheText.{Head, Line, cache, cache_line, end_line, first_line, flag_number, row_of}
use Rattle.pd_meaning_cache.specs.declared.cache_rows.CacheRow.{CacheRow}
use Rattle.pd_meaning_cache.specs.declared.cache_rows.CacheRows.{CacheRows}
use Rattle.pd_meaning_cache.specs.Rows.{rows_below}
use Rattle.pd_meaning_cache.specs.Sides.{rows_ahead}

-- a row as the entry that is put: its block is at most the greatest number of its field
abbrev pub given_entry : CacheRow → CacheEntry
given_entry row = record { block = min row.block (2 ^ 32 - 1); origin = row.origin; dirty = row.dirty; hint = row.hint }

-- the line of a row
abbrev pub given_line : CacheRow → Line
given_line row = row_of (given_entry row)

-- the words of the cache's line
abbrev pub super_head : CacheFields → Head
super_head fields = record {
  uuid = fields.uuid;
  block_size = fields.block_size;
  blocks = fields.blocks;
  clean = flag_number (fields.flags % 2 == 1);
  policy = fields.policy;
  major = slice_index fields.versions 0;
  minor = slice_index fields.versions 1;
  patch = slice_index fields.versions 2;
  hint_size = fields.hint_size;
}

-- the lines of rows, and the last line
abbrev pub rest_lines : List CacheRow → List Line
rest_lines rows = map given_line rows ++ (end_line ∷ [])

-- the lines of a cache with this superblock and these rows
abbrev pub dump_lines : CacheFields → List CacheRow → List Line
dump_lines fields rows = first_line ∷ (cache_line (super_head fields) ∷ rest_lines rows)

-- the text of the cache with this superblock
abbrev pub cache_dump_text : List (List ℕ) → CacheFields → List ℕ
cache_dump_text image fields = text_of_lines cache (dump_lines fields (rows_below image fields))

-- the text of rows, and that of the rest after them
abbrev pub rows_text : List CacheRow → List ℕ
rows_text rows = text_of_lines cache (map given_line rows)

abbrev pub rest_text : List CacheRow → List ℕ
rest_text rows = text_of_lines cache (rest_lines rows)

-- the text of the cache with this superblock and the rows that are left
abbrev pub rows_dump_text : List (List ℕ) → CacheFields → CacheRows → List ℕ
rows_dump_text image fields rows = text_of_lines cache (dump_lines fields (rows_ahead image rows))
