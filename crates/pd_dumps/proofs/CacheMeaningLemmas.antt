-- The lines of what is given of a cache without faults are those of its meaning.
use Rattle.std.proofs.Common.{◌≡◌, ℕ, zero, suc, ◌+◌, ◌-◌, ◌^◌, ◌<◌, ◌≤◌, min, Bool, true, false, not, ◌&&◌, cond, nat_eq, get_or, List, [], ◌∷◌, ◌++◌, length, map, filter, Option, IfSome, refl, sym, ap, ◌∙◌, arith}
use Rattle.std.specs.List.{AllByRecursion, range_with_len}
use Rattle.std.proofs.lemmas.Bool.{or_parts, not-false, eqb-true}
use Rattle.std.proofs.lemmas.List.Concat.{flat_map-append}
use Rattle.pd_kinds.specs.declared.kind.Kind.TheVariants.{Cache}
use Rattle.pd_kinds.specs.declared.kind.Stage.TheVariants.{Order, Walk, Whole}
use Rattle.pd_kinds.specs.declared.rule.Rule.{Rule}
use Rattle.pd_kinds.specs.Rule.{same_rule}
use Rattle.pd_kinds.specs.CacheFormat.{CacheFields, cache_fields, cache_graph}
use Rattle.pd_kinds.specs.Image.{HasBytes}
use Rattle.pd_kinds.specs.Graph.{block_at}
use Rattle.pd_kinds.specs.Meaning.{CacheEntry, cache_dirty_bits, cache_entry, cache_hints, cache_meaning}
use Rattle.pd_kinds.specs.Stages.{HasCleanSuper, cache_checked, faults}
use Rattle.pd_kinds.specs.Whole.{WholeTest, array_whole, array_words, bitmap_tests, cache_arrays, cache_whole, is_array_index_bad, is_valid_word, mapping_array, whole_bad}
use Rattle.pd_kinds.proofs.KindsListLemmas.{none_last}
use Rattle.pd_kinds.proofs.ResultLemmas.{if_both}
use Rattle.pd_kinds.proofs.CleanLemmas.{clean_super_where_none, whole_where_none}
use Rattle.pd_kinds.specs.declared.rule.Rule.TheVariants as r
use Rattle.pd_grammar.specs.Texts.{text_of_lines, written}
use Rattle.pd_grammar.specs.CacheText.{Line, cache, cache_line, end_line, first_line, row_of, text_of_cache}
use Rattle.pd_tree.specs.Search.{HasCacheRoots}
use Rattle.pd_meaning_cache.specs.declared.cache_rows.CacheRow.{CacheRow}
use Rattle.pd_meaning_cache.specs.Rows.{GivesCache, entry_of, rows_below}
use Rattle.pd_meaning_cache.proofs.SoundCache.{not_failed}
use Rattle.pd_texts.specs.ThinLine.{end_text, text_of_line}
use Rattle.pd_dumps.specs.declared.cache.CacheDump.{CacheDump}
use Rattle.pd_dumps.specs.CacheDump.{text_left}
use Rattle.pd_dumps.specs.CacheLines.{cache_dump_text, given_line, super_head, rest_text, rows_text}

-- the line of an entry whose block may not fit
abbrev capped : CacheEntry → Line
capped e = row_of (record { block = min e.block (2 ^ 32 - 1); origin = e.origin; dirty = e.dirty; hint = e.hint })

-- the lines of rows are those of their entries
by_entries : (rows : List CacheRow) → map given_line rows ≡ map capped (map entry_of rows)
by_entries [] = refl
by_entries (row ∷ rows) = ap (λ (lines : List Line). given_line row ∷ lines) (by_entries rows)

-- an entry whose block fits has its own line
fits_line : (e : CacheEntry) → e.block < 2 ^ 32 → capped e ≡ row_of e
fits_line e fits = let same : min e.block (2 ^ 32 - 1) ≡ e.block = omega arith in rw same refl

lines_are : (entries : List CacheEntry) → AllByRecursion (λ (e : CacheEntry). e.block < 2 ^ 32) entries → map capped entries ≡ map row_of entries
lines_are [] fit = refl
lines_are (e ∷ entries) fit = rw (fits_line e fit.0, lines_are entries fit.1) refl

-- the blocks of the entries of some numbers fit
kept_fits : (entry_at : ℕ → CacheEntry) (keeps : Bool) (i : ℕ) (is : List ℕ) → (entry_at i).block < 2 ^ 32 → AllByRecursion (λ (e : CacheEntry). e.block < 2 ^ 32) (map entry_at is)
    → AllByRecursion (λ (e : CacheEntry). e.block < 2 ^ 32) (map entry_at (cond keeps (i ∷ is) is))
kept_fits entry_at true i is first others = (first, others)
kept_fits entry_at false i is first others = others

blocks_fit : (entry_at : ℕ → CacheEntry) (keeps : ℕ → Bool) → ((i : ℕ) → (entry_at i).block ≡ i) → (first n : ℕ) → first + n ≤ 2 ^ 32
    → AllByRecursion (λ (e : CacheEntry). e.block < 2 ^ 32) (map entry_at (filter keeps (range_with_len first n)))
blocks_fit entry_at keeps own first zero most = tt
blocks_fit entry_at keeps own first (suc n) most =
    let this = own first in
    kept_fits entry_at (keeps first) first (filter keeps (range_with_len (first + 1) n)) (omega arith) (blocks_fit entry_at keeps own (first + 1) n (omega arith))

-- an image without faults has a block
some_if_clean : (image : List (List ℕ)) → HasCleanSuper (cache_checked image) image → 1 ≤ length image
some_if_clean [] clean = absurd clean
some_if_clean (block ∷ blocks) clean = let more : 0 ≤ length blocks = omega arith in omega arith

pub has_some : (image : List (List ℕ)) → faults Cache Whole image ≡ [] → 1 ≤ length image
unfolding faults
has_some image none = some_if_clean image (clean_super_where_none (cache_checked image) image (Walk ∷ Order ∷ Whole ∷ []) none)

module _ (image : List (List ℕ)) (none : faults Cache Whole image ≡ []) (roots : HasCacheRoots (cache_graph (block_at image 0)) image (cache_fields (block_at image 0))) where
  abbrev fields : CacheFields
  fields = cache_fields (block_at image 0)

  abbrev words : List ℕ
  words = array_words (cache_graph (block_at image 0)) image (mapping_array image)

  -- the mapping array has as many words as the cache has blocks
  mapping_length : length words ≡ fields.blocks
  unfolding faults cache_checked whole_bad cache_whole cache_arrays array_whole
  mapping_length =
      let graph = cache_graph (block_at image 0) in
      let root = fields.mapping_root in
      let at : (rule : Rule) → WholeTest → Bool = λ rule t. t.fails && (nat_eq t.block root && same_rule t.rule rule) in
      let none_of = λ (rule : Rule). whole_where_none (cache_checked image) image [] none root rule roots.mappings.block in
      let behind = λ (rule : Rule). none_last (at rule) (bitmap_tests graph image (λ role. nat_eq role 8)) _ (or_parts _ _ (none_of rule)).1 in
      let index = not_failed (is_array_index_bad graph image (mapping_array image)) root r.Index (or_parts _ _ (behind r.Index)).0 refl in
      let wrong = not_failed (not (is_array_index_bad graph image (mapping_array image)) && not (nat_eq (length (array_words graph image (mapping_array image))) fields.blocks)) root r.Length (or_parts _ _ (or_parts _ _ (behind r.Length)).1).0 refl in
      eqb-true (length (array_words graph image (mapping_array image))) fields.blocks (not-false (nat_eq (length (array_words graph image (mapping_array image))) fields.blocks) (rw index at wrong))

  module _ (few : fields.blocks < 2 ^ 32) where
    -- the blocks of the meaning's entries fit
    entries_fit : AllByRecursion (λ (e : CacheEntry). e.block < 2 ^ 32) (cache_meaning image).entries
    unfolding cache_meaning
    entries_fit =
        let graph = cache_graph (block_at image 0) in
        let many = mapping_length in
        blocks_fit (cache_entry fields.version words (cache_hints graph image) (cache_dirty_bits graph image)) (λ i. is_valid_word (get_or words i 0)) (λ i. refl) 0 (length words) (omega arith)

    -- the lines of the rows are those of the entries
    rows_are : GivesCache image → map given_line (rows_below image fields) ≡ map row_of (cache_meaning image).entries
    rows_are gives =
        by_entries (rows_below image fields) ∙ (ap (λ (es : List CacheEntry). map capped es) (sym gives.entries) ∙ lines_are (cache_meaning image).entries entries_fit)

    -- the text is that of the meaning
    pub text_is : GivesCache image → cache_dump_text image fields ≡ text_of_cache (cache_meaning image)
    unfolding text_of_cache cache_meaning
    text_is gives = ap (λ (lines : List Line). text_of_lines cache (first_line ∷ (cache_line (super_head fields) ∷ (lines ++ (end_line ∷ []))))) (rows_are gives)

-- the text of a dump over the superblock that was read
pub text_means : (held : Option (List (List ℕ))) (s : CacheFields) (dump : CacheDump) → IfSome held HasBytes
    → IfSome held (λ image. 1 ≤ length image → s ≡ cache_fields (block_at image 0)) → IfSome held (λ image. text_left image dump ≡ cache_dump_text image s)
    → ((image : List (List ℕ)) → HasBytes image → faults Cache Whole image ≡ []
    → cache_dump_text image (cache_fields (block_at image 0)) ≡ text_of_cache (cache_meaning image))
    → IfSome held (λ image. faults Cache Whole image ≡ [] → text_left image dump ≡ text_of_cache (cache_meaning image))
text_means held s dump bytes read text law =
    if_both {Q = λ image. (1 ≤ length image → s ≡ cache_fields (block_at image 0)) × (text_left image dump ≡ cache_dump_text image s)} held (λ image bytes is none. is.1 ∙ (ap (λ (fields : CacheFields). cache_dump_text image fields) (is.0 (has_some image none)) ∙ law image bytes none)) bytes
    (if_both held (λ image read text. (read, text)) read text)

-- The text of a cache's rows, one after another.

-- a row before others
pub row_first : (row : CacheRow) (left later : List CacheRow) → left ≡ row ∷ later → rows_text left ≡ text_of_line cache (given_line row) ++ rows_text later
row_first row left later is = rw is refl

-- the lines of the rows, and the last one
pub last_line : (rows : List CacheRow) → rest_text rows ≡ rows_text rows ++ end_text
last_line rows = flat_map-append (λ (line : Line). written cache line ++ (10 ∷ [])) (map given_line rows) (end_line ∷ [])
