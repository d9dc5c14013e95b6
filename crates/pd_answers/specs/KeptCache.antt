-- Trusted base.
-- What a repair keeps of a cache, and what it would keep, as it is told before it is made.
use Rattle.std.specs.Prelude.{ℕ, List, [], ◌∷◌, ◌++◌, length, count_by, codes, decimal}
use Rattle.std.specs.List.{flat_map}
use Rattle.std.specs.Option.{unwrap_or}
use Rattle.pd_kinds.specs.CacheFormat.{CacheFields, cache_fields}
use Rattle.pd_kinds.specs.Graph.{block_at}
use Rattle.pd_kinds.specs.Meaning.{CacheMeaning}
use Rattle.pd_laid.specs.SavedCache.{saved_cache_from}
use Rattle.pd_laid.specs.CacheRoots.{FullerRoot, fuller_roots, unknown_words}
use Rattle.pd_answers.specs.declared.request.CacheRoots.{CacheRoots}
use Rattle.pd_answers.specs.Writebacks.{is_hot}

-- a cache's superblock with these roots in place of its own; what isn't named stays
unfoldable pub with_roots : CacheRoots → CacheFields → CacheFields
with_roots named fields = record fields {
  mapping_root = unwrap_or named.mappings fields.mapping_root;
  hint_root = unwrap_or named.hints fields.hint_root;
  dirty_root = unwrap_or named.dirty fields.dirty_root;
}

-- The line of what is kept of a cache: how many entries, of how many cache blocks; how many of them a kernel takes for dirty, which is
-- each of them where the cache wasn't shut down; and of how many cache blocks the mapping word is lost, so that nobody knows
-- whether they held something, and whether it was dirty
abbrev pub kept_line : ℕ → ℕ → ℕ → ℕ → List ℕ
kept_line entries blocks dirty unknown =
    codes "keeps " ++ (decimal entries ++ (codes " of " ++ (decimal blocks ++ (codes " blocks, " ++ (decimal dirty
    ++ (codes " dirty, " ++ (decimal unknown ++ (codes " unknown" ++ (10 ∷ [])))))))))

abbrev pub keeps_line : CacheMeaning → ℕ → List ℕ
keeps_line m unknown = kept_line (length m.entries) m.blocks (count_by (is_hot m) m.entries) unknown

-- the line of a fuller mapping array: its root, how many of its words are saved, and how many entries a repair would keep from it
abbrev pub root_line : FullerRoot → List ℕ
root_line root =
    codes "root " ++ (decimal root.root ++ (codes " words " ++ (decimal root.words ++ (codes " entries " ++ (decimal root.entries ++ (10 ∷ []))))))

-- what a repair of a cache with these roots would keep, and the roots of fuller mapping arrays, if there are any
unfoldable pub kept_cache_text : CacheRoots → List (List ℕ) → List ℕ
kept_cache_text named image =
    let fields = with_roots named (cache_fields (block_at image 0)) in
    keeps_line (saved_cache_from fields image) (unknown_words fields image) ++ flat_map root_line (fuller_roots fields image)
