-- What a repair of a cache would keep, as it is told.
use Rattle.std.specs.Prelude.{ℕ, List, ◌++◌}
use Rattle.std.specs.List.{flat_map}
use Rattle.pd_kinds.specs.CacheFormat.{CacheFields}
use Rattle.pd_laid.specs.CacheRoots.{fuller_roots, unknown_words}
use Rattle.pd_laid.specs.SavedCache.{saved_cache_from}
use Rattle.pd_answers.specs.KeptCache.{keeps_line, kept_line, root_line}
use Rattle.pd_repair.specs.declared.cache_repair.KeptCache.{KeptCache}
use Rattle.pd_salvage_cache.specs.declared.fuller.FullerRoot.{FullerRoot}
use Rattle.pd_salvage_cache.specs.Fuller.{root_as}
use Rattle.pd_kept.specs.declared.cache_query.KeptWithRoots.{KeptWithRoots}

-- the line of what is kept
abbrev pub told_line : KeptCache → List ℕ
told_line kept = kept_line kept.entries kept.blocks kept.dirty kept.unknown

-- the line of a root
abbrev pub told_root : FullerRoot → List ℕ
told_root root = root_line (root_as root)

-- all lines
abbrev pub cache_text : KeptWithRoots → List ℕ
cache_text told = told_line told.kept ++ flat_map told_root told.roots.items

-- those of a cache with a superblock of these fields
abbrev pub text_from : CacheFields → List (List ℕ) → List ℕ
text_from fields image = keeps_line (saved_cache_from fields image) (unknown_words fields image) ++ flat_map root_line (fuller_roots fields image)
