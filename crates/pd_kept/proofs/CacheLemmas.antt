-- What a repair of a cache would keep is told as its definition says.
use Rattle.std.proofs.Common.{◌≡◌, ◌⊎◌, ℕ, ◌≤◌, List, [], ◌++◌, map, Option, IfSome, refl, sym, ◌∙◌, ap, ap₂}
use Rattle.std.specs.List.{flat_map}
use Rattle.std.proofs.lemmas.List.Folds.{flat_map-map}
use Rattle.pd_kinds.specs.CacheFormat.{CacheFields, cache_fields}
use Rattle.pd_kinds.specs.Graph.{block_at}
use Rattle.pd_kinds.specs.declared.kind.Kind.TheVariants.{Cache}
use Rattle.pd_kinds.specs.declared.kind.Stage.TheVariants.{Super}
use Rattle.pd_kinds.specs.Objects.{DeviceState}
use Rattle.pd_kinds.specs.Stages.{faults}
use Rattle.pd_laid.specs.CacheRoots.{fuller_roots, unknown_words}
use Rattle.pd_laid.specs.SavedCache.{saved_cache_from}
use Rattle.pd_answers.specs.declared.request.CacheRoots.{CacheRoots}
use Rattle.pd_answers.specs.KeptCache.{keeps_line, kept_cache_text, root_line, with_roots}
use Rattle.pd_tree.proofs.NextLemmas.{if_both}
use Rattle.pd_repair.specs.declared.cache_repair.KeptCache.{KeptCache}
use Rattle.pd_repair.specs.CacheRepaired.{IsKept, IsSoundCacheSuper}
use Rattle.pd_salvage_cache.specs.declared.fuller.FullerRoot.{FullerRoot}
use Rattle.pd_salvage_cache.specs.Fuller.{root_as}
use Rattle.pd_kept.specs.declared.cache_query.KeptWithRoots.{KeptWithRoots}
use Rattle.pd_kept.specs.KeptCache.{cache_text, text_from, told_line, told_root}

line_is : (kept : KeptCache) (fields : CacheFields) (image : List (List ℕ)) → IsKept kept (saved_cache_from fields image) (unknown_words fields image)
    → told_line kept ≡ keeps_line (saved_cache_from fields image) (unknown_words fields image)
line_is kept fields image is = rw (is.entries, is.blocks, is.dirty, is.unknown) refl

lines_are : (roots : List FullerRoot) (fields : CacheFields) (image : List (List ℕ)) → map root_as roots ≡ fuller_roots fields image
    → flat_map told_root roots ≡ flat_map root_line (fuller_roots fields image)
lines_are roots fields image are = sym (flat_map-map root_line root_as roots) ∙ ap (λ rs. flat_map root_line rs) are

-- the text, by what is kept and the roots
pub text_told : (held : Option (List (List ℕ))) (fields : CacheFields) (kept : KeptCache) (roots : List FullerRoot)
    → IfSome held (λ image. IsKept kept (saved_cache_from fields image) (unknown_words fields image))
    → IfSome held (λ image. map root_as roots ≡ fuller_roots fields image)
    → IfSome held (λ image. told_line kept ++ flat_map told_root roots ≡ text_from fields image)
text_told held fields kept roots is are =
    if_both held (λ image held_is number found. ap₂ (λ (line lines : List ℕ). line ++ lines) (line_is kept fields image number) (lines_are roots fields image found)) is are

-- other roots change nothing of a superblock's sizes
pub sizes_fit : (named : CacheRoots) (s : CacheFields) (from : DeviceState) → IsSoundCacheSuper s from
    → ((with_roots named s).meta_map.blocks ≤ from.blocks) × (((with_roots named s).hint_size ≡ 0) ⊎ ((with_roots named s).hint_size ≡ 4))
unfolding with_roots
sizes_fit named s from sound = (sound.there, sound.hints)

-- what is told from the roots of a sound superblock, and those that are named, answers
pub is_answer : (named : CacheRoots) (held : Option (List (List ℕ))) (s : CacheFields) (told : KeptWithRoots)
    → IfSome held (λ image. (s ≡ cache_fields (block_at image 0)) × (faults Cache Super image ≡ []))
    → IfSome held (λ image. cache_text told ≡ text_from (with_roots named s) image)
    → IfSome held (λ image. faults Cache Super image ≡ [] → cache_text told ≡ kept_cache_text named image)
unfolding kept_cache_text
is_answer named held s told found text =
    if_both held (λ image held_is right is none. is ∙ ap (λ (fields : CacheFields). text_from (with_roots named fields) image) right.0) found text
