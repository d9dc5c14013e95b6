-- What the parts of a cache name.
use Rattle.std.proofs.Common.{◌≡◌, ℕ, ◌+◌, ◌^◌, ◌≤◌, Bool, true, false, cond, List, [], ◌∷◌, ◌++◌, length, refl, arith}
use Rattle.std.specs.List.{range_with_len}
use Rattle.pd_kinds.specs.CacheFormat.{has_dirty_bits}
use Rattle.pd_kinds.specs.Layout.{tree_to}
use Rattle.pd_kinds.specs.Meaning.{CacheMeaning}
use Rattle.pd_laid.specs.Laid.{LaidBlock, named_by, count_in, tree_of, laid_array, array_root}
use Rattle.pd_laid.specs.LaidCache.{has_hints, mapping_words, mapping_blocks, hint_words, hints_at, hint_blocks, dirty_words, dirty_at, dirty_blocks, discards_at, discard_blocks, cache_parts, meta_map_at, mapping_root, hint_root, dirty_root, discard_root, cache_named}
use Rattle.pd_laws_laid.specs.Once.{NamesEachOnce}
use Rattle.pd_laws_laid.proofs.OnceTrees.{count-append, count-cons, tree_named, array_named, both_of, places_more, parts_more, as_ones}

-- an array that there may be
either_part : (there : Bool) (role size place : ℕ) (words : List ℕ) (b : ℕ) → length (cond {A = List LaidBlock} there (laid_array role size place words) []) ≤ 2 ^ 64
    → count_in (named_by (cond there (laid_array role size place words) [])) b + count_in (cond there (cond there (array_root size place words) 0 ∷ []) []) b
    ≡ count_in (range_with_len place (length (cond {A = List LaidBlock} there (laid_array role size place words) []))) b
unfolding named_by
either_part true role size place words b few =
    both_of (laid_array role size place words) (array_root size place words) (range_with_len place (length (laid_array role size place words))) b
    (array_named role size place words few)
either_part false role size place words b few = refl

module _ (m : CacheMeaning) (version : ℕ) (fits : meta_map_at m version ≤ 2 ^ 64) (b : ℕ) where
  abbrev c : List ℕ → ℕ
  c named = count_in named b

  abbrev in_places : ℕ → List LaidBlock → ℕ
  in_places place blocks = c (range_with_len place (length blocks))

  abbrev hint_roots : List ℕ
  hint_roots = cond (has_hints m) (hint_root m version ∷ []) []

  abbrev dirty_roots : List ℕ
  dirty_roots = cond (has_dirty_bits version) (dirty_root m version ∷ []) []

  mapping_part : c (named_by (mapping_blocks m version)) + c (mapping_root m version ∷ []) ≡ in_places 1 (mapping_blocks m version)
  unfolding mapping_blocks
  mapping_part =
      both_of (mapping_blocks m version) (mapping_root m version) (range_with_len 1 (length (mapping_blocks m version))) b
      (array_named 1 8 1 (mapping_words m version) (omega arith))

  hint_part : c (named_by (hint_blocks m version)) + c hint_roots ≡ in_places (hints_at m version) (hint_blocks m version)
  unfolding hint_blocks
  hint_part = either_part (has_hints m) 3 4 (hints_at m version) (hint_words m) b (omega arith)

  dirty_part : c (named_by (dirty_blocks m version)) + c dirty_roots ≡ in_places (dirty_at m version) (dirty_blocks m version)
  unfolding dirty_blocks
  dirty_part = either_part (has_dirty_bits version) 10 8 (dirty_at m version) (dirty_words m) b (omega arith)

  discard_part : c (named_by (discard_blocks m version)) + c (discard_root m version ∷ []) ≡ in_places (discards_at m version) (discard_blocks m version)
  unfolding discard_blocks
  discard_part =
      both_of (discard_blocks m version) (discard_root m version) (range_with_len (discards_at m version) (length (discard_blocks m version))) b
      (tree_named 5 (tree_of (tree_to 8 6 (λ v. v))) (discards_at m version) [] (omega arith))

  sums : c (cache_named m version) ≡ c (range_with_len 0 (meta_map_at m version))
  unfolding cache_named cache_parts
  sums =
      let parts = named_by (cache_parts m version) in
      let last = discard_root m version ∷ parts in
      let fourth = dirty_roots ++ last in
      let third = hint_roots ++ fourth in
      let mapping = mapping_part in
      let hint = hint_part in
      let dirty = dirty_part in
      let discard = discard_part in
      let behind_dirty = dirty_blocks m version ++ discard_blocks m version in
      omega (
        arith,
        count-cons 0 (mapping_root m version ∷ third) b,
        count-cons (mapping_root m version) third b,
        count-append hint_roots fourth b,
        count-append dirty_roots last b,
        count-cons (discard_root m version) parts b,
        parts_more (mapping_blocks m version) (hint_blocks m version ++ behind_dirty) b,
        parts_more (hint_blocks m version) behind_dirty b,
        parts_more (dirty_blocks m version) (discard_blocks m version) b,
        mapping,
        hint,
        dirty,
        discard,
        places_more 1 (length (mapping_blocks m version)) b,
        places_more (hints_at m version) (length (hint_blocks m version)) b,
        places_more (dirty_at m version) (length (dirty_blocks m version)) b,
        places_more (discards_at m version) (length (discard_blocks m version)) b,
      )

pub cache_named_once : (m : CacheMeaning) (version : ℕ) → meta_map_at m version ≤ 2 ^ 64 → NamesEachOnce (meta_map_at m version) (cache_named m version)
cache_named_once m version fits = as_ones (meta_map_at m version) (cache_named m version) (sums m version fits)
