-- How many blocks a cache and an era target take. A map of no blocks has no overflow, and its need says where it begins.
use Rattle.std.proofs.Common.{◌≡◌, ℕ, ◌^◌, ◌≤◌, [], ◌++◌, length, refl, sym, ◌∙◌, ap, arith}
use Rattle.std.proofs.lemmas.List.{length-append}
use Rattle.pd_kinds.specs.Meaning.{CacheMeaning, EraMeaning}
use Rattle.pd_grammar.specs.CacheText.{need_of_cache, cache_need}
use Rattle.pd_grammar.specs.EraText.{need_of_era, era_need}
use Rattle.pd_laid.specs.Laid.{laid_number, overflow_items, meta_overflow}
use Rattle.pd_laid.specs.LaidCache.{mapping_blocks, hint_blocks, dirty_blocks, discard_blocks, cache_parts, meta_map_at, cache_named, meta_map_blocks, laid_cache}
use Rattle.pd_laid.proofs.CacheNeed.{cache_number}
use Rattle.pd_laid.proofs.NeedLemmas.{era_number}
use Rattle.pd_laid.specs.LaidEra as era
use Rattle.pd_laws_laid.proofs.MapLemmas.{named_overflow}
use Rattle.pd_laws_laid.proofs.CacheNamed.{cache_named_once}
use Rattle.pd_laws_laid.proofs.EraNamed.{era_named_once}

module _ (m : CacheMeaning) (version : ℕ) where
  none_of_none : meta_overflow 0 (cache_named m version) ≡ []
  unfolding overflow_items
  none_of_none = refl

  begins_inside : meta_map_at m version ≤ laid_number (laid_cache m version 0)
  unfolding laid_cache cache_parts
  begins_inside =
      let behind_dirty = dirty_blocks m version ++ discard_blocks m version in
      omega (
        arith,
        length-append (cache_parts m version) (meta_map_blocks m version 0),
        length-append (mapping_blocks m version) (hint_blocks m version ++ behind_dirty),
        length-append (hint_blocks m version) behind_dirty,
        length-append (dirty_blocks m version) (discard_blocks m version),
      )

  more_room : (n : ℕ) → need_of_cache version m.blocks m.hint_size 0 ≤ need_of_cache version m.blocks m.hint_size n
  unfolding need_of_cache
  more_room n = omega arith

  pub cache_takes_need : (n : ℕ) → cache_need version m n ≤ 2 ^ 64 → laid_number (laid_cache m version n) ≡ cache_need version m n
  cache_takes_need n fits =
      let least = cache_number m version 0 none_of_none in
      let begins = begins_inside in
      let more = more_room n in
      cache_number m version n (named_overflow n (meta_map_at m version) (cache_named m version) (cache_named_once m version (omega arith)))

module _ (m : EraMeaning) (one_each : m.blocks ≡ length m.eras) where
  no_overflow : meta_overflow 0 (era.era_named m) ≡ []
  unfolding overflow_items
  no_overflow = refl

  starts_inside : era.meta_map_at m ≤ laid_number (era.laid_era m 0)
  unfolding era.laid_era era.era_parts
  starts_inside = omega (arith, length-append (era.era_parts m) (era.meta_map_blocks m 0), length-append (era.era_blocks m) (era.writeset_blocks m))

  era_more_room : (n : ℕ) → need_of_era (length m.eras) 0 ≤ need_of_era (length m.eras) n
  unfolding need_of_era
  era_more_room n = omega arith

  pub era_takes_need : (n : ℕ) → era_need m n ≤ 2 ^ 64 → laid_number (era.laid_era m n) ≡ era_need m n
  era_takes_need n fits =
      let same : era_need m n ≡ need_of_era (length m.eras) n = ap (λ (blocks : ℕ). need_of_era blocks n) one_each in
      let least = era_number m 0 no_overflow in
      let begins = starts_inside in
      let more = era_more_room n in
      era_number m n (named_overflow n (era.meta_map_at m) (era.era_named m) (era_named_once m (omega arith))) ∙ sym same
