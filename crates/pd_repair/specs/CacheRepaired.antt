-- What a repair of a cache promises.
use Rattle.std.specs.Prelude.{◌≡◌, ◌⊎◌, ℕ, ◌<◌, ◌≤◌, [], length, count_by, Option, Result, IfOk, IfSome}
use Rattle.std.specs.Option.{unwrap_or}
use Rattle.pd_kinds.specs.declared.kind.Kind.TheVariants.{Cache}
use Rattle.pd_kinds.specs.declared.kind.Stage.TheVariants.{Super}
use Rattle.pd_kinds.specs.CacheFormat.{CacheFields, cache_fields}
use Rattle.pd_kinds.specs.Graph.{block_at}
use Rattle.pd_kinds.specs.Image.{room_of}
use Rattle.pd_kinds.specs.Meaning.{CacheMeaning}
use Rattle.pd_kinds.specs.Objects.{DeviceState}
use Rattle.pd_kinds.specs.Stages.{faults}
use Rattle.pd_grammar.specs.CacheText.{cache_need}
use Rattle.pd_laid.specs.CacheRoots.{unknown_words}
use Rattle.pd_laid.specs.SavedCache.{saved_cache_from}
use Rattle.pd_answers.specs.declared.request.CacheRoots.{CacheRoots}
use Rattle.pd_answers.specs.KeptCache.{with_roots}
use Rattle.pd_answers.specs.Writebacks.{is_hot}
use Rattle.pd_restore_kinds.specs.Caches.{IsCacheMadeOf}
use Rattle.pd_repair.specs.declared.repair.RepairFault.{RepairFault}
use Rattle.pd_repair.specs.Faults.{output_ending}
use Rattle.pd_repair.specs.Repaired.{AnswersSuper}
use Rattle.pd_repair.specs.declared.cache_repair.KeptCache.{KeptCache}

-- how much is kept of a cache, and how much is unknown; an entry counts as dirty where a kernel takes it for dirty
pub record IsKept (kept : KeptCache) (m : CacheMeaning) (lost : ℕ) : Type 0 where
  pub entries : kept.entries ≡ length m.entries
  pub blocks : kept.blocks ≡ m.blocks
  pub dirty : kept.dirty ≡ count_by (is_hot m) m.entries
  pub unknown : kept.unknown ≡ lost

-- this is the superblock of a device, and breaks no rule
pub record IsSoundCacheSuper (s : CacheFields) (from : DeviceState) : Type 0 where
  pub hints : (s.hint_size ≡ 0) ⊎ (s.hint_size ≡ 4)
  pub there : s.meta_map.blocks ≤ from.blocks
  pub right : IfSome from.held (λ image. (s ≡ cache_fields (block_at image 0)) × (faults Cache Super image ≡ []))

-- a repair from a superblock of these fields: what is saved is written in the version that is asked for, or else in the
-- superblock's own
pub record IsCacheRepairedFrom (fields : CacheFields) (version : Option ℕ) (result : Result KeptCache RepairFault) (from to old new : DeviceState) : Type 0 where
  pub cache : CacheMeaning
  pub unknown : ℕ
  pub right : IfSome from.held (λ image. (cache ≡ saved_cache_from fields image) × (unknown ≡ unknown_words fields image))
  pub kept : IfOk result (λ kept. IsKept kept cache unknown)
  pub output : IsCacheMadeOf (unwrap_or version fields.version) cache (output_ending result) old new
  -- the room is looked at before a block is read
  pub early : room_of old.blocks < cache_need (unwrap_or version fields.version) cache (room_of old.blocks) → to.reads ≡ from.reads

-- a repair, from the superblock with the roots that are named: rules are reported exactly where the superblock breaks them, and
-- only a read can fail before; where there is no room, so many blocks were read at the most
pub record IsCacheRepaired (version : Option ℕ) (named : CacheRoots) (few : ℕ) (result : Result KeptCache RepairFault) (from to old new : DeviceState) : Type 0 where
  pub cache : CacheMeaning
  pub unknown : ℕ
  -- the version of the metadata that is written: the one that is asked for, or else the input's own
  pub written : ℕ
  pub asked : IfSome version (λ v. written ≡ v)
  pub right : IfSome from.held (λ image.
      let fields = with_roots named (cache_fields (block_at image 0)) in
      (cache ≡ saved_cache_from fields image) × ((unknown ≡ unknown_words fields image) × (written ≡ unwrap_or version fields.version)))
  pub rules : IfSome from.held (λ image. AnswersSuper result (faults Cache Super image))
  pub kept : IfOk result (λ kept. IsKept kept cache unknown)
  pub output : IsCacheMadeOf written cache (output_ending result) old new
  -- the room is looked at before more than so many reads
  pub early : room_of old.blocks < cache_need written cache (room_of old.blocks) → to.reads ≤ few
