-- How much of a cache is held in memory.
-- What a repair of a cache comes to.
use Rattle.std.proofs.Common.{◌≡◌, ◌≢◌, ℕ, ◌+◌, Bool, ◌||◌, not, cond, List, [], ◌∷◌, length, map, refl, sym, ◌∙◌, ap, subst, ◌⊎◌, inl, inr, ⊎_elim, ◌<◌, ◌≤◌, true, false, nat_eq, Option, Some, None, IfSome, Result, Ok, Err, arith}
use Rattle.std.specs.Prelude.{count_by}
use Rattle.std.proofs.lemmas.List.{length-map}
use Rattle.std.proofs.lemmas.List.Sums.{sum_by-cons}
use Rattle.std.specs.Option.{unwrap_or}
use Rattle.std.proofs.lemmas.Option.{IfSome_then}
use Rattle.std.proofs.lemmas.Bool.{eqb-true, not-false, or_cases, or_parts}
use Rattle.pd_kinds.specs.Meaning.{CacheEntry, CacheMeaning}
use Rattle.pd_kinds.specs.declared.kind.Kind.TheVariants.{Cache}
use Rattle.pd_kinds.specs.declared.kind.Stage.TheVariants.{Super}
use Rattle.pd_kinds.specs.CacheFormat.{CacheFields, are_cache_sizes_bad, cache_fields, cache_super_bad, cache_super_tests}
use Rattle.pd_kinds.specs.Graph.{block_at}
use Rattle.pd_kinds.specs.Image.{is_meta_size_bad, room_of}
use Rattle.pd_kinds.specs.Objects.{DeviceState}
use Rattle.pd_kinds.specs.Stages.{cache_checked, checked_of, faults}
use Rattle.pd_kinds.specs.declared.rule.Rule.{Rule}
use Rattle.pd_kinds.specs.declared.rules.Rules.{Rules}
use Rattle.pd_kinds.specs.Rule.{has_rule}
use Rattle.pd_kinds.proofs.CrashLemmas.{Image}
use Rattle.pd_kinds.proofs.CleanLemmas.{no_faults_at}
use Rattle.pd_kinds.proofs.CacheTable.{super_sound}
use Rattle.pd_kinds.proofs.SoundLemmas.{IsSound, tests_after_two}
use Rattle.pd_grammar.specs.CacheText.{cache_need, need_of_cache}
use Rattle.pd_laid.specs.CacheRoots.{unknown_words}
use Rattle.pd_laid.specs.SavedCache.{saved_cache_from}
use Rattle.pd_answers.specs.declared.request.CacheRoots.{CacheRoots}
use Rattle.pd_answers.specs.KeptCache.{with_roots}
use Rattle.pd_restoring.specs.declared.fault.MadeFault.{MadeFault}
use Rattle.pd_restoring.specs.Made.{ending_of, lacking, unbegun}
use Rattle.pd_restoring.proofs.EndingLemmas.{resting, resting_short}
use Rattle.pd_restoring.specs.declared.fault.MadeFault.TheVariants as m
use Rattle.pd_salvage_cache.specs.declared.saved.Row.{Row}
use Rattle.pd_salvage_cache.specs.SavedCache.{entry, HeldCache, held_cache, head_of}
use Rattle.pd_restore_kinds.specs.Caches.{IsCacheMadeOf, cache_content}
use Rattle.pd_salvage.specs.declared.saved.SalvageFault.{SalvageFault}
use Rattle.pd_salvage.specs.declared.saved.SalvageFault.TheVariants as s
use Rattle.pd_repair.specs.declared.cache_repair.KeptCache.{KeptCache}
use Rattle.pd_repair.specs.CacheRepaired.{IsKept, IsCacheRepaired, IsCacheRepairedFrom, IsSoundCacheSuper}
use Rattle.pd_repair.specs.declared.repair.RepairFault.{RepairFault}
use Rattle.pd_repair.specs.Faults.{made_fault, output_ending, salvage_fault}
use Rattle.pd_repair.specs.Repaired.{HasSuper, IsFirst, IsOfFaults}
use Rattle.pd_repair.proofs.SuperLemmas.{broken_reported, first_faults, none_reported}
use Rattle.pd_repair.specs.declared.repair.RepairFault.TheVariants as f

hot_entries : (clean : Bool) (rows : List Row) → count_by (λ (row : Row). row.dirty || not clean) rows ≡ count_by (λ (e : CacheEntry). e.dirty || not clean) (map entry rows)
hot_entries clean [] = refl
hot_entries clean (row ∷ rows) =
    sum_by-cons (λ (r : Row). cond (r.dirty || not clean) 1 0) row rows
    ∙ (ap (λ (n : ℕ). cond (row.dirty || not clean) 1 0 + n) (hot_entries clean rows)
    ∙ sym (sum_by-cons (λ (e : CacheEntry). cond (e.dirty || not clean) 1 0) (entry row) (map entry rows)))

pub kept_is : (saved : HeldCache) (kept : KeptCache) (rows : List Row) (clean : Bool) → rows ≡ saved.rows → clean ≡ saved.head.clean → kept.entries ≡ length rows → kept.blocks ≡ saved.head.blocks
    → kept.dirty ≡ count_by (λ (row : Row). row.dirty || not clean) rows → kept.unknown ≡ saved.unknown → IsKept kept (held_cache saved) saved.unknown
kept_is saved kept rows clean are shut entries blocks dirty unknown = record {
  entries = entries ∙ (ap (λ (rs : List Row). length rs) are ∙ sym (length-map saved.rows entry));
  blocks = blocks;
  dirty = dirty ∙ (ap (λ (rs : List Row). count_by (λ (row : Row). row.dirty || not clean) rs) are
      ∙ (ap (λ (c : Bool). count_by (λ (row : Row). row.dirty || not c) saved.rows) shut ∙ hot_entries saved.head.clean saved.rows));
  unknown = unknown;
}

both_told : {X : Type 0} {P Q R : X → Type 0} (held : Option X) → IfSome held P → IfSome held Q → ((x : X) → P x → Q x → R x) → IfSome held R
both_told None p q both = tt
both_told (Some x) p q both = both x p q

-- how much is kept of what is told
pub kept_told : (kept : KeptCache) (saved : HeldCache) (fields : CacheFields) (held : Option Image) → IsKept kept (held_cache saved) saved.unknown
    → IfSome held (λ image. held_cache saved ≡ saved_cache_from fields image) → IfSome held (λ image. saved.unknown ≡ unknown_words fields image)
    → IfSome held (λ image. IsKept kept (saved_cache_from fields image) (unknown_words fields image))
kept_told kept saved fields held is cache unknown = both_told held cache unknown (λ image same number.
    subst (λ (n : ℕ). IsKept kept (saved_cache_from fields image) n) number (subst (λ (m : CacheMeaning). IsKept kept m saved.unknown) same is))

pub cache_bad : (image : Image) → (checked_of Cache image).super_bad ≡ cache_super_bad
unfolding cache_checked
cache_bad image = refl

-- the fields of a superblock that breaks no rule are in range
pub record IsInRange (blocks : ℕ) (fields : CacheFields) : Type 0 where
  pub version : (fields.version ≡ 1) ⊎ (fields.version ≡ 2)
  pub hint_size : (fields.hint_size ≡ 0) ⊎ (fields.hint_size ≡ 4)
  pub within : fields.meta_map.blocks ≤ blocks

is_one_of : (n a b : ℕ) → (nat_eq n a || nat_eq n b) ≡ true → (n ≡ a) ⊎ (n ≡ b)
is_one_of n a b is = ⊎_elim (λ first. inl (eqb-true n a first)) (λ second. inr (eqb-true n b second)) (or_cases (nat_eq n a) (nat_eq n b) is)

pub sound_fields : (blocks : ℕ) (block : List ℕ) → IsSound (cache_super_bad blocks block) → IsInRange blocks (cache_fields block)
unfolding cache_super_bad cache_super_tests are_cache_sizes_bad
sound_fields blocks block sound =
    let fields = cache_fields block in
    let tests = tests_after_two _ _ _ _ (cache_super_tests blocks block) sound in
    let super = super_sound blocks block sound in
    let sizes = or_parts (is_meta_size_bad blocks fields.meta_map.blocks) _ tests.1.0 in
    record {
      version = is_one_of fields.version 1 2 (not-false (nat_eq fields.version 1 || nat_eq fields.version 2) tests.1.1.1.0);
      hint_size = is_one_of fields.hint_size 0 4 (not-false (nat_eq fields.hint_size 0 || nat_eq fields.hint_size 4) sizes.1);
      within = super.within;
    }

-- so they are with other roots
pub named_range : (named : CacheRoots) (blocks : ℕ) (fields : CacheFields) → IsInRange blocks fields → IsInRange blocks (with_roots named fields)
unfolding with_roots
named_range named blocks fields range = record { version = range.version; hint_size = range.hint_size; within = range.within }

-- a superblock that breaks no rule
pub found_sound : (from : DeviceState) (blocks : ℕ) (first : List ℕ) (s : CacheFields) → blocks ≡ from.blocks → IfSome from.held (IsFirst blocks first)
    → IsSound (cache_super_bad blocks first) → s ≡ cache_fields first → IsSoundCacheSuper s from
found_sound from blocks first s number found sound is =
    let range = sound_fields blocks first sound in
    rw (is, sym number) (record {
      hints = range.hint_size;
      there = range.within;
      right = IfSome_then from.held found (λ image here. (
        let at : block_at image 0 ≡ first = rw here.content refl in ap cache_fields (sym at),
        first_faults Cache cache_super_bad cache_bad blocks first image here ∙ no_faults_at 0 (cache_super_bad blocks first) sound,
      ));
    })

-- one that breaks rules
pub broken_faults : (held : Option Image) (blocks : ℕ) (first : List ℕ) (rules : Rules) → IfSome held (IsFirst blocks first)
    → ((rule : Rule) → has_rule rules rule ≡ cache_super_bad blocks first rule) → (((rule : Rule) → has_rule rules rule ≡ false) → ⊥)
    → IfSome held (λ image. faults Cache Super image ≢ [])
broken_faults held blocks first rules found same broken =
    IfSome_then held (broken_reported Cache cache_super_bad cache_bad held blocks first rules found same broken) (λ image of. of.0)

-- the cache that is saved of what is told, and what is unknown of it
cache_in : CacheFields → Option Image → CacheMeaning
cache_in fields held = saved_cache_from fields (unwrap_or held [])

unknown_in : CacheFields → Option Image → ℕ
unknown_in fields held = unknown_words fields (unwrap_or held [])

cache_told : (fields : CacheFields) (held : Option Image)
    → IfSome held (λ image. (cache_in fields held ≡ saved_cache_from fields image) × (unknown_in fields held ≡ unknown_words fields image))
unfolding cache_in unknown_in
cache_told fields None = tt
cache_told fields (Some image) = (refl, refl)

-- it needs what its superblock says, whatever is saved of it
need_in : (fields : CacheFields) (held : Option Image) (version room : ℕ) → cache_need version (cache_in fields held) room ≡ need_of_cache version fields.blocks fields.hint_size room
unfolding cache_in saved_cache_from
need_in fields held version room = refl

-- there is no room
pub no_room : (fields : CacheFields) (version : Option ℕ) (need room : ℕ) (from device : DeviceState) → room ≡ room_of device.blocks
    → need ≡ need_of_cache (unwrap_or version fields.version) fields.blocks fields.hint_size room → room < need
    → IsCacheRepairedFrom fields version (Err (f.NoRoom need room)) from from device device
no_room fields version need room from device here is small =
    let cache = cache_in fields from.held in
    let written = unwrap_or version fields.version in
    record {
      cache = cache;
      unknown = unknown_in fields from.held;
      right = cache_told fields from.held;
      kept = tt;
      output = resting_short (cache_content written cache) need room device here (is ∙ sym (need_in fields from.held written room)) small;
      early = λ _. refl;
    }

-- there is room
pub room_fits : (fields : CacheFields) (version : Option ℕ) (need room : ℕ) (device : DeviceState) → room ≡ room_of device.blocks
    → need ≡ need_of_cache (unwrap_or version fields.version) fields.blocks fields.hint_size room → need ≤ room
    → need_of_cache (unwrap_or version fields.version) fields.blocks fields.hint_size (room_of device.blocks) ≤ room_of device.blocks
room_fits fields version need room device here is fits =
    let there : need_of_cache (unwrap_or version fields.version) fields.blocks fields.hint_size room ≤ room = omega (arith, is, fits) in rw here at there

module _ (fields : CacheFields) (version : Option ℕ) (from to old : DeviceState) where
  abbrev written : ℕ
  written = unwrap_or version fields.version

  abbrev room : ℕ
  room = room_of old.blocks

  module _ (fits : need_of_cache written fields.blocks fields.hint_size room ≤ room) where
    -- nothing was saved: memory was wanting, or the input failed
    pub never_saved : (fault : SalvageFault) (result : Result KeptCache RepairFault) → result ≡ Err (salvage_fault fault) → IsCacheRepairedFrom fields version result from to old old
    never_saved fault result is =
        let cache = cache_in fields from.held in
        let need = need_in fields from.held written room in
        record {
          cache = cache;
          unknown = unknown_in fields from.held;
          right = cache_told fields from.held;
          kept = rw is tt;
          output = rw is (unwritten cache fault);
          early = λ small. absurd (omega arith);
        }
      where
        unwritten : (cache : CacheMeaning) (fault : SalvageFault) → IsCacheMadeOf written cache (output_ending {T = KeptCache} (Err (salvage_fault fault))) old old
        unwritten cache s.Memory = resting (cache_content written cache) lacking old (λ none. none) tt
        unwritten cache s.Device = resting (cache_content written cache) unbegun old (λ none. none) tt

    module _ (saved : HeldCache) (cache_is : IfSome from.held (λ image. held_cache saved ≡ saved_cache_from fields image))
        (unknown_is : IfSome from.held (λ image. saved.unknown ≡ unknown_words fields image))
        (head : saved.head ≡ head_of fields) (new : DeviceState) where
      right : IfSome from.held (λ image. (held_cache saved ≡ saved_cache_from fields image) × (saved.unknown ≡ unknown_words fields image))
      right = both_told from.held cache_is unknown_is (λ image cache unknown. (cache, unknown))

      room_there : room < cache_need written (held_cache saved) room → ⊥
      room_there small =
          let same : cache_need written (held_cache saved) room ≡ need_of_cache written fields.blocks fields.hint_size room = rw head refl in
          omega (arith, small, same)

      -- what was saved wasn't written
      pub never_made : (fault : MadeFault) (result : Result KeptCache RepairFault) → result ≡ Err (made_fault fault)
          → IsCacheMadeOf written (held_cache saved) (ending_of (Err fault)) old new → IsCacheRepairedFrom fields version result from to old new
      never_made fault result is made = record {
        cache = held_cache saved;
        unknown = saved.unknown;
        right = right;
        kept = rw is tt;
        output = rw is (made_as fault made);
        early = λ small. absurd (room_there small);
      }
        where
          made_as : (fault : MadeFault) → IsCacheMadeOf written (held_cache saved) (ending_of (Err fault)) old new
              → IsCacheMadeOf written (held_cache saved) (output_ending {T = KeptCache} (Err (made_fault fault))) old new
          made_as m.Memory made = made
          made_as m.Device made = made
          made_as (m.NoRoom need blocks) made = made

      -- it was
      pub all_made : (kept : KeptCache) → IsKept kept (held_cache saved) saved.unknown → IsCacheMadeOf written (held_cache saved) (ending_of (Ok tt)) old new
          → IsCacheRepairedFrom fields version (Ok kept) from to old new
      all_made kept number made = record {
        cache = held_cache saved;
        unknown = saved.unknown;
        right = right;
        kept = number;
        output = made;
        early = λ small. absurd (room_there small);
      }

-- the superblock with the roots that are named
fields_in : CacheRoots → Option Image → CacheFields
fields_in named held = with_roots named (cache_fields (block_at (unwrap_or held []) 0))

version_asked : (version : Option ℕ) (own : ℕ) → IfSome version (λ v. unwrap_or version own ≡ v)
version_asked None own = tt
version_asked (Some v) own = refl

-- a fault of the superblock, or of its read
pub never_repaired : (version : Option ℕ) (named : CacheRoots) (few : ℕ) (fault : RepairFault) (from to device : DeviceState) → output_ending {T = KeptCache} (Err fault) ≡ unbegun → to.reads ≤ few
    → IfSome from.held (λ image. IsOfFaults fault (faults Cache Super image)) → IsCacheRepaired version named few (Err fault) from to device device
unfolding fields_in cache_in unknown_in
never_repaired version named few fault from to device early reads rules =
    let fields = fields_in named from.held in
    let written = unwrap_or version fields.version in
    let cache = cache_in fields from.held in
    record {
      cache = cache;
      unknown = unknown_in fields from.held;
      written = written;
      asked = version_asked version fields.version;
      right = told from.held;
      rules = rules;
      kept = tt;
      output = rw early (resting (cache_content written cache) unbegun device (λ none. none) tt);
      early = λ _. reads;
    }
  where
    told : (held : Option Image) → IfSome held (λ image.
        let fields = with_roots named (cache_fields (block_at image 0)) in
        (cache_in (fields_in named held) held ≡ saved_cache_from fields image)
        × ((unknown_in (fields_in named held) held ≡ unknown_words fields image) × (unwrap_or version (fields_in named held).version ≡ unwrap_or version fields.version)))
    told None = tt
    told (Some image) = (refl, (refl, refl))

-- a repair from a superblock that breaks no rule
pub repaired_sound : (version : Option ℕ) (named : CacheRoots) (result : Result KeptCache RepairFault) (blocks : ℕ) (first : List ℕ) (from to old new : DeviceState) → IfSome from.held (IsFirst blocks first)
    → IsSound (cache_super_bad blocks first) → HasSuper result → IsCacheRepairedFrom (with_roots named (cache_fields first)) version result from to old new
    → IsCacheRepaired version named from.reads result from to old new
repaired_sound version named result blocks first from to old new found sound other done = record {
  cache = done.cache;
  unknown = done.unknown;
  written = unwrap_or version (with_roots named (cache_fields first)).version;
  asked = version_asked version (with_roots named (cache_fields first)).version;
  right = both_told from.held found done.right (λ image here right.
      let at : block_at image 0 ≡ first = rw here.content refl in (
        right.0 ∙ ap (λ (block : List ℕ). saved_cache_from (with_roots named (cache_fields block)) image) (sym at),
        (
          right.1 ∙ ap (λ (block : List ℕ). unknown_words (with_roots named (cache_fields block)) image) (sym at),
          ap (λ (block : List ℕ). unwrap_or version (with_roots named (cache_fields block)).version) (sym at),
        ),
      ));
  rules = none_reported Cache cache_super_bad cache_bad result from.held blocks first found sound other;
  kept = done.kept;
  output = done.output;
  early = λ small. let same = done.early small in omega (arith, same);
}

-- what is told of the input stays where it is read
pub repaired_later : (version : Option ℕ) (named : CacheRoots) (few : ℕ) (result : Result KeptCache RepairFault) (from later to old new : DeviceState) → later.held ≡ from.held → later.reads ≤ few
    → IsCacheRepaired version named later.reads result later to old new → IsCacheRepaired version named few result from to old new
repaired_later version named few result from later to old new same reads done = record {
  cache = done.cache;
  unknown = done.unknown;
  written = done.written;
  asked = done.asked;
  right = rw same at done.right;
  rules = rw same at done.rules;
  kept = done.kept;
  output = done.output;
  early = λ small. let most = done.early small in omega (arith, most, reads);
}
