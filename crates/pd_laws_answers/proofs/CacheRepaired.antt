-- What an answered repair of a cache comes to.
use Rattle.std.proofs.Common.{◌≡◌, ◌⊎◌, inl, inr, ℕ, ◌<◌, ◌≤◌, ◌||◌, nat_eq, true, List, [], ◌∷◌, length, Option, Some, None, IfSome, refl, sym, ap, ◌∙◌, subst, arith}
use Rattle.std.specs.Option.{unwrap_or}
use Rattle.std.proofs.lemmas.Bool.{cases_Bool, eqb-true, not-false}
use Rattle.std.proofs.lemmas.Option.{IfSome_then}
use Rattle.pd_kinds.specs.declared.kind.Kind.TheVariants.{Cache}
use Rattle.pd_kinds.specs.CacheFormat.{CacheFields, cache_fields, cache_super_bad, cache_super_tests}
use Rattle.pd_kinds.specs.Crash.{HoldsSynced}
use Rattle.pd_kinds.specs.Graph.{block_at}
use Rattle.pd_kinds.specs.Image.{HasBytes, IsImage, room_of}
use Rattle.pd_kinds.specs.Meaning.{CacheMeaning, cache_meaning}
use Rattle.pd_kinds.specs.Objects.{Appends}
use Rattle.pd_kinds.specs.Stages.{HasCleanSuper, cache_checked, faults}
use Rattle.pd_kinds.proofs.FieldLemmas.{le-lt}
use Rattle.pd_kinds.proofs.CleanLemmas.{clean_super_where_none}
use Rattle.pd_kinds.proofs.SoundLemmas.{IsSound, tests_after_two}
use Rattle.pd_kinds.specs.declared.kind.Stage.TheVariants as stages
use Rattle.pd_grammar.specs.CacheText.{cache_need}
use Rattle.pd_grammar.specs.Lawful.{AreEntries, IsLawfulCache}
use Rattle.pd_laid.specs.Laid.{IsLaid}
use Rattle.pd_laid.specs.LaidCache.{laid_cache}
use Rattle.pd_laid.specs.CacheRoots.{unknown_words}
use Rattle.pd_laid.specs.SavedCache.{saved_cache, saved_cache_from}
use Rattle.pd_answers.specs.declared.request.CacheRoots.{CacheRoots}
use Rattle.pd_answers.specs.KeptCache.{keeps_line, with_roots}
use Rattle.pd_answers.specs.Terms.{NoFaults, Objects}
use Rattle.pd_answers.specs.Repairs.{SavedIn, making_in, saved_in}
use Rattle.pd_answers.specs.Outputs.{IsWorkDone}
use Rattle.pd_laws_laid.specs.Clean.{IsCleanCache}
use Rattle.pd_laws_answers.specs.Exact.{IsCleanCacheIn}
use Rattle.pd_laws_answers.specs.Saved.{HoldsSavedCache, IsCacheRepairAnswered, IsSavedCache, IsSoundCacheRepair, IsVersionAsked, LeavesSavedCache, PutsKept, no_roots, saved_with, version_written}
use Rattle.pd_laws_answers.proofs.CacheLawful.{hint_size_in}
use Rattle.pd_laws_answers.proofs.Restored.{none_of_super, Image}
use Rattle.pd_laws_answers.proofs.Repaired.{IsMadeSo, answered_at_zero, at_both, holds_made, leaves_made, line_at_zero}
use Rattle.pd_laws_answers.proofs.WordLemmas.{field_fits, first_whole}

-- what is known of a superblock without faults
record HasSoundWords (image : List (List ℕ)) : Type 0 where
  some : 0 < length image
  hint_size : ((cache_fields (block_at image 0)).hint_size ≡ 0) ⊎ ((cache_fields (block_at image 0)).hint_size ≡ 4)
  version : ((cache_fields (block_at image 0)).version ≡ 1) ⊎ ((cache_fields (block_at image 0)).version ≡ 2)

-- a number that is 1 or 2, by its test
one_or_two : (n : ℕ) → (nat_eq n 1 || nat_eq n 2) ≡ true → (n ≡ 1) ⊎ (n ≡ 2)
one_or_two n either = elim (cases_Bool (nat_eq n 1)) [
  | inl one ↦ inl (eqb-true n 1 one)
  | inr other ↦ inr (eqb-true n 2 (rw other at either))
]

version_in : (blocks : ℕ) (block : List ℕ) → IsSound (cache_super_bad blocks block) → ((cache_fields block).version ≡ 1) ⊎ ((cache_fields block).version ≡ 2)
unfolding cache_super_bad cache_super_tests
version_in blocks block sound =
    let tests = tests_after_two _ _ _ _ (cache_super_tests blocks block) sound in
    let version = (cache_fields block).version in
    one_or_two version (not-false (nat_eq version 1 || nat_eq version 2) tests.1.1.1.0)

words_if_clean : (image : List (List ℕ)) → HasCleanSuper (cache_checked image) image → HasSoundWords image
unfolding cache_checked
words_if_clean [] clean = absurd clean
words_if_clean (block ∷ blocks) clean = record {
  some = omega arith;
  hint_size = hint_size_in (length (block ∷ blocks)) block clean;
  version = version_in (length (block ∷ blocks)) block clean;
}

words_are : (image : List (List ℕ)) → faults Cache stages.Super image ≡ [] → HasSoundWords image
unfolding faults
words_are image none = words_if_clean image (clean_super_where_none (cache_checked image) image [] none)

-- the roots that are named change nothing else, and where none is they change nothing
same_version : (named : CacheRoots) (fields : CacheFields) → (with_roots named fields).version ≡ fields.version
unfolding with_roots
same_version named fields = refl

none_named : (fields : CacheFields) → with_roots no_roots fields ≡ fields
unfolding with_roots
none_named fields = refl

-- so what is saved is lawful
pub saved_cache_lawful : ((fields : CacheFields) (image : List (List ℕ)) → HasBytes image → AreEntries fields.blocks fields.hint_size 0 [] (saved_cache_from fields image).entries)
    → (named : CacheRoots) (image : List (List ℕ)) → IsImage image → faults Cache stages.Super image ≡ [] → IsLawfulCache (saved_with named image)
unfolding saved_cache_from with_roots
saved_cache_lawful entries named image is none =
    let block = block_at image 0 in
    let words = words_are image none in
    let size = first_whole image 0 words.some is.blocks in
    let uuid = field_fits block 16 16 (is.bytes 0) (omega (arith, size)) in
    let policy = field_fits block 44 16 (is.bytes 0) (omega (arith, size)) in
    record {
      uuid_len = uuid.0;
      uuid_bytes = uuid.1;
      block_size_fits = le-lt block 232 4 (is.bytes 0);
      blocks_fit = le-lt block 240 4 (is.bytes 0);
      policy_len = policy.0;
      policy_bytes = policy.1;
      three_versions = refl;
      versions_fit = (le-lt block 272 4 (is.bytes 0), (le-lt block 276 4 (is.bytes 0), (le-lt block 280 4 (is.bytes 0), tt)));
      hint_size_is = words.hint_size;
      entries = entries (with_roots named (cache_fields block)) image is.bytes;
    }

-- and it is written in version 1 or 2
version_known : (version : Option ℕ) (image : List (List ℕ)) → IsVersionAsked version → faults Cache stages.Super image ≡ []
    → (version_written version image ≡ 1) ⊎ (version_written version image ≡ 2)
version_known None image asked none = (words_are image none).version
version_known (Some v) image asked none = asked

-- what is laid of it is a clean image of it
module _ (version : Option ℕ) (named : CacheRoots) (asked : IsVersionAsked version)
    (lawful : (named : CacheRoots) (image : Image) → IsImage image → faults Cache stages.Super image ≡ [] → IsLawfulCache (saved_with named image))
    (clean : (m : CacheMeaning) (v : ℕ) (base image : Image) → IsLawfulCache m → (v ≡ 1) ⊎ (v ≡ 2) → cache_need v m (room_of (length base)) ≤ room_of (length base)
    → IsLaid (laid_cache m v (room_of (length base))) base image → IsCleanCache image m)
    (version_is : (m : CacheMeaning) (v : ℕ) (base image : Image) → IsLawfulCache m → (v ≡ 1) ⊎ (v ≡ 2) → cache_need v m (room_of (length base)) ≤ room_of (length base)
    → IsLaid (laid_cache m v (room_of (length base))) base image → (cache_fields (block_at image 0)).version ≡ v) where
  caches_made_so : IsMadeSo (faults Cache stages.Super) making_in (saved_in version named) (IsSavedCache version named)
  caches_made_so image base made is none enough laid =
      let fields = cache_fields (block_at image 0) in
      let v = unwrap_or version (with_roots named fields).version in
      let m = saved_with named image in
      let same : v ≡ version_written version image = ap (unwrap_or version) (same_version named fields) in
      let known : (v ≡ 1) ⊎ (v ≡ 2) = rw same (version_known version image asked none) in
      record {
        cache = clean m v base made (lawful named image is none) known enough laid;
        version_is = version_is m v base made (lawful named image is none) known enough laid ∙ same;
      }

  module _ (from to : List ℕ) (before after : Objects) (status : ℕ) (answered : IsCacheRepairAnswered version named from to before after status) where
    pub cache_holds : IsWorkDone before after status → HoldsSavedCache version named before after
    cache_holds done =
        holds_made (faults Cache stages.Super) making_in (λ (s : SavedIn). keeps_line s.cache s.unknown) (saved_in version named) (IsSavedCache version named) caches_made_so before after answered.finding answered.found
        (answered.leaves.made.made done)

    pub cache_leaves : LeavesSavedCache version named before after
    cache_leaves =
        leaves_made (faults Cache stages.Super) making_in (λ (s : SavedIn). keeps_line s.cache s.unknown) (saved_in version named) (IsSavedCache version named) caches_made_so before after answered.finding answered.found
        answered.leaves.made.output.output.crash

-- at status 0 the line of what is kept was put
pub puts_kept : (version : Option ℕ) (named : CacheRoots) (from to : List ℕ) (before after : Objects) → IsCacheRepairAnswered version named from to before after 0 → PutsKept named before after
puts_kept version named from to before after answered =
    let given = answered.sound (omega arith) in
    let line = line_at_zero making_in (λ (s : SavedIn). keeps_line s.cache s.unknown) answered.finding (sym given.status) in
    IfSome_then before.input.held answered.found.1 (λ image right.
    subst (λ (bytes : List ℕ). Appends bytes before.out.written after.out.written) (line ∙ ap (λ (s : SavedIn). keeps_line s.cache s.unknown) right.1) given.out)

module _ (all_saved : (image : Image) → HasBytes image → faults Cache stages.Whole image ≡ [] → saved_cache image ≡ cache_meaning image)
    (version : Option ℕ) (image base : Image) (from to : List ℕ) (before after : Objects) (sound : IsSoundCacheRepair image base before) where
  -- a sound cache is repaired
  pub cache_repaired : (status : ℕ) → cache_need (version_written version image) (cache_meaning image) (room_of (length base)) ≤ room_of (length base)
      → IsCacheRepairAnswered version no_roots from to before after status → NoFaults before after → (status ≡ 0) ⊎ (status ≡ 7)
  cache_repaired status enough answered nothing =
      let zero = answered_at_zero (faults Cache stages.Super) making_in (λ (s : SavedIn). keeps_line s.cache s.unknown) (saved_in version no_roots) before after answered.finding answered.found image base sound.read sound.held (none_of_super Cache image sound.sound)
      (rw (none_named (cache_fields (block_at image 0)), all_saved image sound.is.bytes sound.sound) enough) in
      subst (λ (n : ℕ). (status ≡ n) ⊎ (status ≡ 7)) zero (answered.complete nothing)

  -- and means the same
  pub cache_same : HoldsSavedCache version no_roots before after → IfSome after.output.held (λ (made : Image). IsCleanCacheIn (version_written version image) made (cache_meaning image))
  cache_same holds =
      IfSome_then after.output.held
      (at_both before after image base (λ (i made : Image). IsSavedCache version no_roots i made × HoldsSynced made after.output) sound.read sound.held sound.is holds)
      (λ made is. subst (IsCleanCacheIn (version_written version image) made)
      (ap (λ (fields : CacheFields). saved_cache_from fields image) (none_named (cache_fields (block_at image 0))) ∙ all_saved image sound.is.bytes sound.sound) is.0)

  -- and nothing of it is unknown
  pub cache_known : unknown_words (cache_fields (block_at image 0)) image ≡ 0 → PutsKept no_roots before after → Appends (keeps_line (cache_meaning image) 0) before.out.written after.out.written
  cache_known none puts = rw (none_named (cache_fields (block_at image 0)), all_saved image sound.is.bytes sound.sound, none) at (rw sound.read at puts)
