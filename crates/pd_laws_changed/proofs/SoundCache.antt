-- What is known of a cache without faults: its superblock is valid, and no two entries have one origin.
use Rattle.std.proofs.Common.{◌≡◌, inl, inr, ℕ, suc, ◌+◌, Bool, true, false, not, ◌&&◌, nat_eq, List, [], ◌∷◌, length, get_or, drop, map, filter, refl, sym, ap, ap₂, ◌∙◌, arith, eq-eqb}
use Rattle.std.specs.List.{range_with_len}
use Rattle.std.proofs.lemmas.Bool.{and_from, cases_Bool, not-false, or_left, or_parts, or_right, true≢false}
use Rattle.std.proofs.lemmas.Simd.{map-map}
use Rattle.pd_kinds.specs.declared.kind.Kind.TheVariants.{Cache}
use Rattle.pd_kinds.specs.declared.rule.Rule.{Rule}
use Rattle.pd_kinds.specs.CacheFormat.{CacheFields, cache_fields, cache_graph, cache_super_bad, cache_super_tests}
use Rattle.pd_kinds.specs.Field.{has_checksum, le}
use Rattle.pd_kinds.specs.Graph.{Graph, block_at}
use Rattle.pd_kinds.specs.Meaning.{CacheEntry, cache_dirty_bits, cache_entry, cache_hints, cache_meaning}
use Rattle.pd_kinds.specs.Rule.{same_rule, alone, failing}
use Rattle.pd_kinds.specs.Stages.{HasCleanSuper, cache_checked, faults}
use Rattle.pd_kinds.specs.Super.{is_super_of, is_valid_super, magic_of, salt_of}
use Rattle.pd_kinds.specs.Whole.{array_words, cache_whole, has_repeat, is_valid_word, mapping_array, origin_of_word, whole_bad}
use Rattle.pd_kinds.proofs.CleanLemmas.{clean_super_where_none, whole_where_none}
use Rattle.pd_kinds.proofs.SoundLemmas.{IsSound, others_hold, tests_after_two}
use Rattle.pd_kinds.specs.declared.kind.Stage.TheVariants as stages
use Rattle.pd_kinds.specs.declared.rule.Rule.TheVariants as r
use Rattle.pd_kinds.specs.declared.kind.Kind.TheVariants as kinds
use Rattle.pd_tree.specs.Search.{HasCacheRoots}
use Rattle.pd_meaning_cache.proofs.SoundCache.{drop_next, first_left}

-- the first test doesn't fail where it would fail alone
pub first_holds : (first : Rule) (fails : Bool) (others : Rule → Bool) → same_rule first first ≡ true → alone first fails others first ≡ false → fails ≡ false
unfolding alone
first_holds first true others same holds = absurd (true≢false (sym same ∙ holds))
first_holds first false others same holds = refl

-- the superblock of a cache that breaks no rule has its checksum, and is valid
pub super_checksum : (blocks : ℕ) (block : List ℕ) → IsSound (cache_super_bad blocks block) → has_checksum block (salt_of Cache) ≡ true
unfolding cache_super_bad
super_checksum blocks block sound = not-false (has_checksum block (salt_of Cache)) (first_holds r.Checksum (not (has_checksum block (salt_of Cache))) _ refl (sound r.Checksum))

valid_block : (blocks : ℕ) (block : List ℕ) → IsSound (cache_super_bad blocks block) → is_valid_super block ≡ true
unfolding cache_super_bad cache_super_tests is_valid_super is_super_of
valid_block blocks block sound =
    let rest = others_hold r.Checksum (not (has_checksum block (salt_of Cache))) (alone r.Magic (not (nat_eq (le block 32 8) (magic_of Cache))) (failing (cache_super_tests blocks block))) sound in
    let magic = not-false (nat_eq (le block 32 8) (magic_of Cache)) (first_holds r.Magic (not (nat_eq (le block 32 8) (magic_of Cache))) _ refl (rest r.Magic)) in
    let tests = tests_after_two _ _ _ _ (cache_super_tests blocks block) sound in
    let place = not-false (nat_eq (le block 8 8) 0) tests.1.1.1.1.0 in
    or_right (is_super_of kinds.Thin block) _ (or_left (is_super_of Cache block) _ (and_from _ _ (super_checksum blocks block sound) (and_from _ _ magic place)))

pub sound_if_clean : (image : List (List ℕ)) → HasCleanSuper (cache_checked image) image → IsSound (cache_super_bad (length image) (block_at image 0))
unfolding cache_checked
sound_if_clean [] clean = absurd clean
sound_if_clean (block ∷ blocks) clean = clean

pub sound_super : (image : List (List ℕ)) → faults Cache stages.Whole image ≡ [] → IsSound (cache_super_bad (length image) (block_at image 0))
unfolding faults
sound_super image none = sound_if_clean image (clean_super_where_none (cache_checked image) image (stages.Walk ∷ stages.Order ∷ stages.Whole ∷ []) none)

pub valid_super : (image : List (List ℕ)) → faults Cache stages.Whole image ≡ [] → is_valid_super (block_at image 0) ≡ true
valid_super image none = valid_block (length image) (block_at image 0) (sound_super image none)

-- the origin of a block, and whether it is valid
abbrev pub origin_at : List ℕ → ℕ → ℕ
origin_at all i = origin_of_word (get_or all i 0)

abbrev pub is_valid_at : List ℕ → ℕ → Bool
is_valid_at all i = is_valid_word (get_or all i 0)

-- the origins of the valid words are those of the valid blocks
pub origins_are : (all words : List ℕ) (i : ℕ) → words ≡ drop i all
    → map origin_of_word (filter is_valid_word words) ≡ map (origin_at all) (filter (is_valid_at all) (range_with_len i (length words)))
origins_are all [] i is = refl
origins_are all (word ∷ words) i is =
    let here : word ≡ get_or all i 0 = ap (λ (xs : List ℕ). get_or xs 0 0) is ∙ first_left i all in
    let rest : words ≡ drop (suc i) all = ap (drop 1) is ∙ drop_next i all in
    let one_more : suc i ≡ i + 1 = omega arith in
    let later =
    origins_are all words (suc i) rest
    ∙ ap (λ (j : ℕ). map (origin_at all) (filter (is_valid_at all) (range_with_len j (length words)))) one_more in
    rw (← here) (elim (cases_Bool (is_valid_word word)) [
      | inl valid ↦ rw valid (ap₂ (λ (x : ℕ) (xs : List ℕ). x ∷ xs) (ap origin_of_word here) later)
      | inr other ↦ rw other later
    ])

-- a test holds where it isn't found to fail at its block
pub holds_here : (fails : Bool) (b : ℕ) (broken : Rule) → same_rule broken broken ≡ true → (fails && (nat_eq b b && same_rule broken broken)) ≡ false → fails ≡ false
holds_here true b broken same holds = absurd (true≢false (sym (rw (eq-eqb b b refl, same) refl) ∙ holds))
holds_here false b broken same holds = refl

module _ (image : List (List ℕ)) (none : faults Cache stages.Whole image ≡ []) (roots : HasCacheRoots (cache_graph (block_at image 0)) image (cache_fields (block_at image 0))) where
  abbrev fields : CacheFields
  fields = cache_fields (block_at image 0)

  abbrev graph : Graph
  graph = cache_graph (block_at image 0)

  abbrev words : List ℕ
  words = array_words graph image (mapping_array image)

  -- no two valid words have one origin
  pub single_words : has_repeat (map origin_of_word (filter is_valid_word words)) ≡ false
  unfolding faults cache_checked whole_bad cache_whole
  single_words =
      let root = fields.mapping_root in
      let holds = whole_where_none (cache_checked image) image [] none root r.Origin roots.mappings.block in
      holds_here (has_repeat (map origin_of_word (filter is_valid_word words))) root r.Origin refl (or_parts _ _ holds).0

  -- nor do two entries
  pub single : has_repeat (map (λ (e : CacheEntry). e.origin) (cache_meaning image).entries) ≡ false
  unfolding cache_meaning
  single =
      let valid = filter (is_valid_at words) (range_with_len 0 (length words)) in
      let origins = map-map (λ (e : CacheEntry). e.origin) (cache_entry fields.version words (cache_hints graph image) (cache_dirty_bits graph image)) valid in
      rw origins (rw (origins_are words words 0 refl) at single_words)
