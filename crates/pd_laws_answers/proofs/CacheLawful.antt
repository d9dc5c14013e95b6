-- The meaning of a cache without faults is lawful.
use Rattle.std.proofs.Common.{◌≡◌, ◌⊎◌, inl, inr, ℕ, ◌^◌, ◌<◌, Bool, true, false, not, ◌&&◌, ◌||◌, nat_eq, List, [], ◌∷◌, ◌++◌, length, get_or, filter, refl, arith}
use Rattle.std.specs.List.{All, list_any, range_with_len}
use Rattle.std.proofs.lemmas.Bool.{cases_Bool, cond_both, eqb-true, not-false, or_parts}
use Rattle.pd_kinds.specs.declared.kind.Kind.TheVariants.{Cache}
use Rattle.pd_kinds.specs.declared.rule.Rule.{Rule}
use Rattle.pd_kinds.specs.Rule.{same_rule}
use Rattle.pd_kinds.specs.CacheFormat.{CacheFields, cache_fields, cache_graph, cache_super_bad, cache_super_tests, are_cache_sizes_bad}
use Rattle.pd_kinds.specs.Graph.{Graph, block_at}
use Rattle.pd_kinds.specs.Image.{is_meta_size_bad, HasBytes}
use Rattle.pd_kinds.specs.Meaning.{cache_dirty_bits, cache_hints, cache_meaning}
use Rattle.pd_kinds.specs.Stages.{HasCleanSuper, cache_checked, faults}
use Rattle.pd_kinds.specs.Trees.{entries_below}
use Rattle.pd_kinds.specs.Whole.{WholeTest, array_whole, array_words, bitmap_tests, cache_arrays, cache_whole, is_array_index_bad, mapping_array, whole_bad}
use Rattle.pd_kinds.proofs.FieldLemmas.{le-lt}
use Rattle.pd_kinds.proofs.ListLemmas.{all_of}
use Rattle.pd_kinds.proofs.CleanLemmas.{clean_super_where_none, whole_where_none}
use Rattle.pd_kinds.proofs.SoundLemmas.{IsSound, tests_after_two}
use Rattle.pd_kinds.specs.declared.kind.Stage.TheVariants as stages
use Rattle.pd_kinds.specs.declared.rule.Rule.TheVariants as r
use Rattle.pd_grammar.specs.Lawful.{AreEntries, IsLawfulCache}
use Rattle.pd_tree.specs.Search.{HasCacheRoots}
use Rattle.pd_meaning_cache.proofs.SoundCache.{roots_inside}
use Rattle.pd_laws_changed.proofs.SoundCache.{holds_here, is_valid_at, origin_at, origins_are, single_words}
use Rattle.pd_laws_answers.proofs.WordLemmas.{IsNew, entries_lawful, filter_ascends, DoWordsFit, field_fits, first_whole, word_fits, words_fit}

-- a number that is 0 or 4, by its test
one_of : (n : ℕ) → (nat_eq n 0 || nat_eq n 4) ≡ true → (n ≡ 0) ⊎ (n ≡ 4)
one_of n either = elim (cases_Bool (nat_eq n 0)) [
  | inl none ↦ inl (eqb-true n 0 none)
  | inr some ↦ inr (eqb-true n 4 (rw some at either))
]

-- the hint size of a sound superblock
pub hint_size_in : (blocks : ℕ) (block : List ℕ) → IsSound (cache_super_bad blocks block) → ((cache_fields block).hint_size ≡ 0) ⊎ ((cache_fields block).hint_size ≡ 4)
unfolding cache_super_bad cache_super_tests are_cache_sizes_bad
hint_size_in blocks block sound =
    let tests = tests_after_two _ _ _ _ (cache_super_tests blocks block) sound in
    let size = (cache_fields block).hint_size in
    one_of size (not-false (nat_eq size 0 || nat_eq size 4) (or_parts (is_meta_size_bad blocks (cache_fields block).meta_map.blocks) _ tests.1.0).1)

hint_size_if_clean : (image : List (List ℕ)) → HasCleanSuper (cache_checked image) image
    → ((cache_fields (block_at image 0)).hint_size ≡ 0) ⊎ ((cache_fields (block_at image 0)).hint_size ≡ 4)
unfolding cache_checked
hint_size_if_clean [] clean = absurd clean
hint_size_if_clean (block ∷ blocks) clean = hint_size_in (length (block ∷ blocks)) block clean

hint_size_is : (image : List (List ℕ)) → faults Cache stages.Whole image ≡ []
    → ((cache_fields (block_at image 0)).hint_size ≡ 0) ⊎ ((cache_fields (block_at image 0)).hint_size ≡ 4)
unfolding faults
hint_size_is image none = hint_size_if_clean image (clean_super_where_none (cache_checked image) image (stages.Walk ∷ stages.Order ∷ stages.Whole ∷ []) none)

-- where none of some passes, none of the last ones does
none_last : {X : Type 0} → (p : X → Bool) (xs ys : List X) → list_any p (xs ++ ys) ≡ false → list_any p ys ≡ false
none_last p [] ys holds = holds
none_last p (x ∷ xs) ys holds = none_last p xs ys (or_parts (p x) (list_any p (xs ++ ys)) holds).1

-- no hint where the hint size is 0
none_at : (words : List ℕ) → words ≡ [] → (i : ℕ) → get_or words i 0 ≡ 0
none_at [] is i = refl
none_at (w ∷ words) is i = absurd cc

module _ (image : List (List ℕ)) (bytes : HasBytes image) (none : faults Cache stages.Whole image ≡ []) (roots : HasCacheRoots (cache_graph (block_at image 0)) image (cache_fields (block_at image 0))) where
  abbrev block : List ℕ
  block = block_at image 0

  abbrev fields : CacheFields
  fields = cache_fields block

  abbrev graph : Graph
  graph = cache_graph block

  abbrev words : List ℕ
  words = array_words graph image (mapping_array image)

  -- there are as many words as the cache has blocks
  number : length words ≡ fields.blocks
  unfolding faults cache_checked whole_bad cache_whole cache_arrays array_whole
  number =
      let root = fields.mapping_root in
      let at : (rule : Rule) → WholeTest → Bool = λ rule t. t.fails && (nat_eq t.block root && same_rule t.rule rule) in
      let holds = λ (rule : Rule). whole_where_none (cache_checked image) image [] none root rule roots.mappings.block in
      let behind = λ (rule : Rule). none_last (at rule) (bitmap_tests graph image (λ role. nat_eq role 8)) _ (or_parts _ _ (holds rule)).1 in
      let bad = is_array_index_bad graph image (mapping_array image) in
      let index = holds_here bad root r.Index refl (or_parts _ _ (behind r.Index)).0 in
      let other = holds_here (not bad && not (nat_eq (length words) fields.blocks)) root r.Length refl (or_parts _ _ (or_parts _ _ (behind r.Length)).1).0 in
      eqb-true (length words) fields.blocks (not-false (nat_eq (length words) fields.blocks) (rw index at other))

  -- an origin is the upper six bytes of a word, and a hint has four bytes
  origin_fits : (i : ℕ) → origin_at words i < 2 ^ 48
  origin_fits i =
      let word = word_fits (2 ^ 64) words (omega arith) (words_fit 8 image bytes (entries_below graph image 8 1 fields.mapping_root)) i in
      omega arith

  hints_fit : DoWordsFit 4 (cache_hints graph image)
  unfolding cache_hints
  hints_fit =
      cond_both (nat_eq fields.hint_size 4 && not (nat_eq fields.hint_root 0)) _ [] (DoWordsFit 4)
      (λ there. words_fit 4 image bytes (entries_below graph image 8 3 fields.hint_root)) (λ other. tt)

  no_hints : fields.hint_size ≡ 0 → cache_hints graph image ≡ []
  unfolding cache_hints
  no_hints zero = rw zero refl

  -- so the entries are lawful
  entries : AreEntries fields.blocks fields.hint_size 0 [] (cache_meaning image).entries
  unfolding cache_meaning
  entries =
      let valid = filter (is_valid_at words) (range_with_len 0 (length words)) in
      entries_lawful fields.blocks fields.hint_size fields.version words (cache_hints graph image) (cache_dirty_bits graph image)
      origin_fits (word_fits (2 ^ 32) (cache_hints graph image) (omega arith) hints_fit) (λ zero. none_at (cache_hints graph image) (no_hints zero))
      valid 0 []
      (filter_ascends (is_valid_at words) fields.blocks 0 0 (length words) (omega arith) (omega (arith, number)))
      (rw (origins_are words words 0 refl) at (single_words image none roots))
      (all_of (λ i. IsNew [] (origin_at words i)) (λ i. refl) valid)

  pub cache_lawful : All (λ b. length b ≡ 4096) image → IsLawfulCache (cache_meaning image)
  unfolding cache_meaning
  cache_lawful whole =
      let size = first_whole image fields.mapping_root (roots_inside image none roots).mappings whole in
      let uuid = field_fits block 16 16 (bytes 0) (omega (arith, size)) in
      let policy = field_fits block 44 16 (bytes 0) (omega (arith, size)) in
      record {
        uuid_len = uuid.0;
        uuid_bytes = uuid.1;
        block_size_fits = le-lt block 232 4 (bytes 0);
        blocks_fit = le-lt block 240 4 (bytes 0);
        policy_len = policy.0;
        policy_bytes = policy.1;
        three_versions = refl;
        versions_fit = (le-lt block 272 4 (bytes 0), (le-lt block 276 4 (bytes 0), (le-lt block 280 4 (bytes 0), tt)));
        hint_size_is = hint_size_is image none;
        entries = entries;
      }
