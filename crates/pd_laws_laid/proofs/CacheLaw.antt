-- A laid cache is clean, and means the cache.
use Rattle.std.proofs.Common.{◌≡◌, ◌⊎◌, ℕ, ◌+◌, ◌/◌, ◌%◌, ◌≤◌, Bool, true, false, not, ◌&&◌, nat_eq, cond, get_or, List, [], ◌∷◌, ◌++◌, length, map, filter, refl, sym, subst, ◌∙◌, ap, ap₂, arith}
use Rattle.std.specs.declared.option.Option.TheVariants.{None, Some}
use Rattle.std.specs.List.{AllByRecursion, range_with_len}
use Rattle.std.proofs.lemmas.Bool.{eqb-true, ne_eqb, not_from_true, or_from}
use Rattle.std.proofs.lemmas.List.FromFn.{length-map-range_with_len}
use Rattle.pd_kinds.specs.declared.kind.Kind.TheVariants.{Cache}
use Rattle.pd_kinds.specs.CacheFormat.{CacheFields, cache_fields, cache_graph, cache_layout, cache_super_bad, cache_super_block, has_dirty_bits}
use Rattle.pd_kinds.specs.Graph.{Graph, block_at, meta_count}
use Rattle.pd_kinds.specs.Layout.{graph_of}
use Rattle.pd_kinds.specs.Image.{room_of}
use Rattle.pd_kinds.specs.Meaning.{CacheEntry, CacheMeaning, cache_dirty_bits, cache_entry, cache_hints, cache_meaning}
use Rattle.pd_kinds.specs.Node.{Entry}
use Rattle.pd_kinds.specs.Stages.{AreClean, Checked, IsClean, cache_checked}
use Rattle.pd_kinds.specs.Trees.{entries_below, stored_meta_in}
use Rattle.pd_kinds.specs.Whole.{Array, WholeTest, are_full, array_whole, array_words, bitmap_tests, cache_arrays, cache_whole, has_repeat, is_array_index_bad, is_valid_word, mapping_array, optional_array, origin_of_word}
use Rattle.pd_kinds.proofs.ListLemmas.{all_append, all_flat_map}
use Rattle.pd_grammar.specs.CacheText.{cache_need}
use Rattle.pd_grammar.specs.Lawful.{IsLawfulCache}
use Rattle.pd_laid.specs.Laid.{array_root, IsLaid, LaidBlock, meta_counts, meta_map_number, meta_overflow}
use Rattle.pd_laid.specs.LaidCache.{cache_laid_fields, cache_named, cache_parts, dirty_at, dirty_root, dirty_word, dirty_words, discard_root, entry_of, has_hints, hint_words, hints_at, laid_cache, mapping_word, mapping_words, meta_map_at, meta_map_blocks}
use Rattle.pd_laws_laid.proofs.NeedLemmas.{cache_takes_need}
use Rattle.pd_laws_laid.specs.LaidOut.{AllFrom, AreLaidInOrder, IsInPlace, IsLaidOut, role_at, array_at}
use Rattle.pd_laws_laid.proofs.Formats.{clean_super, same_bytes, whole_holds, bitmaps_hold, laid_out_of, referred_few}
use Rattle.pd_laws_laid.proofs.LaidLemmas.{laid_in_order}
use Rattle.pd_laws_laid.proofs.Names.{length-meta_map}
use Rattle.pd_laws_laid.proofs.LaidArrays.{array_holds}
use Rattle.pd_laws_laid.specs.Clean.{IsCleanCache}
use Rattle.pd_laws_laid.proofs.CacheCounts.{bitmap_once, references_count}
use Rattle.pd_laws_laid.proofs.CacheEntries.{entries_are, origins_differ}
use Rattle.pd_laws_laid.proofs.CacheParts.{cache_all, cache_in_place, cache_number, dirty_is, discards_are, discards_lead, hint_from, hints_are, lawful_graph, mapping_is, meta_fitting, meta_is, parts_end, parts_fitting, super_edges, super_leads, all_if, array_if, one_if, root_if, words_if}
use Rattle.pd_laws_laid.proofs.CacheSuper.{IsSuperLaid, super_laid, super_seen}

-- the arrays that a superblock names
abbrev arrays_of : CacheFields → List Array
arrays_of f =
    record { role = 1; root = f.mapping_root; size = 8; lengths = f.blocks ∷ [] }
    ∷ (optional_array 3 f.hint_root 4 []
    ++ (optional_array 5 f.discard_root 8 []
    ++ one_if (has_dirty_bits f.version) (record { role = 10; root = f.dirty_root; size = 8; lengths = (f.blocks + 63) / 64 ∷ [] })))

module _ (m : CacheMeaning) (version n : ℕ) (image : List (List ℕ)) (few : n ≤ 4161600) (lawful : IsLawfulCache m) (which : (version ≡ 1) ⊎ (version ≡ 2))
    (room : meta_map_at m version + length (meta_map_blocks m version n) ≤ n) (stand : AllFrom (IsInPlace image (cache_all m version n)) 0 (cache_all m version n)) where
  abbrev this : Graph
  this = graph_of 12 n 0 (cache_layout n)

  abbrev blocks : List LaidBlock
  blocks = cache_all m version n

  abbrev end : ℕ
  end = meta_map_at m version + length (meta_map_blocks m version n)

  super_is : IsSuperLaid image m version n
  super_is = super_laid m version n image few lawful which room stand

  laid_out : IsLaidOut (graph_of 12 n 0 (cache_layout n)) image (cache_all m version n)
  unfolding graph_of cache_all
  laid_out =
      laid_out_of this image (cache_super_block (cache_laid_fields m version n)) (super_edges m version n) (cache_parts m version) (meta_map_blocks m version n) (meta_map_at m version) end
      (parts_end m version) refl room (super_seen m version n image few lawful which room stand) (super_leads m version n image few lawful room stand)
      (parts_fitting m version n image few lawful room stand) (meta_fitting m version n image few lawful room stand)

  in_order : AreLaidInOrder (graph_of 12 n 0 (cache_layout n)) image (cache_all m version n)
  in_order = laid_in_order this image blocks (lawful_graph m version n image few lawful room stand) laid_out

  few_meta : meta_map_number 7 n (meta_map_at m version) (cache_named m version) ≤ 4161600
  unfolding meta_map_blocks
  few_meta = omega (arith, length-meta_map 7 n (meta_map_at m version) (cache_named m version))

  meta_count_is : (b : ℕ) → meta_count (graph_of 12 n 0 (cache_layout n)) image b ≡ meta_counts 7 n (meta_map_at m version) (cache_named m version) b
  meta_count_is b = in_order.meta_counts b ∙ references_count m version n few_meta b

  -- a bitmap is referred to once
  one_edge : AllByRecursion (λ (t : WholeTest). t.fails ≡ false) (bitmap_tests (graph_of 12 n 0 (cache_layout n)) image (λ role. nat_eq role 8))
  one_edge =
      bitmaps_hold this image blocks in_order (λ role. nat_eq role 8)
      (λ b here. referred_few this image blocks in_order 8 b laid_out (omega arith) (eqb-true (role_at blocks b) 8 here) (bitmap_once m version n b))

  abbrev Holds : WholeTest → Type 0
  Holds t = t.fails ≡ false

  -- the arrays
  abbrev mappings : Array
  mappings = array_at 1 8 1 (mapping_words m version) (m.blocks ∷ [])

  abbrev hints : Array
  hints = array_at 3 4 (hints_at m version) (hint_words m) []

  abbrev discards : Array
  discards = record { role = 5; root = discard_root m version; size = 8; lengths = [] }

  abbrev dirty : Array
  dirty = array_at 10 8 (dirty_at m version) (dirty_words m) ((m.blocks + 63) / 64 ∷ [])

  arrays_are : cache_arrays image ≡ mappings ∷ (one_if (has_hints m) hints ++ (discards ∷ one_if (has_dirty_bits version) dirty))
  unfolding cache_arrays cache_laid_fields
  arrays_are =
      let dirty_told = one_if (has_dirty_bits version) (record { role = 10; root = dirty_root m version; size = 8; lengths = (m.blocks + 63) / 64 ∷ [] }) in
      ap arrays_of super_is.fields_are
      ∙ (ap (λ (hints : List Array). mappings ∷ (hints ++ (optional_array 5 (discard_root m version) 8 [] ++ dirty_told)))
      (array_if 3 (has_hints m) (array_root 4 (hints_at m version) (hint_words m)) 4 [] (hint_from m version n image few lawful room stand))
      ∙ (ap (λ (discards : List Array). mappings ∷ (one_if (has_hints m) hints ++ (discards ++ dirty_told)))
      (array_if 5 true (discard_root m version) 8 [] (λ there. (discards_lead m version n image few lawful room stand).from_one))
      ∙ ap (λ (dirty : List Array). mappings ∷ (one_if (has_hints m) hints ++ (discards ∷ dirty)))
      (root_if (λ (root : ℕ). record { role = 10; root = root; size = 8; lengths = (m.blocks + 63) / 64 ∷ [] }) (has_dirty_bits version) (array_root 8 (dirty_at m version) (dirty_words m)))))

  abbrev AreHeld : Array → Type 0
  AreHeld a = AllByRecursion Holds (array_whole this image a)

  mappings_hold : AreHeld mappings
  unfolding mapping_words
  mappings_hold =
      let seen = mapping_is m version n image few lawful room stand in
      array_holds this image mappings (mapping_words m version) (seen.whole (m.blocks ∷ [])) (seen.words_are (m.blocks ∷ [])) (length-map-range_with_len (λ i. mapping_word version (entry_of m i)) 0 m.blocks, tt)

  hints_hold : has_hints m ≡ true → AreHeld hints
  hints_hold there =
      let seen = (hints_are m version n image few lawful room stand).seen there in
      array_holds this image hints (hint_words m) (seen.whole []) (seen.words_are []) tt

  dirty_holds : has_dirty_bits version ≡ true → AreHeld dirty
  unfolding dirty_words
  dirty_holds there =
      let seen = (dirty_is m version n image few lawful room stand).seen there in
      let number = (m.blocks + 63) / 64 in
      array_holds this image dirty (dirty_words m) (seen.whole (number ∷ [])) (seen.words_are (number ∷ [])) (length-map-range_with_len (dirty_word m) 0 number, tt)

  -- the discard tree is an array of no words
  no_discards : entries_below (graph_of 12 n 0 (cache_layout n)) image 8 5 (discard_root m version) ≡ []
  no_discards = (discards_are m version n image few lawful room stand).root.entries_are

  discards_hold : AreHeld discards
  unfolding is_array_index_bad are_full
  discards_hold =
      array_holds this image discards (array_words this image discards) (rw no_discards (or_from _ _ (not_from_true _ (same_bytes [] [] refl)) refl)) refl tt

  -- what is read of the mapping array
  words_read : array_words (graph_of 12 n 0 (cache_layout n)) image (mapping_array image) ≡ mapping_words m version
  unfolding cache_laid_fields
  words_read =
      ap (λ (f : CacheFields). array_words this image (record { role = 1; root = f.mapping_root; size = 8; lengths = f.blocks ∷ [] })) super_is.fields_are
      ∙ (mapping_is m version n image few lawful room stand).words_are (m.blocks ∷ [])

  whole_tests : AllByRecursion (λ (t : WholeTest). t.fails ≡ false) (cache_whole (graph_of 12 n 0 (cache_layout n)) image)
  unfolding cache_whole
  whole_tests =
      let behind = discards ∷ one_if (has_dirty_bits version) dirty in (
        ap (λ (words : List ℕ). has_repeat (map origin_of_word (filter is_valid_word words))) words_read ∙ origins_differ m lawful version which,
        all_append Holds (bitmap_tests this image (λ role. nat_eq role 8)) _ one_edge
            (all_flat_map (array_whole this image) Holds (cache_arrays image)
            (subst (AllByRecursion AreHeld) (sym arrays_are) (
              mappings_hold,
              all_append AreHeld (one_if (has_hints m) hints) behind (all_if AreHeld (has_hints m) hints hints_hold)
                  (discards_hold, all_if AreHeld (has_dirty_bits version) dirty dirty_holds),
            ))),
      )

  -- what is looked at in the image
  abbrev fields_at : CacheFields
  fields_at = cache_fields (block_at image 0)

  abbrev looked_at : Graph → ℕ → List Entry → Checked
  looked_at graph index meta_over = record {
    super_bad = cache_super_bad;
    graph = graph;
    whole = cache_whole graph image;
    stored_meta = stored_meta_in image index meta_over;
    stored_data = λ d. None;
  }

  graph_is : cache_graph (block_at image 0) ≡ graph_of 12 n 0 (cache_layout n)
  unfolding cache_graph cache_laid_fields
  graph_is = ap (λ (number : ℕ). graph_of 12 number 0 (cache_layout number)) (ap (λ (f : CacheFields). f.meta_map.blocks) super_is.fields_are)

  overflow_is : entries_below (graph_of 12 n 0 (cache_layout n)) image 4 9 (cache_fields (block_at image 0)).meta_map.overflow_root ≡ meta_overflow n (cache_named m version)
  unfolding cache_laid_fields
  overflow_is = ap (λ (f : CacheFields). entries_below this image 4 9 f.meta_map.overflow_root) super_is.fields_are ∙ (meta_is m version n image few lawful room stand).overflow

  checked_is : cache_checked image ≡ looked_at (graph_of 12 n 0 (cache_layout n)) (meta_map_at m version) (meta_overflow n (cache_named m version))
  unfolding cache_checked cache_laid_fields
  checked_is =
      ap (λ (g : Graph). looked_at g fields_at.meta_map.bitmap_root (entries_below g image 4 9 fields_at.meta_map.overflow_root)) graph_is
      ∙ ap₂ (λ (i : ℕ) (over : List Entry). looked_at this i over) (ap (λ (f : CacheFields). f.meta_map.bitmap_root) super_is.fields_are) overflow_is

  laid_clean : n ≤ length image → IsClean Cache image
  unfolding graph_of
  laid_clean within =
      let checked = looked_at this (meta_map_at m version) (meta_overflow n (cache_named m version)) in
      subst (λ (checked : Checked). AreClean checked image) (sym checked_is)
      (record {
        super_block = clean_super checked image (omega arith) (super_is.sound (length image) within);
        well_formed = in_order.well_formed;
        one_role = in_order.one_role;
        not_deep = in_order.not_deep;
        in_range = in_order.in_range;
        whole = λ b broken small. whole_holds (cache_whole this image) b broken whole_tests;
        meta_counts = λ b small. (meta_is m version n image few lawful room stand).stored b small ∙ ap (λ (k : ℕ). Some k) (sym (meta_count_is b));
        data_counts = λ d wrong. absurd (omega (arith, wrong));
      })

  -- what is read of the hints and the dirty bits
  abbrev hints_at_root : ℕ → List ℕ
  hints_at_root root = array_words this image (record { role = 3; root = root; size = 4; lengths = [] })

  abbrev bits_at_root : ℕ → List ℕ
  bits_at_root root = array_words this image (record { role = 10; root = root; size = 8; lengths = (m.blocks + 63) / 64 ∷ [] })

  hints_read : cache_hints (graph_of 12 n 0 (cache_layout n)) image ≡ cond (has_hints m) (hint_words m) []
  unfolding cache_hints cache_laid_fields
  hints_read =
      ap (λ (f : CacheFields). cond (nat_eq f.hint_size 4 && not (nat_eq f.hint_root 0)) (hints_at_root f.hint_root) []) super_is.fields_are
      ∙ (told (has_hints m) (array_root 4 (hints_at m version) (hint_words m)) (hint_from m version n image few lawful room stand)
      ∙ words_if hints_at_root (has_hints m) (array_root 4 (hints_at m version) (hint_words m)) (hint_words m) (λ there. ((hints_are m version n image few lawful room stand).seen there).words_are []))
    where
      told : (there : Bool) (root : ℕ) → (there ≡ true → 1 ≤ root)
          → cond (there && not (nat_eq (cond there root 0) 0)) (hints_at_root (cond there root 0)) [] ≡ cond there (hints_at_root (cond there root 0)) []
      told true root some = let from = some refl in rw (ne_eqb root 0 (λ none. omega arith)) refl
      told false root some = refl

  bits_read : cache_dirty_bits (graph_of 12 n 0 (cache_layout n)) image ≡ cond (has_dirty_bits version) (dirty_words m) []
  unfolding cache_dirty_bits cache_laid_fields
  bits_read =
      ap (λ (f : CacheFields). cond (has_dirty_bits f.version) (array_words this image (record { role = 10; root = f.dirty_root; size = 8; lengths = (f.blocks + 63) / 64 ∷ [] })) []) super_is.fields_are
      ∙ words_if bits_at_root (has_dirty_bits version) (array_root 8 (dirty_at m version) (dirty_words m)) (dirty_words m)
      (λ there. ((dirty_is m version n image few lawful room stand).seen there).words_are ((m.blocks + 63) / 64 ∷ []))

  abbrev read_as : ℕ → List ℕ → List ℕ → List ℕ → List CacheEntry
  read_as version words hints bits = map (cache_entry version words hints bits) (filter (λ i. is_valid_word (get_or words i 0)) (range_with_len 0 (length words)))

  entries_back : read_as (cache_fields (block_at image 0)).version (array_words (cache_graph (block_at image 0)) image (mapping_array image)) (cache_hints (cache_graph (block_at image 0)) image)
      (cache_dirty_bits (cache_graph (block_at image 0)) image) ≡ m.entries
  unfolding cache_laid_fields
  entries_back =
      let told = fields_at.version in
      ap (λ (g : Graph). read_as told (array_words g image (mapping_array image)) (cache_hints g image) (cache_dirty_bits g image)) graph_is
      ∙ (ap (λ (version : ℕ). read_as version (array_words this image (mapping_array image)) (cache_hints this image) (cache_dirty_bits this image)) (ap (λ (f : CacheFields). f.version) super_is.fields_are)
      ∙ (ap (λ (words : List ℕ). read_as version words (cache_hints this image) (cache_dirty_bits this image)) words_read
      ∙ (ap₂ (λ (hints bits : List ℕ). read_as version (mapping_words m version) hints bits) hints_read bits_read ∙ entries_are m lawful version which)))

  abbrev meaning_of : CacheFields → Bool → List CacheEntry → CacheMeaning
  meaning_of f clean entries = record {
    uuid = f.uuid;
    block_size = f.block_size;
    blocks = f.blocks;
    clean = clean;
    policy = f.policy;
    versions = f.versions;
    hint_size = f.hint_size;
    entries = entries;
  }

  laid_means : cache_meaning image ≡ m
  unfolding cache_meaning cache_laid_fields
  laid_means =
      ap₂ (λ (f : CacheFields) (entries : List CacheEntry). meaning_of f (nat_eq (f.flags % 2) 1) entries) super_is.fields_are entries_back
      ∙ ap (λ (clean : Bool). meaning_of (cache_laid_fields m version n) clean m.entries) (flag m.clean)
    where
      flag : (clean : Bool) → nat_eq (cond clean 1 0 % 2) 1 ≡ clean
      flag true = refl
      flag false = refl

-- a cache that has room for its need stands in its places
module _ (m : CacheMeaning) (version : ℕ) (base image : List (List ℕ)) (lawful : IsLawfulCache m) (which : (version ≡ 1) ⊎ (version ≡ 2))
    (enough : cache_need version m (room_of (length base)) ≤ room_of (length base)) (is : IsLaid (laid_cache m version (room_of (length base))) base image) where
  abbrev n : ℕ
  n = room_of (length base)

  stands : AllFrom (IsInPlace image (cache_all m version n)) 0 (cache_all m version n)
  stands = cache_in_place m version n base image is

  has_room : meta_map_at m version + length (meta_map_blocks m version n) ≤ n
  has_room = omega (arith, cache_number m version n, cache_takes_need m version n (omega arith))

  pub law : IsCleanCache image m
  law =
      let size = is.number in
      record {
        clean = laid_clean m version n image (omega arith) lawful which has_room stands (omega arith);
        means = laid_means m version n image (omega arith) lawful which has_room stands;
        valid = (super_is m version n image (omega arith) lawful which has_room stands).valid;
      }

  pub version_law : (cache_fields (block_at image 0)).version ≡ version
  unfolding cache_laid_fields
  version_law = ap (λ (f : CacheFields). f.version) (super_is m version n image (omega arith) lawful which has_room stands).fields_are
