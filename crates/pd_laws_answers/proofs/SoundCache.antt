-- What is saved of a sound cache is its meaning.
use Rattle.std.proofs.Common.{◌≡◌, ℕ, ◌+◌, ◌/◌, ◌%◌, ◌<◌, Bool, true, false, cond, not, ◌&&◌, nat_eq, List, [], ◌∷◌, length, get_or, map, filter, slice_get, Option, Some, None, refl, sym, ◌∙◌, ap, arith, inl, inr}
use Rattle.std.specs.Prelude.{is_none}
use Rattle.std.specs.List.{AllByRecursion, range_with_len}
use Rattle.std.specs.Int.{bit_at}
use Rattle.std.proofs.lemmas.Bool.{and_parts, cases_Bool, eq-eqb, eqb-false, eqb-true, ne_eqb, not-false, not-true, true≢false}
use Rattle.std.proofs.lemmas.Option.{slice_get-get_or, unwrap_or-slice_get}
use Rattle.pd_kinds.specs.declared.kind.Kind.TheVariants.{Cache}
use Rattle.pd_kinds.specs.declared.rule.Rule.{Rule}
use Rattle.pd_kinds.specs.CacheFormat.{CacheFields, cache_fields, cache_graph, cache_layout, cache_super_edges, has_dirty_bits}
use Rattle.pd_kinds.specs.Graph.{Edge, is_outside, optional_edge, Graph, block_at}
use Rattle.pd_kinds.specs.Image.{HasBytes}
use Rattle.pd_kinds.specs.Layout.{array, graph_of, tree, tree_to}
use Rattle.pd_kinds.specs.Meaning.{cache_dirty_bits, cache_entry, cache_hints, cache_meaning, is_dirty_block}
use Rattle.pd_kinds.specs.Stages.{HasCleanSuper, IsReached, cache_checked, faults}
use Rattle.pd_kinds.specs.Whole.{Array, WholeTest, array_whole, array_words, bitmap_tests, cache_arrays, cache_whole, dirty_array, has_repeat, is_array_index_bad, is_dirty_word, mapping_array, optional_array, whole_bad}
use Rattle.pd_kinds.proofs.KindsListLemmas.{all_first, all_last}
use Rattle.pd_kinds.specs.InOrder.{AreInOrder}
use Rattle.pd_kinds.proofs.CacheTable.{super_sound}
use Rattle.pd_kinds.proofs.CleanLemmas.{clean_super_where_none, whole_where_none}
use Rattle.pd_kinds.proofs.SoundLemmas.{IsInside}
use Rattle.pd_kinds.specs.declared.kind.Stage.TheVariants as stages
use Rattle.pd_laid.specs.Laid.{tree_of}
use Rattle.pd_laid.specs.CacheRoots.{mapping_word, unknown_words}
use Rattle.pd_laid.specs.SavedCache.{found_entries, is_bit_saved, is_saved_dirty, saved_cache, saved_cache_from, saved_entry, saved_hint, saved_word}
use Rattle.pd_laid.proofs.NodeFacts.{all_parts}
use Rattle.pd_laid.proofs.SalvageLemmas.{filter_all, inside_is, tests_hold}
use Rattle.pd_salvage_cache.proofs.LostLemmas.{none_counted}
use Rattle.pd_tree.specs.Search.{HasCacheRoots}
use Rattle.pd_laws_changed.proofs.SoundCache.{is_valid_at, origin_at, origins_are}
use Rattle.pd_laws_answers.proofs.SavedEntries.{all_below, made_of, single_entries}
use Rattle.pd_laws_answers.proofs.SoundArrays.{array_saved}

-- the arrays of the format
mapping_nodes : (nr : ℕ) → cache_layout nr 1 ≡ tree (tree_of (tree_to 8 2 (λ v. v)))
unfolding cache_layout
mapping_nodes nr = refl

mapping_blocks : (nr : ℕ) → cache_layout nr 2 ≡ array 8
unfolding cache_layout
mapping_blocks nr = refl

hint_nodes : (nr : ℕ) → cache_layout nr 3 ≡ tree (tree_of (tree_to 8 4 (λ v. v)))
unfolding cache_layout
hint_nodes nr = refl

hint_blocks : (nr : ℕ) → cache_layout nr 4 ≡ array 4
unfolding cache_layout
hint_blocks nr = refl

dirty_nodes : (nr : ℕ) → cache_layout nr 10 ≡ tree (tree_of (tree_to 8 11 (λ v. v)))
unfolding cache_layout
dirty_nodes nr = refl

dirty_blocks : (nr : ℕ) → cache_layout nr 11 ≡ array 8
unfolding cache_layout
dirty_blocks nr = refl

-- what holds of a list that is there
taken : {X : Type 0} (has : Bool) (P : X → Type 0) (xs : List X) → has ≡ true → AllByRecursion P (cond has xs []) → AllByRecursion P xs
taken true P xs is all = all
taken false P xs is all = absurd (true≢false (sym is))

-- a dirty bit whose word is saved
dirty_with : (has : Bool) (saved : Option ℕ) (all : List ℕ) (word j k : ℕ) → (has ≡ true → saved ≡ Some (get_or all j 0))
    → cond has (is_bit_saved saved k) (is_dirty_word word) ≡ cond has (nat_eq (bit_at (get_or (cond has all []) j 0) k) 1) (is_dirty_word word)
dirty_with true saved all word j k found = rw (found refl) refl
dirty_with false saved all word j k found = refl

module _ (image : List (List ℕ)) (device_blocks : ℕ) where
  abbrev fields : CacheFields
  fields = cache_fields (block_at image 0)

  abbrev nr : ℕ
  nr = fields.meta_map.blocks

  abbrev graph : Graph
  graph = graph_of 12 nr 0 (cache_layout nr)

  module _ (ordered : AreInOrder graph image) (bytes : HasBytes image) (roots : HasCacheRoots graph image fields)
      (inside : AllByRecursion (λ (e : Edge). IsInside device_blocks e.block) (cache_super_edges fields)) where
    -- a reached root that the superblock names isn't outside
    root_inside : (b role : ℕ) → IsReached graph image b role → IsInside device_blocks b → is_outside nr b ≡ false
    unfolding graph_of
    root_inside b role reached named = inside_is nr b named.0 reached.block

    -- the words of an array are saved
    mapping_saved : (lengths : List ℕ) (i : ℕ) → is_array_index_bad graph image (record { role = 1; root = fields.mapping_root; size = 8; lengths = lengths }) ≡ false
        → saved_word 8 nr image fields.mapping_root i ≡ slice_get (array_words graph image (record { role = 1; root = fields.mapping_root; size = 8; lengths = lengths })) i
    mapping_saved lengths i index =
        array_saved nr image ordered bytes 1 2 8 (omega arith) (omega arith) (omega arith) (mapping_nodes nr) (mapping_blocks nr)
        fields.mapping_root lengths i roots.mappings (root_inside fields.mapping_root 1 roots.mappings inside.0) index

    hints_saved : (i : ℕ) → (fields.hint_root ≡ 0 → ⊥) → is_array_index_bad graph image (record { role = 3; root = fields.hint_root; size = 4; lengths = [] }) ≡ false
        → saved_word 4 nr image fields.hint_root i ≡ slice_get (array_words graph image (record { role = 3; root = fields.hint_root; size = 4; lengths = [] })) i
    hints_saved i some index =
        let reached = roots.hints some in
        let named = rw (ne_eqb fields.hint_root 0 some) at (all_first _ (optional_edge 3 fields.hint_root) _ inside.1) in
        array_saved nr image ordered bytes 3 4 4 (omega arith) (omega arith) (omega arith) (hint_nodes nr) (hint_blocks nr)
        fields.hint_root [] i reached (root_inside fields.hint_root 3 reached named.0) index

    dirty_saved : (lengths : List ℕ) (i : ℕ) → fields.version ≡ 2 → is_array_index_bad graph image (record { role = 10; root = fields.dirty_root; size = 8; lengths = lengths }) ≡ false
        → saved_word 8 nr image fields.dirty_root i ≡ slice_get (array_words graph image (record { role = 10; root = fields.dirty_root; size = 8; lengths = lengths })) i
    dirty_saved lengths i two index =
        let reached = roots.dirty_bits two in
        let last = all_last _ (optional_edge 5 fields.discard_root) _ (all_last _ (optional_edge 3 fields.hint_root) _ inside.1) in
        let named = taken (has_dirty_bits fields.version) (λ (e : Edge). IsInside device_blocks e.block) (record { role = 10; block = fields.dirty_root } ∷ []) (eq-eqb fields.version 2 two) last.1.1 in
        array_saved nr image ordered bytes 10 11 8 (omega arith) (omega arith) (omega arith) (dirty_nodes nr) (dirty_blocks nr)
        fields.dirty_root lengths i reached (root_inside fields.dirty_root 10 reached named.0) index

    module _ (whole : (b : ℕ) (broken : Rule) → b < nr → whole_bad (cache_whole graph image) b broken ≡ false) where
      -- the tests of the whole image hold at blocks of the metadata
      abbrev Holds : WholeTest → Type 0
      Holds t = t.block < nr → t.fails ≡ false

      tests : AllByRecursion Holds (cache_whole graph image)
      tests = tests_hold nr (cache_whole graph image) whole

      array_tests : AllByRecursion (λ (a : Array). AllByRecursion Holds (array_whole graph image a)) (cache_arrays image)
      unfolding cache_whole
      array_tests = all_parts Holds (array_whole graph image) (cache_arrays image) (all_last Holds (bitmap_tests graph image (λ role. nat_eq role 8)) _ tests.1)

      abbrev words : List ℕ
      words = array_words graph image (mapping_array image)

      mapping_index : is_array_index_bad graph image (mapping_array image) ≡ false
      unfolding cache_arrays array_whole graph_of
      mapping_index = array_tests.0.0 roots.mappings.block

      -- there are as many words as the cache has blocks
      number : length words ≡ fields.blocks
      unfolding cache_arrays array_whole graph_of
      number =
          let other = array_tests.0.1.0 roots.mappings.block in
          eqb-true (length words) fields.blocks (not-false (nat_eq (length words) fields.blocks) (rw mapping_index at other))

      hint_index : (fields.hint_root ≡ 0 → ⊥) → is_array_index_bad graph image (record { role = 3; root = fields.hint_root; size = 4; lengths = [] }) ≡ false
      unfolding cache_arrays array_whole graph_of
      hint_index some =
          let here = rw (ne_eqb fields.hint_root 0 some) at (all_first _ (optional_array 3 fields.hint_root 4 []) _ array_tests.1) in
          here.0.0 (roots.hints some).block

      dirty_tests : fields.version ≡ 2 → AllByRecursion Holds (array_whole graph image (dirty_array image))
      unfolding cache_arrays
      dirty_tests two =
          let last = all_last _ (optional_array 5 fields.discard_root 8 []) _ (all_last _ (optional_array 3 fields.hint_root 4 []) _ array_tests.1) in
          (taken (has_dirty_bits fields.version) (λ (a : Array). AllByRecursion Holds (array_whole graph image a)) (dirty_array image ∷ []) (eq-eqb fields.version 2 two) last).0

      dirty_index : fields.version ≡ 2 → is_array_index_bad graph image (dirty_array image) ≡ false
      unfolding array_whole graph_of
      dirty_index two = (dirty_tests two).0 (roots.dirty_bits two).block

      dirty_number : fields.version ≡ 2 → length (array_words graph image (dirty_array image)) ≡ (fields.blocks + 63) / 64
      unfolding array_whole graph_of
      dirty_number two =
          let other = (dirty_tests two).1.0 (roots.dirty_bits two).block in
          eqb-true _ ((fields.blocks + 63) / 64) (not-false _ (rw (dirty_index two) at other))

      -- what stands beside a word
      abbrev bits : List ℕ
      bits = cache_dirty_bits graph image

      abbrev hints : List ℕ
      hints = cache_hints graph image

      dirty_is : (i : ℕ) → i < fields.blocks → is_saved_dirty fields image (get_or words i 0) i ≡ is_dirty_block fields.version words bits i
      unfolding cache_dirty_bits
      dirty_is i below =
          dirty_with (has_dirty_bits fields.version) (saved_word 8 nr image fields.dirty_root (i / 64)) (array_words graph image (dirty_array image)) (get_or words i 0) (i / 64) (i % 64)
          (λ has.
          let two : fields.version ≡ 2 = eqb-true fields.version 2 has in
          let number = dirty_number two in
          dirty_saved _ (i / 64) two (dirty_index two) ∙ slice_get-get_or (array_words graph image (dirty_array image)) (i / 64) 0 (omega (arith, number)))

      hint_is : (i : ℕ) → saved_hint fields image i ≡ get_or hints i 0
      unfolding cache_hints
      hint_is i = elim (cases_Bool (nat_eq fields.hint_size 4 && not (nat_eq fields.hint_root 0))) [
        | inl has ↦
            let some = eqb-false fields.hint_root 0 (not-true (nat_eq fields.hint_root 0) (and_parts (nat_eq fields.hint_size 4) _ has).1) in
            rw (has, hints_saved i some (hint_index some)) (unwrap_or-slice_get _ i 0)
        | inr none ↦ rw none refl
      ]

      -- so each block's entry is saved
      entry_saved : (i : ℕ) → i < fields.blocks → saved_entry fields image i ≡ cond (is_valid_at words i) (Some (cache_entry fields.version words hints bits i)) None
      entry_saved i below =
          let found = mapping_saved _ i mapping_index ∙ slice_get-get_or words i 0 (omega (arith, number)) in
          rw (found, dirty_is i below, hint_is i) refl

      abbrev valid : List ℕ
      valid = filter (is_valid_at words) (range_with_len 0 fields.blocks)

      all_saved : found_entries fields image ≡ map (cache_entry fields.version words hints bits) valid
      unfolding found_entries
      all_saved =
          made_of (saved_entry fields image) (is_valid_at words) (cache_entry fields.version words hints bits) (range_with_len 0 fields.blocks)
          (all_below (λ i. saved_entry fields image i ≡ cond (is_valid_at words i) (Some (cache_entry fields.version words hints bits i)) None) fields.blocks 0 fields.blocks (omega arith) entry_saved)

      -- of which none has the origin of an earlier one
      single : has_repeat (map (origin_at words) valid) ≡ false
      unfolding cache_whole graph_of
      single =
          let same = ap (λ (n : ℕ). map (origin_at words) (filter (is_valid_at words) (range_with_len 0 n))) number in
          ap has_repeat (sym same ∙ sym (origins_are words words 0 refl)) ∙ tests.0 roots.mappings.block

      -- no mapping word is lost
      pub none_unknown : unknown_words fields image ≡ 0
      unfolding unknown_words
      none_unknown = none_counted (λ i. is_none (mapping_word fields image i)) 0 fields.blocks (λ i from below.
          ap (λ (o : Option ℕ). is_none o) (mapping_saved _ i mapping_index ∙ slice_get-get_or words i 0 (omega (arith, below, number))))

      pub cache_saved : saved_cache image ≡ cache_meaning image
      unfolding saved_cache_from cache_meaning cache_graph
      cache_saved =
          let made = cache_entry fields.version words hints bits in
          rw (all_saved, filter_all _ (map made valid) (single_entries (origin_at words) made (λ i. refl) valid single), number) refl

-- no fault up to the stage Whole
inside_if_clean : (image : List (List ℕ)) → HasCleanSuper (cache_checked image) image
    → AllByRecursion (λ (e : Edge). IsInside (length image) e.block) (cache_super_edges (cache_fields (block_at image 0)))
unfolding cache_checked
inside_if_clean [] clean = absurd clean
inside_if_clean (block ∷ blocks) clean = (super_sound (length (block ∷ blocks)) block clean).inside

pub saved_where_none : (image : List (List ℕ)) → AreInOrder (cache_graph (block_at image 0)) image → HasCacheRoots (cache_graph (block_at image 0)) image (cache_fields (block_at image 0))
    → HasBytes image → faults Cache stages.Whole image ≡ [] → saved_cache image ≡ cache_meaning image
unfolding faults cache_checked cache_graph graph_of
saved_where_none image ordered roots bytes none =
    let inside = inside_if_clean image (clean_super_where_none (cache_checked image) image (stages.Walk ∷ stages.Order ∷ stages.Whole ∷ []) none) in
    cache_saved image (length image) ordered bytes roots inside (λ b broken within. whole_where_none (cache_checked image) image [] none b broken within)

pub known_where_none : (image : List (List ℕ)) → AreInOrder (cache_graph (block_at image 0)) image → HasCacheRoots (cache_graph (block_at image 0)) image (cache_fields (block_at image 0))
    → HasBytes image → faults Cache stages.Whole image ≡ [] → unknown_words (cache_fields (block_at image 0)) image ≡ 0
unfolding faults cache_checked cache_graph graph_of
known_where_none image ordered roots bytes none =
    let inside = inside_if_clean image (clean_super_where_none (cache_checked image) image (stages.Walk ∷ stages.Order ∷ stages.Whole ∷ []) none) in
    none_unknown image (length image) ordered bytes roots inside (λ b broken within. whole_where_none (cache_checked image) image [] none b broken within)
