-- Two images of a cache that are alike: its format sees the same, and what is reached behind the superblock is the same.
use Rattle.std.proofs.Common.{◌≡◌, ℕ, zero, suc, ◌<◌, ◌%◌, Bool, true, false, nat_eq, cond, List, [], drop, length, map, filter, refl, sym, ap, ap₂, ◌∙◌, arith}
use Rattle.std.proofs.lemmas.Bool.{both_ways, eqb-true}
use Rattle.std.proofs.Math.Path.{fun_ext}
use Rattle.pd_kinds.specs.declared.kind.Kind.TheVariants.{Cache}
use Rattle.pd_kinds.specs.declared.kind.Stage.{Stage}
use Rattle.pd_kinds.specs.declared.rule.Rule.{Rule}
use Rattle.pd_kinds.specs.CacheFormat.{CacheFields, are_cache_sizes_bad, by_version, cache_fields, cache_graph, cache_layout, cache_super_bad, cache_super_edges, cache_super_tests, cache_table, has_dirty_bits}
use Rattle.pd_kinds.specs.Field.{has_checksum}
use Rattle.pd_kinds.specs.Graph.{Graph, block_at}
use Rattle.pd_kinds.specs.Layout.{graph_of}
use Rattle.pd_kinds.specs.Meaning.{cache_meaning}
use Rattle.pd_kinds.specs.Node.{Entry}
use Rattle.pd_kinds.specs.Stages.{IsReached, faults}
use Rattle.pd_kinds.specs.Super.{salt_of}
use Rattle.pd_kinds.specs.Trees.{block_words, entries_below, words_of}
use Rattle.pd_kinds.specs.Whole.{has_repeat, is_valid_word, origin_of_word}
use Rattle.pd_kinds.specs.Array.{word_count}
use Rattle.pd_kinds.proofs.ListLemmas.{all_from}
use Rattle.pd_kinds.specs.declared.kind.Stage.TheVariants as stages
use Rattle.pd_kinds.specs.declared.rule.Rule.TheVariants as r
use Rattle.pd_laid.proofs.GatherLemmas.{same_each}
use Rattle.pd_tree.specs.Search.{IsTreeTo}
use Rattle.pd_laws_changed.specs.Known.{AreAlike, IsKnown}
use Rattle.pd_laws_changed.proofs.Pools.{rest, same_from, bytes_are, number_is, numbers_are}
use Rattle.pd_laws_changed.proofs.Seen.{IsNoCopy, IsSameIn, breaks_checksum, same_broken, same_copy}
use Rattle.pd_laws_changed.proofs.Verdict.{clean_super}
use Rattle.pd_laws_changed.proofs.Resealed.{BreaksChecksum, tree_breaks}
use Rattle.pd_laws_changed.proofs.SameBelow.{AreKept, AreSeen, entries_same, unflagged}
use Rattle.pd_laws_changed.proofs.SameFaults.{faults_same, graph_same, bit_words, entries_of, hint_words, hints_same, meaning_by, means, words_by}
use Rattle.pd_laws_changed.proofs.SoundCache.{sound_if_clean, super_checksum}

-- behind the superblock, no role is that of one
no_copy : (nr role : ℕ) → IsNoCopy (cache_layout nr (suc role))
unfolding cache_layout
no_copy nr zero = tt
no_copy nr (suc zero) = tt
no_copy nr (suc (suc zero)) = tt
no_copy nr (suc (suc (suc zero))) = tt
no_copy nr (suc (suc (suc (suc zero)))) = tt
no_copy nr (suc (suc (suc (suc (suc zero))))) = tt
no_copy nr (suc (suc (suc (suc (suc (suc zero)))))) = tt
no_copy nr (suc (suc (suc (suc (suc (suc (suc zero))))))) = tt
no_copy nr (suc (suc (suc (suc (suc (suc (suc (suc zero)))))))) = tt
no_copy nr (suc (suc (suc (suc (suc (suc (suc (suc (suc zero))))))))) = tt
no_copy nr (suc (suc (suc (suc (suc (suc (suc (suc (suc (suc zero)))))))))) = tt
no_copy nr (suc (suc (suc (suc (suc (suc (suc (suc (suc (suc (suc role))))))))))) = tt

-- a block with the checksum of a superblock breaks a rule in another role
breaks_there : (block : List ℕ) (role : ℕ) → has_checksum block (salt_of Cache) ≡ true → (cache_graph block).bad (suc role) 0 block r.Checksum ≡ true
unfolding cache_graph graph_of
breaks_there block role has = breaks_checksum Cache _ (suc role) 0 _ block r.Checksum (no_copy (cache_fields block).meta_map.blocks role) has

module _ (block other : List ℕ) (same : drop 8 other ≡ drop 8 block) where
  fields_are : unflagged (cache_fields other) ≡ unflagged (cache_fields block)
  fields_are =
      ap₂ (λ (number : ℕ → ℕ → ℕ) (bytes : ℕ → ℕ → List ℕ). unflagged (by_version (cache_table number bytes)))
      (fun_ext (λ o. fun_ext (numbers_are block other same o))) (fun_ext (λ o. fun_ext (bytes_are block other same o)))

  module _ (has : has_checksum block (salt_of Cache) ≡ true) (also : has_checksum other (salt_of Cache) ≡ true) where
    super_is : (size : ℕ) (broken : Rule) → cache_super_bad size other broken ≡ cache_super_bad size block broken
    unfolding cache_super_bad cache_super_tests are_cache_sizes_bad
    super_is size broken =
        let number = number_is block other same in
        rw (
          has,
          also,
          number 24 8,
          number 0 8,
          number 56 8,
          number 52 4,
          number 184 8,
          number 192 8,
          number 200 8,
          number 72 8,
          number 80 8,
          number 32 4,
          number 276 8,
          number 244 4,
        ) refl

    -- block 0 of both
    first_same : (role : ℕ) → IsSameIn (cache_graph block) role 0 block other
    unfolding cache_graph cache_layout
    first_same zero =
        let nr = (cache_fields block).meta_map.blocks in
        same_copy 12 nr 0 (cache_layout nr) 0 0 block other (λ place b. cache_super_bad nr b) (λ b. cache_super_edges (cache_fields b)) refl (super_is nr)
        (ap (λ (fields : CacheFields). cache_super_edges fields) fields_are)
    first_same (suc role) =
        let nr = (cache_fields block).meta_map.blocks in
        same_broken 12 nr 0 (cache_layout nr) (suc role) 0 block other Cache (no_copy nr role) has also

module _ (image other : List (List ℕ)) (alike : AreAlike Cache image other) (has : has_checksum (block_at image 0) (salt_of Cache) ≡ true) where
  abbrev fields : CacheFields
  fields = cache_fields (block_at image 0)

  abbrev graph : Graph
  graph = cache_graph (block_at image 0)

  seen : AreSeen image other
  seen = record {
    size = alike.size;
    fields = fields_are (block_at image 0) (block_at other 0) alike.bytes;
    super_bad = super_is (block_at image 0) (block_at other 0) alike.bytes has alike.checksum (length image);
    same = same_from image other alike graph (first_same (block_at image 0) (block_at other 0) alike.bytes has alike.checksum);
  }

  module _ (known : IsKnown image) where
    behind : (b role : ℕ) → IsReached graph image b (suc role) → block_at other b ≡ block_at image b
    behind zero role reached = absurd (both_ways _ (known.ordered.well_formed 0 (suc role) reached r.Checksum) (breaks_there (block_at image 0) role has))
    behind (suc b) role reached = rest image other alike (suc b) (omega arith)

    kept : AreKept image other
    kept = record { known = known; counts = λ size b role reached. ap (word_count size) (behind b role reached); others = λ b role reached _. behind b role reached }

    -- the words of an array
    words_same : (size role next root : ℕ) → suc role < graph.roles → BreaksChecksum fields.meta_map.blocks (suc role) (cache_layout fields.meta_map.blocks (suc role))
        → IsTreeTo graph (suc role) 8 (suc next) (λ v. v) → IsReached graph image root (suc role)
        → words_of size other (entries_below graph other 8 (suc role) root) ≡ words_of size image (entries_below graph image 8 (suc role) root)
    unfolding words_of
    words_same size role next root few breaks tree reached =
        let entries = entries_below graph image 8 (suc role) root in
        let words = λ (blocks : List (List ℕ)) (e : Entry). block_words size (block_at blocks e.value) in
        ap (words_of size other) (entries_same image other seen kept 8 role root few reached breaks)
        ∙ same_each (words other) (words image) entries
        (all_from (λ (e : Entry). IsReached graph image e.value (suc next)) (λ (e : Entry). words other e ≡ words image e) (λ e there. ap (block_words size) (behind e.value next there))
        entries (known.named root (suc role) (suc next) tree reached))

    mappings_same : words_by other graph fields ≡ words_by image graph fields
    unfolding cache_graph graph_of cache_layout
    mappings_same = words_same 8 0 1 fields.mapping_root (omega arith) (tree_breaks fields.meta_map.blocks 1 _) known.trees.mappings known.roots.mappings

    hints_there : (fields.hint_root ≡ 0 → ⊥) → hint_words other graph fields ≡ hint_words image graph fields
    unfolding cache_graph graph_of cache_layout
    hints_there some = words_same 4 2 3 fields.hint_root (omega arith) (tree_breaks fields.meta_map.blocks 3 _) known.trees.hints (known.roots.hints some)

    bits_there : has_dirty_bits fields.version ≡ true → bit_words other graph fields ≡ bit_words image graph fields
    unfolding cache_graph graph_of cache_layout
    bits_there second =
        words_same 8 9 10 fields.dirty_root (omega arith) (tree_breaks fields.meta_map.blocks 10 _) known.trees.dirty_bits (known.roots.dirty_bits (eqb-true fields.version 2 second))

    chosen : (second : Bool) (words bits : List ℕ) → (second ≡ true → words ≡ bits) → cond second words [] ≡ cond second bits []
    chosen true words bits same = same refl
    chosen false words bits same = refl

    -- so the meaning is, but for whether it was shut down
    pub meaning_same : (cache_meaning other).clean ≡ (cache_meaning image).clean → cache_meaning other ≡ cache_meaning image
    unfolding cache_meaning
    meaning_same clean =
        let bits = chosen (has_dirty_bits fields.version) (bit_words other graph fields) (bit_words image graph fields) bits_there in
        let hints = hints_same image other graph fields hints_there in
        means other
        ∙ (ap₂ (λ (g : Graph) (f : CacheFields). record (meaning_by other g f) { clean = nat_eq ((cache_fields (block_at other 0)).flags % 2) 1 }) (graph_same image other seen) seen.fields
        ∙ ((λ i. record (meaning_by image graph fields) {
          clean = clean i;
          entries = entries_of fields.version (mappings_same i) (hints i) (bits i);
        }) ∙ sym (means image)))

  -- the faults are the same
  pub all_faults_same : (faults Cache stages.Order image ≡ [] → IsKnown image) → (until : Stage) → faults Cache until other ≡ faults Cache until image
  all_faults_same know =
      faults_same image other seen (λ none.
      (kept (know none), ap (λ (words : List ℕ). has_repeat (map origin_of_word (filter is_valid_word words))) (mappings_same (know none))))

-- the superblock of a cache without faults up to some stage has its checksum
pub clean_checksum : (some : Stage) (image : List (List ℕ)) → faults Cache some image ≡ [] → has_checksum (block_at image 0) (salt_of Cache) ≡ true
clean_checksum some image none = super_checksum (length image) (block_at image 0) (sound_if_clean image (clean_super Cache some image none))
