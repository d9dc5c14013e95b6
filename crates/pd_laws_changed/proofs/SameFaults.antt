-- The faults of a cache are the same up to each stage where its format sees the same, its arrays have as many words, and the mapping
-- array keeps what is valid, and the origins.
use Rattle.std.proofs.Common.{◌≡◌, inl, inr, ℕ, zero, suc, ◌+◌, ◌/◌, ◌%◌, ◌<◌, ◌≤◌, Bool, not, ◌&&◌, nat_eq, cond, List, [], ◌∷◌, ◌++◌, length, map, filter, Option, None, refl, ap, ap₂, ◌∙◌, arith, get_or}
use Rattle.std.specs.List.{AllByRecursion, flat_map, range_with_len}
use Rattle.std.proofs.lemmas.Bool.{cases_eq, cond_both, eqb-false, eqb-true, and_parts, cases_Bool, not-true}
use Rattle.pd_kinds.specs.declared.rule.Fault.{Fault}
use Rattle.pd_kinds.specs.declared.rule.Space.TheVariants.{Meta, DataBlock}
use Rattle.pd_kinds.specs.declared.kind.Kind.TheVariants.{Cache}
use Rattle.pd_kinds.specs.declared.kind.Stage.{Stage}
use Rattle.pd_kinds.specs.Bitmap.{bitmaps_for, index_block_at, index_blocks, two_bits_of}
use Rattle.pd_kinds.specs.CacheFormat.{CacheFields, cache_fields, cache_graph, cache_layout, has_dirty_bits}
use Rattle.pd_kinds.specs.Graph.{Edge, Graph, block_at, data_count, meta_count}
use Rattle.pd_kinds.specs.Layout.{graph_of, is_bad, layout_bad}
use Rattle.pd_kinds.specs.Node.{Entry}
use Rattle.pd_kinds.specs.Rule.{all_rules}
use Rattle.pd_kinds.specs.Stages.{Checked, IsReached, block_faults, cache_checked, count_fault, count_faults, faults, order_bad, stage_faults, walk_bad}
use Rattle.pd_kinds.specs.Trees.{count_of_bits, entries_below, stored_in, stored_meta_in, words_of}
use Rattle.pd_kinds.specs.Whole.{Array, WholeTest, array_whole, array_words, cache_arrays, cache_whole, dirty_array, has_repeat, is_array_index_bad, is_valid_word, mapping_array, optional_array, origin_of_word, whole_bad}
use Rattle.pd_kinds.proofs.KindsListLemmas.{none_passes}
use Rattle.pd_kinds.proofs.ListLemmas.{all_append, all_from}
use Rattle.pd_kinds.specs.Meaning.{CacheEntry, CacheMeaning, cache_dirty_bits, cache_entry, cache_hints, cache_meaning}
use Rattle.pd_kinds.specs.declared.kind.Stage.TheVariants as stages
use Rattle.pd_kinds.specs.declared.rule.Rule.TheVariants as r
use Rattle.pd_laid.proofs.GatherLemmas.{same_each}
use Rattle.pd_laid.proofs.SalvageLemmas.{all_unmapped}
use Rattle.pd_tree.specs.Search.{IsTreeTo}
use Rattle.pd_laws_changed.proofs.Seen.{bitmaps_are, data_count_is, meta_count_is, order_is, walk_is}
use Rattle.pd_laws_changed.proofs.Verdict.{same_until, super_faults_same}
use Rattle.pd_laws_changed.specs.Known.{IsKnown}
use Rattle.pd_laws_changed.proofs.Resealed.{BreaksChecksum, bitmap_breaks, index_breaks, tree_breaks}
use Rattle.pd_laws_changed.proofs.SameBelow.{AreKept, AreSeen, HasAsMany, entries_same, full_same, number_same}

-- what holds of a range that is mapped holds at each of its numbers, and the other way round
all_in_range : {X : Type 0} → (P : X → Type 0) (f : ℕ → X) (a n i : ℕ) → AllByRecursion P (map f (range_with_len a n)) → a ≤ i → i < a + n → P (f i)
all_in_range P f a zero i all from below = absurd (omega arith)
all_in_range P f a (suc n) i all from below = elim (cases_eq a i) [
  | inl first ↦ rw first at all.0
  | inr other ↦ all_in_range P f (a + 1) n i all.1 (omega arith) (omega arith)
]

all_from_range : (P : ℕ → Type 0) (a n : ℕ) → ((i : ℕ) → i < a + n → P i) → AllByRecursion P (range_with_len a n)
all_from_range P a zero each = tt
all_from_range P a (suc n) each = (each a (omega arith), all_from_range P (a + 1) n (λ i below. each i (omega arith)))

module _ (image other : List (List ℕ)) (are : AreSeen image other) where
  abbrev graph : Graph
  graph = cache_graph (block_at image 0)

  abbrev fields : CacheFields
  fields = cache_fields (block_at image 0)

  abbrev checked : Checked
  checked = cache_checked image

  abbrev also : Checked
  also = cache_checked other

  super_same : stage_faults also other stages.Super ≡ stage_faults checked image stages.Super
  unfolding cache_checked
  super_same = super_faults_same checked also image other are.size are.super_bad

  pub graph_same : cache_graph (block_at other 0) ≡ graph
  unfolding cache_graph
  graph_same = ap (λ (f : CacheFields). graph_of 12 f.meta_map.blocks 0 (cache_layout f.meta_map.blocks)) are.fields

  walk_same : stage_faults also other stages.Walk ≡ stage_faults checked image stages.Walk
  unfolding cache_checked
  walk_same =
      ap (λ (g : Graph). block_faults g.nr (walk_bad g other)) graph_same ∙ ap (block_faults graph.nr) (walk_is graph image other are.same)

  order_same : stage_faults also other stages.Order ≡ stage_faults checked image stages.Order
  unfolding cache_checked
  order_same =
      ap (λ (g : Graph). block_faults g.nr (order_bad g other)) graph_same ∙ ap (block_faults graph.nr) (order_is graph image other are.same)

  -- the mapping array has the same valid words, as far as their origins go
  abbrev HasSameOrigins : Type 0
  HasSameOrigins = has_repeat (map origin_of_word (filter is_valid_word (array_words graph other (mapping_array image))))
      ≡ has_repeat (map origin_of_word (filter is_valid_word (array_words graph image (mapping_array image))))

  module _ (kept : AreKept image other) (origins_same : HasSameOrigins) where
    abbrev known : IsKnown image
    known = kept.known

    -- an array whose tree has the same entries, and whose blocks have as many words, keeps the same rules
    record IsSameArray (a : Array) : Type 0 where
      pub entries : entries_below graph other 8 a.role a.root ≡ entries_below graph image 8 a.role a.root
      pub words : AllByRecursion (HasAsMany image other a.size) (entries_below graph image 8 a.role a.root)

    index_same : (a : Array) → IsSameArray a → is_array_index_bad graph other a ≡ is_array_index_bad graph image a
    unfolding is_array_index_bad
    index_same a is = rw (is.entries, full_same image other a.size (entries_below graph image 8 a.role a.root) is.words) refl

    array_same : (a : Array) → IsSameArray a → array_whole graph other a ≡ array_whole graph image a
    unfolding array_whole
    array_same a is =
        let number : length (array_words graph other a) ≡ length (array_words graph image a) =
        ap (λ (es : List Entry). length (words_of a.size other es)) is.entries ∙ number_same image other a.size (entries_below graph image 8 a.role a.root) is.words in
        ap₂ (λ (bad : Bool) (n : ℕ). record { block = a.root; rule = r.Index; fails = bad }
        ∷ map (λ (m : ℕ). record { block = a.root; rule = r.Length; fails = not bad && not (nat_eq n m) }) a.lengths) (index_same a is) number

    -- that of a tree which is reached, by its role
    same_array : (role next root size : ℕ) (lengths : List ℕ) → suc role < graph.roles → BreaksChecksum fields.meta_map.blocks (suc role) (cache_layout fields.meta_map.blocks (suc role))
        → IsTreeTo graph (suc role) 8 (suc next) (λ v. v) → IsReached graph image root (suc role)
        → IsSameArray (record { role = suc role; root = root; size = size; lengths = lengths })
    same_array role next root size lengths few breaks tree reached = record {
      entries = entries_same image other are kept 8 role root few reached breaks;
      words = all_from (λ (e : Entry). IsReached graph image e.value (suc next)) (HasAsMany image other size) (λ e. kept.counts size e.value next)
          (entries_below graph image 8 (suc role) root) (known.named root (suc role) (suc next) tree reached);
    }

    optional_same : (role root size : ℕ) (lengths : List ℕ) → ((root ≡ 0 → ⊥) → IsSameArray (record { role = role; root = root; size = size; lengths = lengths }))
        → AllByRecursion IsSameArray (optional_array role root size lengths)
    optional_same role root size lengths is =
        cond_both (nat_eq root 0) [] (record { role = role; root = root; size = size; lengths = lengths } ∷ []) (AllByRecursion IsSameArray)
        (λ _. tt) (λ some. (is (eqb-false root 0 some), tt))

    each_array : AllByRecursion IsSameArray (cache_arrays image)
    unfolding cache_arrays cache_graph graph_of cache_layout
    each_array =
        let nr = fields.meta_map.blocks in (
          same_array 0 1 fields.mapping_root 8 (fields.blocks ∷ []) (omega arith) (tree_breaks nr 1 _) known.trees.mappings known.roots.mappings,
          all_append IsSameArray _ _ (optional_same 3 fields.hint_root 4 [] (λ some. same_array 2 3 fields.hint_root 4 [] (omega arith) (tree_breaks nr 3 _) known.trees.hints (known.roots.hints some)))
              (all_append IsSameArray _ _ (optional_same 5 fields.discard_root 8 [] (λ some. same_array 4 5 fields.discard_root 8 [] (omega arith) (tree_breaks nr 5 _) known.trees.discards (known.roots.discards some)))
              (cond_both (has_dirty_bits fields.version) (dirty_array image ∷ []) [] (AllByRecursion IsSameArray)
              (λ second. (same_array 9 10 fields.dirty_root 8 ((fields.blocks + 63) / 64 ∷ []) (omega arith) (tree_breaks nr 10 _) known.trees.dirty_bits (known.roots.dirty_bits (eqb-true fields.version 2 second)), tt))
              (λ _. tt))),
        )

    -- the arrays by the fields
    abbrev mapping_of : CacheFields → Array
    mapping_of f = record { role = 1; root = f.mapping_root; size = 8; lengths = f.blocks ∷ [] }

    abbrev arrays_of : CacheFields → List Array
    arrays_of f =
        mapping_of f ∷ (optional_array 3 f.hint_root 4 [] ++ (optional_array 5 f.discard_root 8 []
        ++ cond (has_dirty_bits f.version) (record { role = 10; root = f.dirty_root; size = 8; lengths = (f.blocks + 63) / 64 ∷ [] } ∷ []) []))

    arrays_same : cache_arrays other ≡ cache_arrays image
    unfolding cache_arrays
    arrays_same = ap arrays_of are.fields

    each_whole : AllByRecursion (λ (a : Array). array_whole graph other a ≡ array_whole graph image a) (cache_arrays image)
    each_whole = all_from IsSameArray (λ (a : Array). array_whole graph other a ≡ array_whole graph image a) array_same (cache_arrays image) each_array

    whole_same : cache_whole graph other ≡ cache_whole graph image
    unfolding cache_whole
    whole_same =
        let mapping : mapping_array other ≡ mapping_array image = ap mapping_of are.fields in
        let repeats = ap (λ (a : Array). has_repeat (map origin_of_word (filter is_valid_word (array_words graph other a)))) mapping ∙ origins_same in
        let bitmaps = bitmaps_are graph image other are.same (λ role. nat_eq role 8) in
        let wholes = ap (flat_map (array_whole graph other)) arrays_same ∙ same_each (array_whole graph other) (array_whole graph image) (cache_arrays image) each_whole in
        λ i. record { block = (mapping i).root; rule = r.Origin; fails = repeats i } ∷ (bitmaps i ++ wholes i)

    -- the stored count of a block that there is
    bitmap_there : (k : ℕ) → k < bitmaps_for fields.meta_map.blocks → IsReached graph image (index_block_at (block_at image fields.meta_map.bitmap_root) k) 8
    unfolding cache_graph graph_of cache_layout is_bad index_blocks
    bitmap_there k below =
        let nr = fields.meta_map.blocks in
        let root = fields.meta_map.bitmap_root in
        let sound = none_passes (layout_bad nr 7 (cache_layout nr 7) root (block_at image root)) all_rules (known.ordered.well_formed root 7 known.roots.meta_index) in
        let reached = rw sound at (known.edges root 7 known.roots.meta_index) in
        all_in_range (λ (b : ℕ). IsReached graph image b 8) (index_block_at (block_at image root)) 0 (bitmaps_for nr) k
        (all_unmapped (λ (b : ℕ). record { role = 8; block = b }) (λ (e : Edge). IsReached graph image e.block e.role) (map (index_block_at (block_at image root)) (range_with_len 0 (bitmaps_for nr))) reached)
        (omega arith) (omega arith)

    stored_same : (b : ℕ) → b < fields.meta_map.blocks
        → stored_meta_in other fields.meta_map.bitmap_root (entries_below graph other 4 9 fields.meta_map.overflow_root) b
        ≡ stored_meta_in image fields.meta_map.bitmap_root (entries_below graph image 4 9 fields.meta_map.overflow_root) b
    unfolding stored_meta_in stored_in cache_graph graph_of cache_layout
    stored_same b below =
        let nr = fields.meta_map.blocks in
        let root = fields.meta_map.bitmap_root in
        let overflow = entries_same image other are kept 4 8 fields.meta_map.overflow_root (omega arith) known.roots.meta_overflow (tree_breaks nr 9 _) in
        let index = kept.others root 6 known.roots.meta_index (index_breaks nr 7 8) in
        let place = index_block_at (block_at image root) (b / 16320) in
        let bitmap = kept.others place 7 (bitmap_there (b / 16320) (omega arith)) (bitmap_breaks nr 8) in
        ap₂ (λ (block : List ℕ) (entries : List Entry). count_of_bits (two_bits_of (block_at other (index_block_at block (b / 16320))) (b % 16320)) entries b) index overflow
        ∙ ap (λ (block : List ℕ). count_of_bits (two_bits_of block (b % 16320)) (entries_below graph image 4 9 fields.meta_map.overflow_root) b) bitmap

    below_nr : (b : ℕ) → b < 0 + graph.nr → b < fields.meta_map.blocks
    unfolding cache_graph graph_of
    below_nr b below = omega arith

    counts_same : count_faults also other ≡ count_faults checked image
    unfolding cache_checked count_faults
    counts_same =
        let stored = λ (seen : List (List ℕ)) (g : Graph) (f : CacheFields). stored_meta_in seen f.meta_map.bitmap_root (entries_below g seen 4 9 f.meta_map.overflow_root) in
        let all = λ (seen : List (List ℕ)) (g : Graph) (f : CacheFields).
        flat_map (λ b. count_fault Meta b (meta_count g seen b) (stored seen g f b)) (range_with_len 0 g.nr)
        ++ flat_map (λ d. count_fault DataBlock d (data_count g seen d) None) (range_with_len 0 g.data_blocks) in
        ap₂ (all other) graph_same are.fields
        ∙ ap₂ (λ (first second : List Fault). first ++ second)
        (same_each _ _ (range_with_len 0 graph.nr) (all_from_range _ 0 graph.nr (λ b below.
        ap₂ (λ (refs : ℕ) (count : Option ℕ). count_fault Meta b refs count) (λ i. meta_count_is graph image other are.same i b) (stored_same b (below_nr b below)))))
        (ap (λ (refs : ℕ → ℕ). flat_map (λ d. count_fault DataBlock d (refs d) None) (range_with_len 0 graph.data_blocks)) (data_count_is graph image other are.same))

    whole_stage_same : stage_faults also other stages.Whole ≡ stage_faults checked image stages.Whole
    unfolding cache_checked
    whole_stage_same =
        ap (λ (g : Graph). block_faults g.nr (whole_bad (cache_whole g other))) graph_same
        ∙ ap (λ (tests : List WholeTest). block_faults graph.nr (whole_bad tests)) whole_same

  pub faults_same : (faults Cache stages.Order image ≡ [] → AreKept image other × HasSameOrigins) → (until : Stage) → faults Cache until other ≡ faults Cache until image
  unfolding faults
  faults_same past =
      same_until checked also image other super_same walk_same order_same (λ none. (whole_stage_same (past none).0 (past none).1, counts_same (past none).0 (past none).1))

-- What a cache means, by its blocks, its format and the fields of its superblock.

abbrev pub words_by : List (List ℕ) → Graph → CacheFields → List ℕ
words_by seen graph f = words_of 8 seen (entries_below graph seen 8 1 f.mapping_root)

abbrev pub hint_words : List (List ℕ) → Graph → CacheFields → List ℕ
hint_words seen graph f = words_of 4 seen (entries_below graph seen 8 3 f.hint_root)

abbrev pub hints_by : List (List ℕ) → Graph → CacheFields → List ℕ
hints_by seen graph f = cond (nat_eq f.hint_size 4 && not (nat_eq f.hint_root 0)) (hint_words seen graph f) []

abbrev pub bit_words : List (List ℕ) → Graph → CacheFields → List ℕ
bit_words seen graph f = words_of 8 seen (entries_below graph seen 8 10 f.dirty_root)

abbrev pub bits_by : List (List ℕ) → Graph → CacheFields → List ℕ
bits_by seen graph f = cond (has_dirty_bits f.version) (bit_words seen graph f) []

abbrev pub entries_of : ℕ → List ℕ → List ℕ → List ℕ → List CacheEntry
entries_of version words hints bits = map (cache_entry version words hints bits) (filter (λ i. is_valid_word (get_or words i 0)) (range_with_len 0 (length words)))

abbrev pub meaning_by : List (List ℕ) → Graph → CacheFields → CacheMeaning
meaning_by seen graph f = record {
  uuid = f.uuid;
  block_size = f.block_size;
  blocks = f.blocks;
  clean = nat_eq (f.flags % 2) 1;
  policy = f.policy;
  versions = f.versions;
  hint_size = f.hint_size;
  entries = entries_of f.version (words_by seen graph f) (hints_by seen graph f) (bits_by seen graph f);
}

pub means : (seen : List (List ℕ)) → cache_meaning seen ≡ meaning_by seen (cache_graph (block_at seen 0)) (cache_fields (block_at seen 0))
unfolding cache_meaning cache_hints cache_dirty_bits
means seen = refl

-- the hints are the same where they are so if there are any
pub hints_same : (image other : List (List ℕ)) (graph : Graph) (f : CacheFields) → ((f.hint_root ≡ 0 → ⊥) → hint_words other graph f ≡ hint_words image graph f)
    → hints_by other graph f ≡ hints_by image graph f
hints_same image other graph f there = elim (cases_Bool (nat_eq f.hint_size 4 && not (nat_eq f.hint_root 0))) [
  | inl some ↦ rw some (there (eqb-false f.hint_root 0 (not-true (nat_eq f.hint_root 0) (and_parts (nat_eq f.hint_size 4) (not (nat_eq f.hint_root 0)) some).1)))
  | inr none ↦ rw none refl
]
