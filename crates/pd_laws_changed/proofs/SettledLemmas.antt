-- The faults of a cache in which nothing is dirty, and what it means.
use Rattle.std.proofs.Common.{◌≡◌, inl, inr, ℕ, zero, suc, ◌-◌, ◌/◌, ◌%◌, Bool, true, false, ◌&&◌, nat_eq, List, [], ◌∷◌, length, get_or, map, filter, refl, sym, ap, ap₂, ◌∙◌, arith, ◌<◌, not, cond, subst}
use Rattle.std.proofs.lemmas.Bool.{and_parts, cases_Bool, eqb-true, ne_eqb, cond_both, or_parts}
use Rattle.std.proofs.lemmas.List.{length-map}
use Rattle.std.proofs.lemmas.Nat.Bits.{bit_at-zero}
use Rattle.std.specs.List.{AllByRecursion, range_with_len}
use Rattle.pd_kinds.specs.CacheFormat.{has_dirty_bits, CacheFields, cache_fields, cache_graph, cache_layout}
use Rattle.pd_kinds.specs.Meaning.{CacheEntry, cache_entry, is_bit_set, is_dirty_block, CacheMeaning, cache_meaning}
use Rattle.pd_kinds.specs.Whole.{is_dirty_word, is_valid_word, origin_of_word, array_words, dirty_array, has_repeat, mapping_array}
use Rattle.pd_kinds.specs.declared.kind.Kind.TheVariants.{Cache}
use Rattle.pd_kinds.specs.declared.kind.Stage.{Stage}
use Rattle.pd_kinds.specs.Graph.{Graph, block_at}
use Rattle.pd_kinds.specs.Image.{IsImage}
use Rattle.pd_kinds.specs.Layout.{graph_of}
use Rattle.pd_kinds.specs.Node.{Entry}
use Rattle.pd_kinds.specs.Stages.{IsReached, faults}
use Rattle.pd_kinds.specs.Trees.{entries_below, words_of}
use Rattle.pd_kinds.specs.Super.{is_valid_super}
use Rattle.pd_kinds.specs.declared.kind.Stage.TheVariants as stages
use Rattle.pd_answers.specs.Writebacks.{CachedBlock, cached_block, settled_word, blocks_each, dirty_role, hot_blocks, is_hot, overlaid, settled, view}
use Rattle.pd_laws_changed.specs.Premises.{undirtied, without_dirt}
use Rattle.pd_laws_changed.specs.Known.{IsKnown}
use Rattle.pd_laws_changed.proofs.Resealed.{BreaksChecksum, tree_breaks}
use Rattle.pd_laws_changed.proofs.SameBelow.{entries_same, resealed_kept, resealed_seen}
use Rattle.pd_laws_changed.proofs.SameFaults.{faults_same, bits_by, entries_of, hints_by, hints_same, meaning_by, means, words_by}
use Rattle.pd_laws_changed.proofs.SettledImage.{are_resealed, settled_image, settled_is_image, words_of_others, words_of_places}

-- What settling does to the words of a mapping array and to dirty bits: what is valid and the origins stay, and nothing valid is dirty.

-- words that stay valid or not, and keep their origins
origins_kept : (f : ℕ → ℕ) → ((word : ℕ) → is_valid_word (f word) ≡ is_valid_word word) → ((word : ℕ) → origin_of_word (f word) ≡ origin_of_word word)
    → (words : List ℕ) → map origin_of_word (filter is_valid_word (map f words)) ≡ map origin_of_word (filter is_valid_word words)
origins_kept f valid origin [] = refl
origins_kept f valid origin (word ∷ words) = elim (cases_Bool (is_valid_word word)) [
  | inl is ↦
      let also = valid word ∙ is in
      rw (also, is) (ap₂ (λ (x : ℕ) (xs : List ℕ). x ∷ xs) (origin word) (origins_kept f valid origin words))
  | inr other ↦ let also = valid word ∙ other in rw (also, other) (origins_kept f valid origin words)
]

module _ (version : ℕ) (first : has_dirty_bits version ≡ false) where
  -- a word loses its dirty flag, where it is valid and has it
  lowered : (word : ℕ) → is_valid_word word ≡ true → is_dirty_word word ≡ true → settled_word version word ≡ word - 2
  lowered word valid dirty = rw (first, valid, dirty) refl

  as_it_was : (word : ℕ) → (is_valid_word word && is_dirty_word word) ≡ false → settled_word version word ≡ word
  as_it_was word same = rw (first, same) refl

  pub valid_settled : (word : ℕ) → is_valid_word (settled_word version word) ≡ is_valid_word word
  valid_settled word = elim (cases_Bool (is_valid_word word && is_dirty_word word)) [
    | inr same ↦ ap is_valid_word (as_it_was word same)
    | inl both ↦
        let parts = and_parts (is_valid_word word) (is_dirty_word word) both in
        let odd = eqb-true (word % 2) 1 parts.0 in
        let second = eqb-true (word / 2 % 2) 1 parts.1 in
        let after : (word - 2) % 2 ≡ word % 2 = omega arith in
        ap is_valid_word (lowered word parts.0 parts.1) ∙ ap (λ (n : ℕ). nat_eq n 1) after
  ]

  pub origin_settled : (word : ℕ) → origin_of_word (settled_word version word) ≡ origin_of_word word
  origin_settled word = elim (cases_Bool (is_valid_word word && is_dirty_word word)) [
    | inr same ↦ ap origin_of_word (as_it_was word same)
    | inl both ↦
        let parts = and_parts (is_valid_word word) (is_dirty_word word) both in
        let odd = eqb-true (word % 2) 1 parts.0 in
        let second = eqb-true (word / 2 % 2) 1 parts.1 in
        let after : (word - 2) / 65536 ≡ word / 65536 = omega arith in
        ap origin_of_word (lowered word parts.0 parts.1) ∙ after
  ]

  pub clean_settled : (word : ℕ) → is_valid_word word ≡ true → is_dirty_word (settled_word version word) ≡ false
  clean_settled word valid = elim (cases_Bool (is_dirty_word word)) [
    | inr clean ↦ rw (as_it_was word (rw (valid, clean) refl)) clean
    | inl dirty ↦
        let odd = eqb-true (word % 2) 1 valid in
        let second = eqb-true (word / 2 % 2) 1 dirty in
        rw (lowered word valid dirty) (ne_eqb ((word - 2) / 2 % 2) 1 (λ still. omega arith))
  ]

  -- the words of the array
  pub word_at_settled : (words : List ℕ) (i : ℕ) → get_or (map (settled_word version) words) i 0 ≡ settled_word version (get_or words i 0)
  word_at_settled [] i = sym (as_it_was 0 refl)
  word_at_settled (word ∷ words) zero = refl
  word_at_settled (word ∷ words) (suc i) = word_at_settled words i

  pub origins_settled : (words : List ℕ) → map origin_of_word (filter is_valid_word (map (settled_word version) words)) ≡ map origin_of_word (filter is_valid_word words)
  origins_settled words = origins_kept (settled_word version) valid_settled origin_settled words

-- dirty bits are all unset
pub bits_settled : (version : ℕ) → has_dirty_bits version ≡ true → (bits : List ℕ) (i : ℕ) → get_or (map (settled_word version) bits) i 0 ≡ 0
bits_settled version second [] i = refl
bits_settled version second (word ∷ bits) zero = rw second refl
bits_settled version second (word ∷ bits) (suc i) = bits_settled version second bits i

pub no_bit_set : (version : ℕ) → has_dirty_bits version ≡ true → (bits : List ℕ) (i : ℕ) → is_bit_set (map (settled_word version) bits) i ≡ false
no_bit_set version second bits i = rw (bits_settled version second bits (i / 64), bit_at-zero (i % 64)) refl

-- the words and bits of a cache in which nothing is dirty, and those that it had
pub record AreSettled (version : ℕ) (words bits after unset : List ℕ) : Type 0 where
  pub number : length after ≡ length words
  pub valid : (i : ℕ) → is_valid_word (get_or after i 0) ≡ is_valid_word (get_or words i 0)
  pub origin : (i : ℕ) → origin_of_word (get_or after i 0) ≡ origin_of_word (get_or words i 0)
  pub clean : (i : ℕ) → is_valid_word (get_or words i 0) ≡ true → is_dirty_block version after unset i ≡ false

-- in version 1 the words are settled, in version 2 the bits
pub settled_first : (version : ℕ) (words bits : List ℕ) → has_dirty_bits version ≡ false → AreSettled version words bits (map (settled_word version) words) bits
settled_first version words bits first = record {
  number = length-map words (settled_word version);
  valid = λ i. rw (word_at_settled version first words i) (valid_settled version first (get_or words i 0));
  origin = λ i. rw (word_at_settled version first words i) (origin_settled version first (get_or words i 0));
  clean = λ i valid. rw first (rw (word_at_settled version first words i) (clean_settled version first (get_or words i 0) valid));
}

pub settled_second : (version : ℕ) (words bits : List ℕ) → has_dirty_bits version ≡ true → AreSettled version words bits words (map (settled_word version) bits)
settled_second version words bits second = record {
  number = refl;
  valid = λ i. refl;
  origin = λ i. refl;
  clean = λ i valid. rw second (no_bit_set version second bits i);
}

-- so the entries are the same but for what was dirty
pub entries_settled : (version : ℕ) (words bits after unset hints is : List ℕ) → AreSettled version words bits after unset
    → map (cache_entry version after hints unset) (filter (λ i. is_valid_word (get_or after i 0)) is)
    ≡ map undirtied (map (cache_entry version words hints bits) (filter (λ i. is_valid_word (get_or words i 0)) is))
entries_settled version words bits after unset hints [] are = refl
entries_settled version words bits after unset hints (i ∷ is) are = elim (cases_Bool (is_valid_word (get_or words i 0))) [
  | inl valid ↦
      let also = are.valid i ∙ valid in
      let here : cache_entry version after hints unset i ≡ undirtied (cache_entry version words hints bits i) = λ j. record {
        block = i;
        origin = are.origin i j;
        dirty = are.clean i valid j;
        hint = get_or hints i 0;
      } in
      rw (also, valid) (ap₂ (λ (e : CacheEntry) (es : List CacheEntry). e ∷ es) here (entries_settled version words bits after unset hints is are))
  | inr other ↦ let also = are.valid i ∙ other in rw (also, other) (entries_settled version words bits after unset hints is are)
]

-- a cached block is the same, and where nothing is hot nothing was dirty
pub cached_undirtied : (es : List CacheEntry) → map cached_block (map undirtied es) ≡ map cached_block es
cached_undirtied [] = refl
cached_undirtied (e ∷ es) = ap (λ (cs : List CachedBlock). cached_block e ∷ cs) (cached_undirtied es)

pub none_dirty : (test : CacheEntry → Bool) (es : List CacheEntry) → ((e : CacheEntry) → test e ≡ false → e.dirty ≡ false)
    → nat_eq (length (map cached_block (filter test es))) 0 ≡ true → map undirtied es ≡ es
none_dirty test [] clean none = refl
none_dirty test (e ∷ es) clean none = elim (cases_Bool (test e)) [
  | inl hot ↦ let count = eqb-true _ 0 (rw hot at none) in absurd (omega arith)
  | inr cold ↦
      let here : undirtied e ≡ e = λ j. record e { dirty = sym (clean e cold) j } in
      ap₂ (λ (f : CacheEntry) (fs : List CacheEntry). f ∷ fs) here (none_dirty test es clean (rw cold at none))
]

-- entries that aren't dirty don't pass a test that only dirty ones pass
pub cold_entries : (test : CacheEntry → Bool) (es : List CacheEntry) → ((e : CacheEntry) → test (undirtied e) ≡ false) → filter test (map undirtied es) ≡ []
cold_entries test [] cold = refl
cold_entries test (e ∷ es) cold = rw (cold e) (cold_entries test es cold)

module _ (image : List (List ℕ)) (is : IsImage image) (none : faults Cache stages.Whole image ≡ []) (known : IsKnown image) where
  abbrev fields : CacheFields
  fields = cache_fields (block_at image 0)

  abbrev graph : Graph
  graph = cache_graph (block_at image 0)

  abbrev after : List (List ℕ)
  after = settled_image image is none known

  -- the entries of a tree
  same_entries : (role b : ℕ) → suc role < graph.roles → BreaksChecksum fields.meta_map.blocks (suc role) (cache_layout fields.meta_map.blocks (suc role))
      → IsReached graph image b (suc role) → entries_below graph after 8 (suc role) b ≡ entries_below graph image 8 (suc role) b
  same_entries role b few breaks reached =
      let are = are_resealed image is none known in
      entries_same image after (resealed_seen image after are) (resealed_kept image after are known) 8 role b few reached breaks

  -- the mapping array, in version 1 and in version 2
  words_first : has_dirty_bits fields.version ≡ false → array_words graph after (mapping_array image) ≡ map (settled_word fields.version) (array_words graph image (mapping_array image))
  unfolding cache_graph graph_of cache_layout
  words_first first =
      ap (words_of 8 after) (same_entries 0 fields.mapping_root (omega arith) (tree_breaks fields.meta_map.blocks 1 _) known.roots.mappings)
      ∙ words_of_places image is none known (entries_below graph image 8 1 fields.mapping_root) (rw first (known.named fields.mapping_root 1 2 known.trees.mappings known.roots.mappings))

  words_second : has_dirty_bits fields.version ≡ true → array_words graph after (mapping_array image) ≡ array_words graph image (mapping_array image)
  unfolding cache_graph graph_of cache_layout
  words_second second =
      ap (words_of 8 after) (same_entries 0 fields.mapping_root (omega arith) (tree_breaks fields.meta_map.blocks 1 _) known.roots.mappings)
      ∙ words_of_others image is none known 8 2 (rw second (λ same. omega arith)) (entries_below graph image 8 1 fields.mapping_root) (known.named fields.mapping_root 1 2 known.trees.mappings known.roots.mappings)

  -- the dirty bits of version 2
  bits_role : has_dirty_bits fields.version ≡ true → 11 ≡ dirty_role fields.version
  bits_role second = rw second refl

  bits_second : has_dirty_bits fields.version ≡ true → array_words graph after (dirty_array image) ≡ map (settled_word fields.version) (array_words graph image (dirty_array image))
  unfolding cache_graph graph_of cache_layout
  bits_second second =
      let root = known.roots.dirty_bits (eqb-true fields.version 2 second) in
      ap (words_of 8 after) (same_entries 9 fields.dirty_root (omega arith) (tree_breaks fields.meta_map.blocks 10 _) root)
      ∙ words_of_places image is none known (entries_below graph image 8 10 fields.dirty_root) (subst (λ (x : ℕ). AllByRecursion (λ (e : Entry). IsReached graph image e.value x) (entries_below graph image 8 10 fields.dirty_root)) (bits_role second) (known.named fields.dirty_root 10 11 known.trees.dirty_bits root))

  -- the origins of what is valid
  origins_same : has_repeat (map origin_of_word (filter is_valid_word (array_words graph after (mapping_array image))))
      ≡ has_repeat (map origin_of_word (filter is_valid_word (array_words graph image (mapping_array image))))
  origins_same = elim (cases_Bool (has_dirty_bits fields.version)) [
    | inl second ↦ ap (λ (words : List ℕ). has_repeat (map origin_of_word (filter is_valid_word words))) (words_second second)
    | inr first ↦ ap has_repeat (ap (λ (words : List ℕ). map origin_of_word (filter is_valid_word words)) (words_first first) ∙ origins_settled fields.version first (array_words graph image (mapping_array image)))
  ]

  -- the faults are the same
  pub same_faults : (until : Stage) → faults Cache until (settled image) ≡ faults Cache until image
  unfolding settled
  same_faults until =
      cond_both (nat_eq (length (hot_blocks (cache_meaning image))) 0) image after (λ other. faults Cache until other ≡ faults Cache until image)
      (λ _. refl) (λ _.
      let are = are_resealed image is none known in
      faults_same image after (resealed_seen image after are) (λ _. (resealed_kept image after are known, origins_same)) until)

  -- the hints are
  no_hint_role : 4 ≡ dirty_role fields.version → ⊥
  no_hint_role same = elim (cases_Bool (has_dirty_bits fields.version)) [
    | inl second ↦ let at = rw second at same in omega arith
    | inr first ↦ let at = rw first at same in omega arith
  ]

  hints_there : (fields.hint_root ≡ 0 → ⊥) → words_of 4 after (entries_below graph after 8 3 fields.hint_root) ≡ words_of 4 image (entries_below graph image 8 3 fields.hint_root)
  unfolding cache_graph graph_of cache_layout
  hints_there some =
      let root = known.roots.hints some in
      ap (words_of 4 after) (same_entries 2 fields.hint_root (omega arith) (tree_breaks fields.meta_map.blocks 3 _) root)
      ∙ words_of_others image is none known 4 4 no_hint_role (entries_below graph image 8 3 fields.hint_root) (known.named fields.hint_root 3 4 known.trees.hints root)

  -- settled words and bits make the same entries with nothing dirty
  settle : (words hints bits now unset : List ℕ) → AreSettled fields.version words bits now unset
      → entries_of fields.version now hints unset ≡ map undirtied (entries_of fields.version words hints bits)
  settle words hints bits now unset are =
      ap (λ (n : ℕ). map (cache_entry fields.version now hints unset) (filter (λ i. is_valid_word (get_or now i 0)) (range_with_len 0 n))) are.number
      ∙ entries_settled fields.version words bits now unset hints (range_with_len 0 (length words)) are

  bits_by_version : (second : Bool) (bits : List ℕ) → second ≡ true → cond second bits [] ≡ bits
  bits_by_version second bits same = rw same refl

  no_bits : (second : Bool) (bits other : List ℕ) → second ≡ false → cond second bits [] ≡ cond second other []
  no_bits second bits other same = rw same refl

  abbrev old_words : List ℕ
  old_words = words_by image graph fields

  abbrev old_bits : List ℕ
  old_bits = bits_by image graph fields

  entries_same_but_dirt : entries_of fields.version (words_by after graph fields) (hints_by after graph fields) (bits_by after graph fields)
      ≡ map undirtied (entries_of fields.version old_words (hints_by image graph fields) old_bits)
  entries_same_but_dirt =
      let version = fields.version in
      let hints = hints_by image graph fields in
      let has = has_dirty_bits version in
      let raw = λ (seen : List (List ℕ)). words_of 8 seen (entries_below graph seen 8 10 fields.dirty_root) in
      ap (λ (h : List ℕ). entries_of version (words_by after graph fields) h (bits_by after graph fields)) (hints_same image after graph fields hints_there)
      ∙ elim (cases_Bool has) [
        | inl second ↦
            let unset = bits_by_version has (raw after) second ∙ (bits_second second ∙ ap (map (settled_word version)) (sym (bits_by_version has (raw image) second))) in
            ap₂ (λ (w b : List ℕ). entries_of version w hints b) (words_second second) unset
            ∙ settle old_words hints old_bits old_words (map (settled_word version) old_bits) (settled_second version old_words old_bits second)
        | inr first ↦
            ap₂ (λ (w b : List ℕ). entries_of version w hints b) (words_first first) (no_bits has (raw after) (raw image) first)
            ∙ settle old_words hints old_bits (map (settled_word version) old_words) old_bits (settled_first version old_words old_bits first)
      ]

  meaning_after : cache_meaning after ≡ without_dirt (cache_meaning image)
  meaning_after =
      means after
      ∙ (ap (λ (block : List ℕ). meaning_by after (cache_graph block) (cache_fields block)) (are_resealed image is none known).super
      ∙ (ap (λ (es : List CacheEntry). record (meaning_by image graph fields) { entries = es }) entries_same_but_dirt
      ∙ sym (ap without_dirt (means image))))

  -- the meaning is the old one, with nothing dirty
  pub same_meaning : cache_meaning (settled image) ≡ without_dirt (cache_meaning image)
  unfolding settled hot_blocks
  same_meaning =
      let m = cache_meaning image in
      cond_both (nat_eq (length (map cached_block (filter (is_hot m) m.entries))) 0) image after (λ other. cache_meaning other ≡ without_dirt m)
      (λ cold. ap (λ (es : List CacheEntry). record m { entries = es }) (sym (none_dirty (is_hot m) m.entries (λ e test. (or_parts e.dirty (not m.clean) test).0) cold)))
      (λ _. meaning_after)

  pub same_super : block_at (settled image) 0 ≡ block_at image 0
  unfolding settled
  same_super =
      cond_both (nat_eq (length (hot_blocks (cache_meaning image))) 0) image after (λ other. block_at other 0 ≡ block_at image 0)
      (λ _. refl) (λ _. (are_resealed image is none known).super)

  -- so a cached device reads the same
  pub same_view : (origin fast : List (List ℕ)) → view (settled image) origin fast ≡ view image origin fast
  unfolding view
  same_view origin fast =
      let m = cache_meaning image in
      let k = blocks_each m.block_size in
      ap₂ (λ (block : List ℕ) (now : CacheMeaning). cond (is_valid_super block) (overlaid (blocks_each now.block_size) (map cached_block now.entries) origin fast) origin) same_super same_meaning
      ∙ ap (λ (cached : List CachedBlock). cond (is_valid_super (block_at image 0)) (overlaid k cached origin fast) origin) (cached_undirtied m.entries)

  -- it is an image, and where the cache was shut down nothing in it is hot
  pub same_image : IsImage (settled image)
  unfolding settled
  same_image =
      cond_both (nat_eq (length (hot_blocks (cache_meaning image))) 0) image after IsImage (λ _. is) (λ _. settled_is_image image is none known)

  pub none_hot : (cache_meaning image).clean ≡ true → hot_blocks (cache_meaning (settled image)) ≡ []
  unfolding hot_blocks
  none_hot shut =
      let m = cache_meaning image in
      ap (λ (now : CacheMeaning). map cached_block (filter (is_hot now) now.entries)) same_meaning
      ∙ ap (map cached_block) (cold_entries (is_hot (without_dirt m)) m.entries (λ e. rw shut refl))
