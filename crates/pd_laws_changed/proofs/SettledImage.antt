-- The image of a cache in which nothing is dirty: which blocks it changes, and what its arrays hold.
use Rattle.std.proofs.Common.{◌≡◌, ◌⊎◌, inl, inr, ℕ, ◌*◌, ◌<◌, ◌≤◌, Bool, true, false, not, nat_eq, cond, List, [], ◌∷◌, ◌++◌, length, get_or, map, Option, refl, sym, ap, ap₂, ◌∙◌, arith, eq-eqb}
use Rattle.std.specs.List.{AllByRecursion, flat_map, list_any, range_with_len}
use Rattle.std.specs.Option.{unwrap_or}
use Rattle.std.proofs.lemmas.Bool.{both_ways, cases_Bool, cases_lt, eqb-true, not-false, cond_both}
use Rattle.std.proofs.lemmas.List.{map-append}
use Rattle.std.proofs.lemmas.List.Elements.{All-from_get_or, All-get_or}
use Rattle.std.proofs.lemmas.List.FromFn.{get_or-map-range_with_len, length-map-range_with_len}
use Rattle.std.proofs.lemmas.Option.{slice_get-get_or}
use Rattle.pd_kinds.specs.declared.kind.Kind.TheVariants.{Cache}
use Rattle.pd_kinds.specs.declared.rule.Rule.{Rule}
use Rattle.pd_kinds.specs.Array.{array_bad, array_salt}
use Rattle.pd_kinds.specs.CacheFormat.{CacheFields, cache_fields, cache_graph, cache_layout, has_dirty_bits}
use Rattle.pd_kinds.specs.Field.{has_checksum}
use Rattle.pd_kinds.specs.Graph.{Graph, block_at, block_of, is_reached, nodes, pair, role_of}
use Rattle.pd_kinds.specs.Image.{IsImage}
use Rattle.pd_kinds.specs.Layout.{graph_of}
use Rattle.pd_kinds.specs.Node.{Entry}
use Rattle.pd_kinds.specs.Stages.{IsReached, faults}
use Rattle.pd_kinds.specs.Super.{salt_of}
use Rattle.pd_kinds.specs.Trees.{block_words, words_of}
use Rattle.pd_kinds.specs.declared.kind.Stage.TheVariants as stages
use Rattle.pd_kinds.specs.declared.rule.Rule.TheVariants as r
use Rattle.pd_answers.specs.Writebacks.{dirty_places, dirty_role, settled_block, settled_word}
use Rattle.pd_tree.proofs.NextLemmas.{none_outside}
use Rattle.pd_meaning_cache.proofs.SoundCache.{within}
use Rattle.pd_laws_laid.proofs.Bytes.{AreBytes}
use Rattle.pd_laws_changed.proofs.Seen.{other_salt}
use Rattle.pd_laws_changed.specs.Known.{IsKnown}
use Rattle.pd_laws_changed.proofs.DirtyPlaces.{found_in, is_in}
use Rattle.pd_laws_changed.proofs.OneRole.{one_role}
use Rattle.pd_laws_changed.proofs.SameBelow.{AreResealed}
use Rattle.pd_laws_changed.proofs.Resealed.{IsSettledBlock, settled_bytes, settled_is, settled_size, words_settled}
use Rattle.pd_laws_changed.proofs.SoundCache.{first_holds, sound_super, super_checksum}

-- a block of an array that breaks no rule has its checksum
array_sum : (size place : ℕ) (block : List ℕ) → ((broken : Rule) → array_bad size place block broken ≡ false) → has_checksum block array_salt ≡ true
unfolding array_bad
array_sum size place block sound = not-false (has_checksum block array_salt) (first_holds r.Checksum (not (has_checksum block array_salt)) _ refl (sound r.Checksum))

-- a block at a number
pub at_number : (blocks : List (List ℕ)) (b : ℕ) → b < length blocks → block_at blocks b ≡ get_or blocks b []
at_number blocks b below = ap (λ (o : Option (List ℕ)). unwrap_or o []) (slice_get-get_or blocks b [] below)

module _ (image : List (List ℕ)) (is : IsImage image) (none : faults Cache stages.Whole image ≡ []) (known : IsKnown image) where
  abbrev fields : CacheFields
  fields = cache_fields (block_at image 0)

  abbrev graph : Graph
  graph = cache_graph (block_at image 0)

  -- the blocks that say what is dirty
  abbrev role : ℕ
  role = dirty_role fields.version

  abbrev is_place : ℕ → Bool
  is_place b = list_any (λ place. nat_eq place b) (dirty_places image)

  -- they are reached in that role, and all such are among them
  place_reached : (b : ℕ) → is_place b ≡ true → IsReached graph image b role
  unfolding dirty_places nodes
  place_reached b some =
      let found = found_in (λ p. nat_eq (role_of p) role) (is_reached graph image) 0 (16 * graph.nr) b some in
      let below = found.below in
      let p = found.pair_is in
      let whole : pair (block_of p) (role_of p) ≡ p = omega arith in
      let there : IsReached graph image (block_of p) (role_of p) = record { block = omega arith; within = omega arith; found = rw whole found.reached } in
      rw (found.block, eqb-true (role_of p) role found.passes) at there

  reached_place : (b : ℕ) → IsReached graph image b role → is_place b ≡ true
  unfolding dirty_places nodes
  reached_place b there =
      let below = there.block in
      let few = there.within in
      let block : block_of (pair b role) ≡ b = omega arith in
      let same : role_of (pair b role) ≡ role = omega arith in
      rw block at (is_in (λ p. nat_eq (role_of p) role) (is_reached graph image) 0 (16 * graph.nr) (pair b role) (omega arith) (omega arith) (eq-eqb _ _ same) there.found)

  -- a block that is reached in another role is none of them
  other_place : (b other : ℕ) → IsReached graph image b other → (other ≡ role → ⊥) → is_place b ≡ false
  other_place b other there apart = elim (cases_Bool (is_place b)) [
    | inl some ↦ absurd (apart (one_role image none b other role there (place_reached b some)))
    | inr not_there ↦ not_there
  ]

  -- they have the checksums of blocks of arrays
  place_sum : (b : ℕ) → is_place b ≡ true → has_checksum (block_at image b) array_salt ≡ true
  unfolding cache_graph graph_of cache_layout
  place_sum b some =
      let there = place_reached b some in
      elim (cases_Bool (has_dirty_bits fields.version)) [
        | inl second ↦ array_sum 8 b (block_at image b) (known.ordered.well_formed b 11 (rw second at there))
        | inr first ↦ array_sum 8 b (block_at image b) (known.ordered.well_formed b 2 (rw first at there))
      ]

  -- the blocks of the image with those settled
  abbrev settled_at : ℕ → List ℕ
  settled_at b = cond (is_place b) (settled_block fields.version (block_at image b)) (block_at image b)

  abbrev pub settled_image : List (List ℕ)
  settled_image = map settled_at (range_with_len 0 (length image))

  size : length settled_image ≡ length image
  size = length-map-range_with_len settled_at 0 (length image)

  block_there : (b : ℕ) → b < length image → block_at settled_image b ≡ settled_at b
  block_there b below =
      let number = size in
      at_number settled_image b (omega arith) ∙ get_or-map-range_with_len settled_at 0 (length image) b b [] below (omega arith)

  block_past : (b : ℕ) → length image ≤ b → block_at settled_image b ≡ block_at image b
  block_past b past =
      let number = size in
      none_outside settled_image b (omega arith) ∙ sym (none_outside image b past)

  -- a block of the image has its size, and bytes
  whole : (b : ℕ) → b < length image → length (block_at image b) ≡ 4096
  whole b below = rw (at_number image b below) (All-get_or (λ (block : List ℕ). length block ≡ 4096) image b [] below is.blocks)

  settles : (b : ℕ) → b < length image → is_place b ≡ true → IsSettledBlock fields.version (block_at image b) (settled_block fields.version (block_at image b))
  settles b below some = settled_is fields.version (block_at image b) (whole b below) (record { at = is.bytes b }) (place_sum b some)

  -- a reached block is in the image
  inside : (b other : ℕ) → IsReached graph image b other → b < length image
  unfolding cache_graph graph_of
  inside b other reached =
      let few = within image none in
      let below : b < fields.meta_map.blocks = reached.block in
      omega arith

  -- each block stays, or is settled
  each_block : (b : ℕ) → (block_at settled_image b ≡ block_at image b) ⊎ IsSettledBlock fields.version (block_at image b) (block_at settled_image b)
  each_block b = elim (cases_lt b (length image)) [
    | inr past ↦ inl (block_past b past)
    | inl below ↦ elim (cases_Bool (is_place b)) [
      | inr other ↦ inl (block_there b below ∙ rw other refl)
      | inl some ↦ inr (rw (block_there b below, some) (settles b below some))
    ]
  ]

  super_same : block_at settled_image 0 ≡ block_at image 0
  super_same = elim (each_block 0) [
    | inl equal ↦ equal
    | inr settled ↦ absurd (both_ways (has_checksum (block_at image 0) array_salt)
        (other_salt (block_at image 0) (salt_of Cache) array_salt (λ same. omega arith) (super_checksum (length image) (block_at image 0) (sound_super image none)))
        settled.resealed.had)
  ]

  pub are_resealed : AreResealed image settled_image
  are_resealed = record {
    size = size;
    super = super_same;
    each = λ b. elim (each_block b) [ inl equal ↦ inl equal | inr settled ↦ inr settled.resealed ];
  }

  -- the words of an array in the role of those blocks are settled, those of any other array stay
  pub words_of_places : (entries : List Entry) → AllByRecursion (λ (e : Entry). IsReached graph image e.value role) entries
      → words_of 8 settled_image entries ≡ map (settled_word fields.version) (words_of 8 image entries)
  unfolding words_of
  words_of_places [] all = refl
  words_of_places (e ∷ entries) all =
      let below = inside e.value role all.0 in
      let some = reached_place e.value all.0 in
      let here : block_words 8 (block_at settled_image e.value) ≡ map (settled_word fields.version) (block_words 8 (block_at image e.value)) =
      words_settled fields.version (block_at image e.value) (block_at settled_image e.value) (rw (block_there e.value below, some) (settles e.value below some)) in
      ap₂ (λ (xs ys : List ℕ). xs ++ ys) here (words_of_places entries all.1)
      ∙ sym (map-append (settled_word fields.version) (block_words 8 (block_at image e.value)) (flat_map (λ (f : Entry). block_words 8 (block_at image f.value)) entries))

  pub words_of_others : (bytes other : ℕ) → (other ≡ role → ⊥) → (entries : List Entry) → AllByRecursion (λ (e : Entry). IsReached graph image e.value other) entries
      → words_of bytes settled_image entries ≡ words_of bytes image entries
  unfolding words_of
  words_of_others bytes other apart [] all = refl
  words_of_others bytes other apart (e ∷ entries) all =
      let below = inside e.value other all.0 in
      let here : block_at settled_image e.value ≡ block_at image e.value = block_there e.value below ∙ rw (other_place e.value other all.0 apart) refl in
      ap₂ (λ (block : List ℕ) (ys : List ℕ). block_words bytes block ++ ys) here (words_of_others bytes other apart entries all.1)

  -- it is an image
  bytes_at : (b : ℕ) → AreBytes (settled_at b)
  bytes_at b = cond_both (is_place b) (settled_block fields.version (block_at image b)) (block_at image b) AreBytes
      (λ _. settled_bytes fields.version (block_at image b) (record { at = is.bytes b })) (λ _. record { at = is.bytes b })

  size_at : (b : ℕ) → length (settled_at b) ≡ length (block_at image b)
  size_at b = cond_both (is_place b) (settled_block fields.version (block_at image b)) (block_at image b) (λ (block : List ℕ). length block ≡ length (block_at image b))
      (λ _. settled_size fields.version (block_at image b)) (λ _. refl)

  pub settled_is_image : IsImage settled_image
  settled_is_image = record {
    bytes = λ b i. elim (cases_lt b (length image)) [
      | inl below ↦ rw (block_there b below) ((bytes_at b).at i)
      | inr past ↦ rw (block_past b past) (is.bytes b i)
    ];
    blocks = All-from_get_or (λ (block : List ℕ). length block ≡ 4096) settled_image []
        (λ b within.
        let number = size in
        let below : b < length image = omega arith in
        rw (← at_number settled_image b within, block_there b below) (size_at b ∙ whole b below));
  }
