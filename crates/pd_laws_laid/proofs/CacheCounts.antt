-- The references of a laid cache are what its stored counts say.
use Rattle.std.proofs.Common.{◌≡◌, ℕ, ◌≤◌, Bool, true, false, ◌&&◌, nat_eq, List, [], ◌∷◌, ◌++◌, refl, sym, ◌∙◌, ap, append_assoc, arith}
use Rattle.std.specs.List.{AllByRecursion}
use Rattle.std.proofs.lemmas.Bool.{ne_eqb}
use Rattle.std.proofs.lemmas.List.{map-append}
use Rattle.pd_kinds.specs.Graph.{Edge, edge_of}
use Rattle.pd_kinds.specs.CacheFormat.{cache_super_block, has_dirty_bits}
use Rattle.pd_kinds.specs.Layout.{tree_to}
use Rattle.pd_kinds.specs.Meaning.{CacheMeaning}
use Rattle.pd_kinds.proofs.ListLemmas.{all_append}
use Rattle.pd_laid.specs.Laid.{array_root, laid_array, LaidBlock, count_in, named_by, tree_of, meta_counts, meta_map_number, meta_overflow_root}
use Rattle.pd_laid.specs.LaidCache.{cache_laid_fields, cache_named, cache_parts, dirty_at, dirty_blocks, dirty_root, dirty_words, discard_blocks, discard_root, discards_at, has_hints, hint_blocks, hint_root, hint_words, hints_at, mapping_blocks, mapping_root, mapping_words, meta_map_at, meta_map_blocks}
use Rattle.pd_laws_laid.proofs.ListLemmas.{count_append}
use Rattle.pd_laws_laid.proofs.Names.{blocks_of}
use Rattle.pd_laws_laid.proofs.Formats.{references_are}
use Rattle.pd_laws_laid.proofs.MetaMap.{one_more}
use Rattle.pd_laws_laid.proofs.RoleCounts.{NameNone, both_count, edges_in, meta_map_once, no_edges, none_count, role_count, tree_names_none}
use Rattle.pd_laws_laid.proofs.LaidArrays.{array_names_none}
use Rattle.pd_laws_laid.proofs.CacheParts.{behind_hints, cache_all, dirty_edges, hint_edges, super_edges, all_if, all_where, one_if, root_if}

-- the block that an edge names, where it is there
block_if : (there : Bool) (edge : Edge) → blocks_of (one_if there edge) ≡ one_if there edge.block
block_if true edge = refl
block_if false edge = refl

module _ (m : CacheMeaning) (version n : ℕ) where
  abbrev hint_roots : List ℕ
  hint_roots = one_if (has_hints m) (hint_root m version)

  abbrev dirty_roots : List ℕ
  dirty_roots = one_if (has_dirty_bits version) (dirty_root m version)

  -- the roots of the parts
  abbrev roots : List ℕ
  roots = mapping_root m version ∷ (hint_roots ++ (dirty_roots ++ (discard_root m version ∷ [])))

  named_is : cache_named m version ≡ 0 ∷ (roots ++ named_by (cache_parts m version))
  unfolding cache_named
  named_is =
      let last = discard_root m version ∷ [] in
      let parts = named_by (cache_parts m version) in
      ap (λ (rest : List ℕ). 0 ∷ mapping_root m version ∷ rest)
      (sym (append_assoc hint_roots (dirty_roots ++ last) parts ∙ ap (λ (rest : List ℕ). hint_roots ++ rest) (append_assoc dirty_roots last parts)))

  -- the superblock names them, and the roots of the metadata map
  super_names : (over b : ℕ)
      → count_in (blocks_of (edge_of 1 (mapping_root m version) ∷ (hint_edges m version ++ (edge_of 5 (discard_root m version) ∷ edge_of 7 (meta_map_at m version) ∷ edge_of 9 over ∷ dirty_edges m version)))) b
      ≡ count_in (roots ++ (meta_map_at m version ∷ over ∷ [])) b
  super_names over b =
      let c = λ (xs : List ℕ). count_in xs b in
      let passes = λ (r : ℕ). nat_eq r b in
      let mr = mapping_root m version in
      let dr = discard_root m version in
      let place = meta_map_at m version in
      let behind = edge_of 5 dr ∷ edge_of 7 place ∷ edge_of 9 over ∷ dirty_edges m version in
      let dirty = blocks_of (dirty_edges m version) in
      let hints = blocks_of (hint_edges m version) in
      let own = place ∷ over ∷ [] in
      let hints_are = ap c (block_if (has_hints m) (edge_of 3 (array_root 4 (hints_at m version) (hint_words m))) ∙ sym (root_if (λ r. r) (has_hints m) (array_root 4 (hints_at m version) (hint_words m)))) in
      let dirty_are = ap c (block_if (has_dirty_bits version) (edge_of 10 (array_root 8 (dirty_at m version) (dirty_words m))) ∙ sym (root_if (λ r. r) (has_dirty_bits version) (array_root 8 (dirty_at m version) (dirty_words m)))) in
      let l1 = one_more mr b (blocks_of (hint_edges m version ++ behind)) in
      let l2 = ap c (map-append (λ (e : Edge). e.block) (hint_edges m version) behind) ∙ count_append passes hints (dr ∷ place ∷ over ∷ dirty) in
      let l3 = one_more dr b (place ∷ over ∷ dirty) in
      let l4 = one_more place b (over ∷ dirty) in
      let l5 = one_more over b dirty in
      let r1 = one_more mr b ((hint_roots ++ (dirty_roots ++ (dr ∷ []))) ++ own) in
      let r2 = count_append passes (hint_roots ++ (dirty_roots ++ (dr ∷ []))) own in
      let r3 = count_append passes hint_roots (dirty_roots ++ (dr ∷ [])) in
      let r4 = count_append passes dirty_roots (dr ∷ []) in
      let r5 = one_more dr b [] in
      let r6 = one_more place b (over ∷ []) in
      let r7 = one_more over b [] in
      omega arith

  -- how often all blocks name a block, with block 0, is its count in the metadata map
  pub references_count : meta_map_number 7 n (meta_map_at m version) (cache_named m version) ≤ 4161600 → (b : ℕ)
      → count_in (0 ∷ named_by (cache_all m version n)) b ≡ meta_counts 7 n (meta_map_at m version) (cache_named m version) b
  unfolding cache_all meta_map_blocks
  references_count few b =
      references_are (cache_super_block (cache_laid_fields m version n)) (super_edges m version n) (cache_parts m version) roots (cache_named m version) 7 n (meta_map_at m version) b named_is few
      (super_names (meta_overflow_root n (meta_map_at m version) (cache_named m version)) b)

  -- no part names a bitmap
  mapping_none : NameNone 8 (mapping_blocks m version)
  unfolding mapping_blocks
  mapping_none = array_names_none 8 1 8 1 (mapping_words m version) (λ e. omega arith) (λ e. omega arith)

  abbrev NamesNone : LaidBlock → Type 0
  NamesNone x = AllByRecursion (λ (e : Edge). nat_eq e.role 8 ≡ false) x.edges

  hints_none : NameNone 8 (hint_blocks m version)
  unfolding hint_blocks
  hints_none =
      all_where NamesNone (has_hints m) (laid_array 3 4 (hints_at m version) (hint_words m)) (array_names_none 8 3 4 (hints_at m version) (hint_words m) (λ e. omega arith) (λ e. omega arith))

  dirty_none : NameNone 8 (dirty_blocks m version)
  unfolding dirty_blocks
  dirty_none =
      all_where NamesNone (has_dirty_bits version) (laid_array 10 8 (dirty_at m version) (dirty_words m))
      (array_names_none 8 10 8 (dirty_at m version) (dirty_words m) (λ e. omega arith) (λ e. omega arith))

  discards_none : NameNone 8 (discard_blocks m version)
  unfolding discard_blocks
  discards_none = tree_names_none 8 5 (tree_of (tree_to 8 6 (λ v. v))) (discards_at m version) [] (λ e. omega arith) (λ e. (ne_eqb 6 8 (λ e. omega arith), tt))

  parts_none : NameNone 8 (cache_parts m version)
  unfolding cache_parts
  parts_none =
      all_append NamesNone (mapping_blocks m version) (hint_blocks m version ++ (dirty_blocks m version ++ discard_blocks m version)) mapping_none
      (all_append NamesNone (hint_blocks m version) (dirty_blocks m version ++ discard_blocks m version) hints_none
      (all_append NamesNone (dirty_blocks m version) (discard_blocks m version) dirty_none discards_none))

  super_none : AllByRecursion (λ (e : Edge). nat_eq e.role 8 ≡ false) (super_edges m version n)
  super_none =
      let other = λ (e : Edge). nat_eq e.role 8 ≡ false in (
        ne_eqb 1 8 (λ e. omega arith),
        all_append other (hint_edges m version) (behind_hints m version n)
            (all_if other (has_hints m) (edge_of 3 (array_root 4 (hints_at m version) (hint_words m))) (λ there. ne_eqb 3 8 (λ e. omega arith))) (
              ne_eqb 5 8 (λ e. omega arith),
              (
                ne_eqb 7 8 (λ e. omega arith),
                (
                  ne_eqb 9 8 (λ e. omega arith),
                  all_if other (has_dirty_bits version) (edge_of 10 (array_root 8 (dirty_at m version) (dirty_words m))) (λ there. ne_eqb 10 8 (λ e. omega arith)),
                ),
              ),
            ),
      )

  -- so no bitmap is named twice
  pub bitmap_once : (b : ℕ) → role_count 8 b (edges_in (cache_all m version n)) ≤ 1
  unfolding cache_all meta_map_blocks
  bitmap_once b =
      let first = count_append (λ (e : Edge). nat_eq e.role 8 && nat_eq e.block b) (super_edges m version n) (edges_in (cache_parts m version ++ meta_map_blocks m version n)) in
      let own = no_edges 8 b (super_edges m version n) super_none in
      let split = both_count 8 b (cache_parts m version) (meta_map_blocks m version n) in
      let parts = none_count 8 b (cache_parts m version) parts_none in
      let meta = meta_map_once 7 n (meta_map_at m version) (cache_named m version) b in
      omega arith
