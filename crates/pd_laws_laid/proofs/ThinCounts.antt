-- The references of a laid pool are what its stored counts say.
use Rattle.std.proofs.Common.{◌≡◌, ◌⊎◌, inl, inr, ℕ, ◌+◌, ◌%◌, ◌^◌, ◌≤◌, ◌≢◌, false, ◌&&◌, nat_eq, List, [], ◌∷◌, ◌++◌, length, map, refl, ◌∙◌, ap, ap₂, arith}
use Rattle.std.specs.List.{AllByRecursion}
use Rattle.std.proofs.lemmas.Bool.{ne_eqb}
use Rattle.std.proofs.lemmas.List.{append-nil}
use Rattle.pd_kinds.specs.Graph.{Edge}
use Rattle.pd_kinds.specs.Bitmap.{bitmaps_for}
use Rattle.pd_kinds.specs.Layout.{Tree, plain_tree, tree_to}
use Rattle.pd_kinds.specs.Node.{Entry}
use Rattle.pd_kinds.specs.ThinFormat.{thin_super_block}
use Rattle.pd_kinds.proofs.ListLemmas.{all_append}
use Rattle.pd_laid.specs.Laid.{LaidBlock, count_in, data_named_by, laid_inner, laid_leaf, named_by, tree_of, meta_counts, meta_map_number, tree_root}
use Rattle.pd_laid.specs.LaidThin.{bitmap_blocks, bitmaps_at, data_counts, data_index, data_overflow, details_at, details_blocks, details_items, device_blocks, device_inners, device_leaves, devices_at, index_at, index_blocks, laid_device, laid_devices, mapping_root, mappings, meta_map_at, meta_map_blocks, overflow_at, overflow_blocks, pool_fields, pool_named, pool_parts, shared_items, top_blocks, tops, tops_at}
use Rattle.pd_laid.specs.Shape.{ShapeDevice, ThinShape}
use Rattle.pd_laws_laid.proofs.DataCounts.{data-append}
use Rattle.pd_laws_laid.specs.LaidOut.{laid_super}
use Rattle.pd_laws_laid.proofs.ListLemmas.{count_append}
use Rattle.pd_laws_laid.proofs.Index.{index_edges}
use Rattle.pd_laws_laid.proofs.Formats.{references_are}
use Rattle.pd_laws_laid.proofs.Names.{bitmaps_no_data, meta_no_data, no_data, tree_no_data}
use Rattle.pd_laws_laid.proofs.RoleCounts.{NameNone, bitmaps_count, both_count, edges_in, inners_name_none, leaves_name_none, meta_map_none, meta_map_once, no_edges, none_count, range_count, role_count, tree_count, tree_names_none}
use Rattle.pd_laws_laid.proofs.ThinPool.{pool_blocks, super_edges}

module _ (w : ThinShape) (n : ℕ) (few : meta_map_number 8 n (meta_map_at w) (pool_named w) ≤ 4161600) where
  -- how often all blocks name a block, with block 0, is its count in the metadata map
  pub references_count : (b : ℕ) → count_in (0 ∷ named_by (pool_blocks w n)) b ≡ meta_counts 8 n (meta_map_at w) (pool_named w) b
  unfolding pool_blocks pool_named meta_map_blocks
  references_count b =
      let roots = mapping_root w ∷ tree_root 24 (details_at w) (details_items w.devices) ∷ tree_root 16 (index_at w) (data_index w) ∷ tree_root 4 (overflow_at w) (data_overflow w) ∷ [] in
      references_are (thin_super_block (pool_fields w n)) (super_edges w n) (pool_parts w) roots (pool_named w) 8 n (meta_map_at w) b refl few refl

data-first : (x : LaidBlock) (xs : List LaidBlock) → x.data_refs ≡ [] → data_named_by (x ∷ xs) ≡ data_named_by xs
unfolding data_named_by
data-first x xs none = rw none refl

module _ (w : ThinShape) (n : ℕ) where
  -- only the devices' leaves name data blocks
  abbrev Plain : LaidBlock → Type 0
  Plain x = x.data_refs ≡ []

  rest_plain : AllByRecursion (λ (x : LaidBlock). x.data_refs ≡ []) (top_blocks w ++ (details_blocks w ++ (bitmap_blocks w ++ (index_blocks w ++ overflow_blocks w))))
  unfolding top_blocks details_blocks bitmap_blocks index_blocks overflow_blocks
  rest_plain =
      all_append Plain (top_blocks w) (details_blocks w ++ (bitmap_blocks w ++ (index_blocks w ++ overflow_blocks w))) (tree_no_data 2 (tree_of (tree_to 8 3 (λ v. v))) (tops_at w) (tops w) (λ e. refl))
      (all_append Plain (details_blocks w) (bitmap_blocks w ++ (index_blocks w ++ overflow_blocks w)) (tree_no_data 4 (tree_of (plain_tree 24)) (details_at w) (details_items w.devices) (λ e. refl))
      (all_append Plain (bitmap_blocks w) (index_blocks w ++ overflow_blocks w) (bitmaps_no_data 6 (data_counts w) w.data_blocks)
      (all_append Plain (index_blocks w) (overflow_blocks w) (tree_no_data 5 (tree_of (tree_to 16 6 (λ v. v % 2 ^ 64))) (index_at w) (data_index w) (λ e. refl))
      (tree_no_data 7 (tree_of (plain_tree 4)) (overflow_at w) (data_overflow w) (λ e. refl)))))

  meta_plain : AllByRecursion (λ (x : LaidBlock). x.data_refs ≡ []) (meta_map_blocks w n)
  unfolding meta_map_blocks
  meta_plain = meta_no_data 8 n (meta_map_at w) (pool_named w)

  pub data_references : (d : ℕ) → count_in (data_named_by (pool_blocks w n)) d ≡ data_counts w d
  unfolding pool_blocks data_counts pool_parts
  data_references d =
      let rest = top_blocks w ++ (details_blocks w ++ (bitmap_blocks w ++ (index_blocks w ++ overflow_blocks w))) in
      let devices = data_named_by (device_blocks w) in
      let whole : data_named_by (pool_blocks w n) ≡ devices =
      data-first (laid_super (thin_super_block (pool_fields w n)) (super_edges w n)) ((device_blocks w ++ rest) ++ meta_map_blocks w n) refl
      ∙ (data-append (device_blocks w ++ rest) (meta_map_blocks w n)
      ∙ (ap₂ (λ (front back : List ℕ). front ++ back) (data-append (device_blocks w) rest ∙ ap (λ (back : List ℕ). devices ++ back) (no_data rest rest_plain)) (no_data (meta_map_blocks w n) meta_plain)
      ∙ (append-nil (devices ++ []) ∙ append-nil devices))) in
      ap (λ (named : List ℕ). count_in named d) whole

  -- no device names a bitmap
  devices_name_none : (role : ℕ) (t : Tree) (groups : List (List Entry)) (place : ℕ) (ds : List ShapeDevice) → 3 ≢ role → ((e : Entry) → AllByRecursion (λ (edge : Edge). nat_eq edge.role role ≡ false) (t.leaf_edges e))
      → NameNone role (laid_devices t groups place ds)
  unfolding laid_devices laid_device
  devices_name_none role t groups place [] differ none = tt
  devices_name_none role t groups place (d ∷ ds) differ none =
      let is = λ (x : LaidBlock). AllByRecursion (λ (e : Edge). nat_eq e.role role ≡ false) x.edges in
      all_append is (laid_device t groups place d) (laid_devices t groups (place + length (laid_device t groups place d)) ds)
      (all_append is (map (laid_leaf 3 t) (device_leaves d)) (map (laid_inner 3) (device_inners groups place d)) (leaves_name_none role 3 t (device_leaves d) none)
      (inners_name_none role 3 (device_inners groups place d) differ))
      (devices_name_none role t groups (place + length (laid_device t groups place d)) ds differ none)

  all_devices_name_none : (role : ℕ) → 3 ≢ role → NameNone role (device_blocks w)
  unfolding device_blocks
  all_devices_name_none role differ =
      all_append (λ (x : LaidBlock). AllByRecursion (λ (e : Edge). nat_eq e.role role ≡ false) x.edges) (map (laid_leaf 3 (mappings w)) (shared_items w))
      (laid_devices (mappings w) (shared_items w) (devices_at w) w.devices)
      (leaves_name_none role 3 (mappings w) (shared_items w) (λ e. tt))
      (devices_name_none role (mappings w) (shared_items w) (devices_at w) w.devices differ (λ e. tt))

  -- the parts that name no block in the role of bitmaps
  tops_count : (role b : ℕ) → 2 ≢ role → 3 ≢ role → role_count role b (edges_in (top_blocks w)) ≡ 0
  unfolding top_blocks
  tops_count role b two three =
      none_count role b (top_blocks w) (tree_names_none role 2 (tree_of (tree_to 8 3 (λ v. v))) (tops_at w) (tops w) two (λ e. (ne_eqb 3 role three, tt)))

  details_count : (role b : ℕ) → 4 ≢ role → role_count role b (edges_in (details_blocks w)) ≡ 0
  unfolding details_blocks
  details_count role b four = none_count role b (details_blocks w) (tree_names_none role 4 (tree_of (plain_tree 24)) (details_at w) (details_items w.devices) four (λ e. tt))

  bitmap_count : (role b : ℕ) → role_count role b (edges_in (bitmap_blocks w)) ≡ 0
  unfolding bitmap_blocks
  bitmap_count role b = bitmaps_count role 6 b (data_counts w) w.data_blocks

  overflow_count : (role b : ℕ) → 7 ≢ role → role_count role b (edges_in (overflow_blocks w)) ≡ 0
  unfolding overflow_blocks
  overflow_count role b seven = none_count role b (overflow_blocks w) (tree_names_none role 7 (tree_of (plain_tree 4)) (overflow_at w) (data_overflow w) seven (λ e. tt))

  -- the index trees and the index block name each bitmap once
  index_once : (b : ℕ) → bitmaps_at w + bitmaps_for w.data_blocks ≤ 2 ^ 63 → role_count 6 b (edges_in (index_blocks w)) ≤ 1
  unfolding index_blocks
  index_once b small =
      let t = tree_of (tree_to 16 6 (λ v. v % 2 ^ 64)) in
      rw (tree_count 6 5 b t (index_at w) (data_index w) (omega arith) (λ e. omega arith), index_edges 6 (data_counts w) w.data_blocks (bitmaps_at w) small)
      (range_count 6 b (bitmaps_at w) (bitmaps_for w.data_blocks))

  index_none : (b : ℕ) → role_count 9 b (edges_in (index_blocks w)) ≡ 0
  unfolding index_blocks
  index_none b =
      none_count 9 b (index_blocks w) (tree_names_none 9 5 (tree_of (tree_to 16 6 (λ v. v % 2 ^ 64))) (index_at w) (data_index w) (λ e. omega arith) (λ e. (ne_eqb 6 9 (λ e. omega arith), tt)))

  -- how often the parts name a block in the role of a bitmap
  parts_count : (role b : ℕ) → 2 ≢ role → 3 ≢ role → 4 ≢ role → 7 ≢ role → role_count role b (edges_in (pool_parts w)) ≡ role_count role b (edges_in (index_blocks w))
  unfolding pool_parts
  parts_count role b two three four seven =
      let last = index_blocks w ++ overflow_blocks w in
      let fourth = bitmap_blocks w ++ last in
      let third = details_blocks w ++ fourth in
      let devices = none_count role b (device_blocks w) (all_devices_name_none role three) in
      let s1 = both_count role b (device_blocks w) (top_blocks w ++ third) in
      let s2 = both_count role b (top_blocks w) third in
      let s3 = both_count role b (details_blocks w) fourth in
      let s4 = both_count role b (bitmap_blocks w) last in
      let s5 = both_count role b (index_blocks w) (overflow_blocks w) in
      let c2 = tops_count role b two three in
      let c3 = details_count role b four in
      let c4 = bitmap_count role b in
      let c6 = overflow_count role b seven in
      omega arith

  super_none : (role b : ℕ) → 2 ≢ role → 4 ≢ role → 5 ≢ role → 7 ≢ role → 8 ≢ role → 10 ≢ role → role_count role b (super_edges w n) ≡ 0
  super_none role b two four five seven eight ten =
      no_edges role b (super_edges w n) (ne_eqb 2 role two, (ne_eqb 4 role four, (ne_eqb 5 role five, (ne_eqb 7 role seven, (ne_eqb 8 role eight, (ne_eqb 10 role ten, tt))))))

  blocks_split : (role b : ℕ) → role_count role b (edges_in (pool_blocks w n))
      ≡ role_count role b (super_edges w n) + (role_count role b (edges_in (pool_parts w)) + role_count role b (edges_in (meta_map_blocks w n)))
  unfolding pool_blocks
  blocks_split role b =
      count_append (λ (e : Edge). nat_eq e.role role && nat_eq e.block b) (super_edges w n) (edges_in (pool_parts w ++ meta_map_blocks w n))
      ∙ ap (λ (k : ℕ). role_count role b (super_edges w n) + k) (both_count role b (pool_parts w) (meta_map_blocks w n))

  -- so no bitmap is named twice
  pub bitmap_once : (role b : ℕ) → (role ≡ 6) ⊎ (role ≡ 9) → bitmaps_at w + bitmaps_for w.data_blocks ≤ 2 ^ 63 → role_count role b (edges_in (pool_blocks w n)) ≤ 1
  unfolding meta_map_blocks
  bitmap_once role b which small = elim which [
    | inl six ↦
        rw six
        (let split = blocks_split 6 b in
        let own = super_none 6 b (λ e. omega arith) (λ e. omega arith) (λ e. omega arith) (λ e. omega arith) (λ e. omega arith) (λ e. omega arith) in
        let parts = parts_count 6 b (λ e. omega arith) (λ e. omega arith) (λ e. omega arith) (λ e. omega arith) in
        let index = index_once b small in
        let meta = meta_map_none 8 n (meta_map_at w) (pool_named w) 6 b (λ e. omega arith) (λ e. omega arith) in
        omega arith)
    | inr nine ↦
        rw nine
        (let split = blocks_split 9 b in
        let own = super_none 9 b (λ e. omega arith) (λ e. omega arith) (λ e. omega arith) (λ e. omega arith) (λ e. omega arith) (λ e. omega arith) in
        let parts = parts_count 9 b (λ e. omega arith) (λ e. omega arith) (λ e. omega arith) (λ e. omega arith) in
        let index = index_none b in
        let meta = meta_map_once 8 n (meta_map_at w) (pool_named w) b in
        omega arith)
  ]
