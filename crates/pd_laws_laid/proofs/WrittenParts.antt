-- How a pool with shared leaves is written, and where its parts begin.
use Rattle.std.proofs.Common.{◌≡◌, ℕ, ◌+◌, List, [], ◌∷◌, ◌++◌, length, map, refl, sym, ◌∙◌, ap, ap₂, arith}
use Rattle.std.proofs.lemmas.List.{append_assoc, length-append, length-map}
use Rattle.pd_kinds.specs.Layout.{Tree, tree_to, plain_tree}
use Rattle.pd_kinds.specs.Node.{Entry, leaf_block}
use Rattle.pd_laid.specs.Laid.{blocks_from, tree_blocks, LaidBlock, written_from, tree_of, laid_leaf}
use Rattle.pd_laid.specs.Shape.{IsShape, ShapeDevice, ThinShape}
use Rattle.pd_laid.specs.LaidThin.{device_root, laid_device, laid_devices, top_items, details_items, mapping_items, mappings, shared_items, devices_at, device_blocks, tops_at, tops, top_blocks, details_at, details_blocks, bitmaps_at, bitmap_blocks, index_at, index_blocks, overflow_at, overflow_blocks, pool_parts, meta_map_at, meta_map_blocks}
use Rattle.pd_laid.proofs.LaidLemmas.{blocks_from-append, blocks_from-map, device_written, length-blocks_from, tree_written}
use Rattle.pd_laid.proofs.PartSizes.{tops_size, details_size, bitmaps_size, index_size, overflow_size}
use Rattle.pd_laws_laid.proofs.MapLemmas.{write}
use Rattle.pd_laws_laid.specs.Shared.{AreShapePlaces, device_roots, device_tree, device_trees, leaf_blocks_from, leaves_and_trees, shape_parts, trees_need}
use Rattle.pd_laws_laid.proofs.DeviceNames.{devices_need}

-- what is written is as many blocks as are laid
written_number : (place : ℕ) (blocks : List LaidBlock) (written : List (List ℕ)) → written_from place blocks ≡ written → length blocks ≡ length written
written_number place blocks written are = sym (length-blocks_from write place blocks) ∙ ap (λ (all : List (List ℕ)). length all) are

module _ (t : Tree) (eight : t.size ≡ 8) (leaves : List (List Entry)) where
  one_written : (place : ℕ) (d : ShapeDevice) → written_from place (laid_device t leaves place d) ≡ device_tree leaves place d
  unfolding device_tree
  one_written place d = device_written t leaves place d ∙ rw eight refl

  one_number : (place : ℕ) (d : ShapeDevice) → length (laid_device t leaves place d) ≡ length (device_tree leaves place d)
  one_number place d = written_number place (laid_device t leaves place d) (device_tree leaves place d) (one_written place d)

  devices_written : (place : ℕ) (ds : List ShapeDevice) → written_from place (laid_devices t leaves place ds) ≡ device_trees leaves place ds
  unfolding laid_devices device_trees blocks_from
  devices_written place [] = refl
  devices_written place (d ∷ ds) =
      let here = laid_device t leaves place d in
      let next = place + length here in
      let number = ap (λ (n : ℕ). place + n) (one_number place d) in
      blocks_from-append write place here (laid_devices t leaves next ds)
      ∙ ap₂ (λ (front rest : List (List ℕ)). front ++ rest) (one_written place d)
      (devices_written next ds ∙ ap (λ (from : ℕ). device_trees leaves from ds) number)

  roots_are : (place : ℕ) (ds : List ShapeDevice) → top_items t leaves place ds ≡ device_roots leaves place ds
  unfolding top_items device_roots
  roots_are place [] = refl
  roots_are place (d ∷ ds) =
      let next = place + length (laid_device t leaves place d) in
      let number = ap (λ (n : ℕ). place + n) (one_number place d) in
      ap (λ (rest : List Entry). record { key = d.id; value = device_root leaves place d } ∷ rest)
      (roots_are next ds ∙ ap (λ (from : ℕ). device_roots leaves from ds) number)

-- parts in a row, and what is behind them all
parts_joined : (a b c d e : List LaidBlock) → (a ++ (b ++ (c ++ d))) ++ e ≡ a ++ (b ++ (c ++ (d ++ e)))
parts_joined a b c d e = simp append_assoc refl

-- one part, and what is behind it
part : (place : ℕ) (here rest : List LaidBlock) (front back : List (List ℕ)) → written_from place here ≡ front
    → written_from (place + length here) rest ≡ back → written_from place (here ++ rest) ≡ front ++ back
part place here rest front back first last =
    blocks_from-append write place here rest ∙ ap₂ (λ (xs ys : List (List ℕ)). xs ++ ys) first last

module _ (w : ThinShape) where
  pub tops_are : tops w ≡ device_roots (shared_items w) (devices_at w) w.devices
  tops_are = roots_are (mappings w) refl (shared_items w) (devices_at w) w.devices

  shared_part : written_from 1 (map (laid_leaf 3 (mappings w)) (shared_items w)) ≡ leaf_blocks_from 1 w.leaves
  shared_part = blocks_from-map write (laid_leaf 3 (mappings w)) 1 (shared_items w)

  shared_number : length (map (laid_leaf 3 (mappings w)) (shared_items w)) ≡ length w.leaves
  shared_number = length-map (shared_items w) (laid_leaf 3 (mappings w)) ∙ length-map w.leaves mapping_items

  leaves_part : written_from 1 (device_blocks w) ≡ leaves_and_trees w.leaves w.devices
  unfolding device_blocks leaves_and_trees
  leaves_part =
      let devices = laid_devices (mappings w) (shared_items w) (devices_at w) w.devices in
      part 1 (map (laid_leaf 3 (mappings w)) (shared_items w)) devices (leaf_blocks_from 1 w.leaves) (device_trees (shared_items w) (devices_at w) w.devices) shared_part
      (ap (λ (n : ℕ). written_from (1 + n) devices) shared_number
      ∙ devices_written (mappings w) refl (shared_items w) (devices_at w) w.devices)

  tops_part : written_from (tops_at w) (top_blocks w) ≡ tree_blocks 8 (tops_at w) (device_roots (shared_items w) (devices_at w) w.devices)
  unfolding top_blocks
  tops_part = tree_written 2 (tree_of (tree_to 8 3 (λ v. v))) (tops_at w) (tops w) ∙ ap (tree_blocks 8 (tops_at w)) tops_are

  details_part : written_from (details_at w) (details_blocks w) ≡ tree_blocks 24 (details_at w) (details_items w.devices)
  unfolding details_blocks
  details_part = tree_written 4 (tree_of (plain_tree 24)) (details_at w) (details_items w.devices)

  abbrev maps : List LaidBlock
  maps = bitmap_blocks w ++ (index_blocks w ++ overflow_blocks w)

  maps_end : bitmaps_at w + length maps ≡ meta_map_at w
  maps_end =
      let whole = length-append (bitmap_blocks w) (index_blocks w ++ overflow_blocks w) in
      let last = length-append (index_blocks w) (overflow_blocks w) in
      omega (arith, whole, last)

  pub parts_written : (n : ℕ) → written_from 1 (pool_parts w ++ meta_map_blocks w n) ≡ shape_parts w n
  unfolding pool_parts shape_parts
  parts_written n =
      let behind = meta_map_blocks w n in
      ap (λ (blocks : List LaidBlock). written_from 1 blocks) (parts_joined (device_blocks w) (top_blocks w) (details_blocks w) maps behind)
      ∙ part 1 (device_blocks w) (top_blocks w ++ (details_blocks w ++ (maps ++ behind))) _ _ leaves_part
      (part (tops_at w) (top_blocks w) (details_blocks w ++ (maps ++ behind)) _ _ tops_part
      (part (details_at w) (details_blocks w) (maps ++ behind) _ _ details_part
      (part (bitmaps_at w) maps behind _ _ refl (ap (λ (place : ℕ). written_from place behind) maps_end))))

  -- the places
  leaves_number : length (device_blocks w) ≡ length (leaves_and_trees w.leaves w.devices)
  leaves_number = written_number 1 (device_blocks w) (leaves_and_trees w.leaves w.devices) leaves_part

  trees_number : IsShape w → length (leaves_and_trees w.leaves w.devices) ≡ length w.leaves + trees_need w.devices
  unfolding leaves_and_trees
  trees_number is =
      let items = shared_items w in
      let both = length-append (leaf_blocks_from 1 w.leaves) (device_trees items (devices_at w) w.devices) in
      let first = length-blocks_from (leaf_block 8) 1 items in
      let number = length-map w.leaves mapping_items in
      let trees = devices_need items (devices_at w) (length w.leaves) w.devices is.pieces in
      omega (arith, both, first, number, trees)

  pub places_are : IsShape w → AreShapePlaces w
  places_are is = record {
    tops = ap (λ (n : ℕ). 1 + n) leaves_number;
    trees = trees_number is;
    details = ap (λ (n : ℕ). tops_at w + n) (tops_size w);
    bitmaps = ap (λ (n : ℕ). details_at w + n) (details_size w);
    index = ap (λ (n : ℕ). bitmaps_at w + n) (bitmaps_size w);
    overflow = ap (λ (n : ℕ). index_at w + n) (index_size w);
    meta_map = ap (λ (n : ℕ). overflow_at w + n) (overflow_size w);
  }

-- devices that come later
module _ (leaves : List (List Entry)) where
  abbrev size : ℕ → List ShapeDevice → ℕ
  size place ds = length (device_trees leaves place ds)

  behind : (place : ℕ) (d : ShapeDevice) (ds : List ShapeDevice)
      → place + length (device_tree leaves place d) + size (place + length (device_tree leaves place d)) ds ≡ place + size place (d ∷ ds)
  unfolding device_trees
  behind place d ds =
      let here = device_tree leaves place d in
      let both = length-append here (device_trees leaves (place + length here) ds) in
      omega (arith, both)

  none_behind : (place : ℕ) → place ≡ place + size place []
  unfolding device_trees
  none_behind place = omega arith

  pub trees-append : (place : ℕ) (ds es : List ShapeDevice)
      → device_trees leaves place (ds ++ es) ≡ device_trees leaves place ds ++ device_trees leaves (place + size place ds) es
  unfolding device_trees
  trees-append place [] es = ap (λ (from : ℕ). device_trees leaves from es) (omega arith)
  trees-append place (d ∷ ds) es =
      let here = device_tree leaves place d in
      let next = place + length here in
      ap (λ (rest : List (List ℕ)). here ++ rest)
      (trees-append next ds es ∙ ap (λ (from : ℕ). device_trees leaves next ds ++ device_trees leaves from es) (behind place d ds))
      ∙ sym (append_assoc here (device_trees leaves next ds) (device_trees leaves (place + size place (d ∷ ds)) es))

  pub roots-append : (place : ℕ) (ds es : List ShapeDevice)
      → device_roots leaves place (ds ++ es) ≡ device_roots leaves place ds ++ device_roots leaves (place + size place ds) es
  unfolding device_roots
  roots-append place [] es = ap (λ (from : ℕ). device_roots leaves from es) (none_behind place)
  roots-append place (d ∷ ds) es =
      let next = place + length (device_tree leaves place d) in
      ap (λ (rest : List Entry). record { key = d.id; value = device_root leaves place d } ∷ rest)
      (roots-append next ds es ∙ ap (λ (from : ℕ). device_roots leaves next ds ++ device_roots leaves from es) (behind place d ds))
