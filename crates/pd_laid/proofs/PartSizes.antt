-- How many blocks the parts of a laid pool have, behind its devices.
use Rattle.std.proofs.Common.{◌≡◌, ℕ, suc, ◌+◌, ◌%◌, ◌^◌, List, [], ◌∷◌, ◌++◌, length, refl, ◌∙◌, ap, arith}
use Rattle.std.proofs.lemmas.List.{length-append, length-map}
use Rattle.std.proofs.lemmas.List.FromFn.{length-map-range_with_len}
use Rattle.pd_kinds.specs.Layout.{Tree, tree_to, plain_tree}
use Rattle.pd_kinds.specs.Node.{Entry}
use Rattle.pd_kinds.specs.Bitmap.{bitmaps_for}
use Rattle.pd_kinds.specs.Field.{details_code}
use Rattle.pd_grammar.specs.Need.{need_tree}
use Rattle.pd_laid.specs.Laid.{tree_of, index_items, index_entry_of}
use Rattle.pd_laid.specs.Shape.{ShapeDevice, ThinShape}
use Rattle.pd_laid.specs.LaidThin.{shared_items, laid_device, top_items, details_items, mappings, devices_at, device_blocks, tops_at, tops, top_blocks, details_at, details_blocks, data_counts, bitmaps_at, bitmap_blocks, index_at, data_index, index_blocks, overflow_at, data_overflow, overflow_blocks, pool_parts, meta_map_at}
use Rattle.pd_laid.proofs.NeedLemmas.{length-tree, length-bitmaps}

tops_number : (t : Tree) (leaves : List (List Entry)) (place : ℕ) (devices : List ShapeDevice) → length (top_items t leaves place devices) ≡ length devices
unfolding top_items
tops_number t leaves place [] = refl
tops_number t leaves place (d ∷ devices) = ap suc (tops_number t leaves (place + length (laid_device t leaves place d)) devices)

pub details_number : (devices : List ShapeDevice) → length (details_items devices) ≡ length devices
unfolding details_items
details_number devices =
    length-map devices (λ (d : ShapeDevice). record { key = d.id; value = details_code d.mapped d.transaction d.created d.snapped })

pub index_number : (counts : ℕ → ℕ) (n place : ℕ) → length (index_items counts n place) ≡ bitmaps_for n
unfolding index_items
index_number counts n place =
    length-map-range_with_len (λ (i : ℕ). record { key = i; value = index_entry_of counts n place i }) 0 (bitmaps_for n)

module _ (w : ThinShape) where
  pub tops_size : length (top_blocks w) ≡ need_tree 8 (length w.devices)
  unfolding top_blocks
  tops_size =
      length-tree 2 (tree_of (tree_to 8 3 (λ v. v))) (tops_at w) (tops w)
      ∙ ap (need_tree 8) (tops_number (mappings w) (shared_items w) (devices_at w) w.devices)

  pub details_size : length (details_blocks w) ≡ need_tree 24 (length w.devices)
  unfolding details_blocks
  details_size =
      length-tree 4 (tree_of (plain_tree 24)) (details_at w) (details_items w.devices) ∙ ap (need_tree 24) (details_number w.devices)

  pub bitmaps_size : length (bitmap_blocks w) ≡ bitmaps_for w.data_blocks
  unfolding bitmap_blocks
  bitmaps_size = length-bitmaps 6 (data_counts w) w.data_blocks

  pub index_size : length (index_blocks w) ≡ need_tree 16 (bitmaps_for w.data_blocks)
  unfolding index_blocks
  index_size =
      length-tree 5 (tree_of (tree_to 16 6 (λ v. v % 2 ^ 64))) (index_at w) (data_index w)
      ∙ ap (need_tree 16) (index_number (data_counts w) w.data_blocks (bitmaps_at w))

  pub overflow_size : length (overflow_blocks w) ≡ need_tree 4 (length (data_overflow w))
  unfolding overflow_blocks
  overflow_size = length-tree 7 (tree_of (plain_tree 4)) (overflow_at w) (data_overflow w)

  -- the parts reach up to the metadata map
  pub parts_number : 1 + length (pool_parts w) ≡ meta_map_at w
  unfolding pool_parts
  parts_number =
      let fourth = index_blocks w ++ overflow_blocks w in
      let third = bitmap_blocks w ++ fourth in
      let second = details_blocks w ++ third in
      let first = top_blocks w ++ second in
      omega (arith, length-append (device_blocks w) first, length-append (top_blocks w) second, length-append (details_blocks w) third, length-append (bitmap_blocks w) fourth, length-append (index_blocks w) (overflow_blocks w))
