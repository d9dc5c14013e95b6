-- What block 0 and the parts of a pool name up to the metadata map.
use Rattle.std.proofs.Common.{◌≡◌, ℕ, ◌+◌, ◌%◌, ◌^◌, ◌≤◌, List, [], ◌∷◌, ◌++◌, length, sym, ◌∙◌, ap, zero-add, arith}
use Rattle.std.specs.List.{range_with_len}
use Rattle.pd_kinds.specs.Layout.{tree_to, plain_tree}
use Rattle.pd_kinds.specs.Bitmap.{bitmaps_for}
use Rattle.pd_kinds.proofs.KindLemmas.{values_of}
use Rattle.pd_kinds.proofs.NumberLemmas.{range_split}
use Rattle.pd_laid.specs.Laid.{LaidBlock, named_by, count_in, tree_of, laid_bitmaps}
use Rattle.pd_laid.specs.Shape.{ThinShape}
use Rattle.pd_laid.specs.LaidThin.{device_blocks, tops_at, tops, top_blocks, details_at, details_items, details_blocks, data_counts, bitmaps_at, bitmap_blocks, index_at, data_index, index_blocks, overflow_at, data_overflow, overflow_blocks, pool_parts, meta_map_at, mapping_root, details_root, data_index_root, data_overflow_root, pool_named}
use Rattle.pd_laid.proofs.NeedLemmas.{length-bitmaps}
use Rattle.pd_laws_laid.proofs.OnceTrees.{count-append, count-cons, named-append, tree_named, none_named, each_named, index_named, bitmaps_named}

module _ (w : ThinShape) (b : ℕ) where
  -- how often the block stands in a list, and in the places of a part
  abbrev c : List ℕ → ℕ
  c named = count_in named b

  abbrev in_places : ℕ → List LaidBlock → ℕ
  in_places place blocks = c (range_with_len place (length blocks))

  -- the trees above the devices' leaves, each with its root
  both_of : (blocks : List LaidBlock) (root : ℕ) (own places : List ℕ) → named_by blocks ++ (root ∷ []) ≡ own ++ places
      → c (named_by blocks) + c (root ∷ []) ≡ c own + c places
  both_of blocks root own places named = sym (count-append (named_by blocks) (root ∷ []) b) ∙ (ap c named ∙ count-append own places b)

  top_part : length (top_blocks w) ≤ 2 ^ 64
      → c (named_by (top_blocks w)) + c (mapping_root w ∷ []) ≡ c (values_of (tops w)) + in_places (tops_at w) (top_blocks w)
  unfolding top_blocks
  top_part few =
      let t = tree_of (tree_to 8 3 (λ v. v)) in
      both_of (top_blocks w) (mapping_root w) (values_of (tops w)) (range_with_len (tops_at w) (length (top_blocks w)))
      (tree_named 2 t (tops_at w) (tops w) few
      ∙ ap (λ (own : List ℕ). own ++ range_with_len (tops_at w) (length (top_blocks w))) (each_named 8 3 (tops w)))

  details_part : length (details_blocks w) ≤ 2 ^ 64
      → c (named_by (details_blocks w)) + c (details_root w ∷ []) ≡ 0 + in_places (details_at w) (details_blocks w)
  unfolding details_blocks
  details_part few =
      let places = range_with_len (details_at w) (length (details_blocks w)) in
      both_of (details_blocks w) (details_root w) [] places
      (tree_named 4 (tree_of (plain_tree 24)) (details_at w) (details_items w.devices) few
      ∙ ap (λ (own : List ℕ). own ++ places) (none_named (details_items w.devices)))

  bitmaps_part : c (named_by (bitmap_blocks w)) ≡ 0
  unfolding bitmap_blocks laid_bitmaps
  bitmaps_part = ap c (bitmaps_named 6 (data_counts w) (range_with_len 0 (bitmaps_for w.data_blocks)))

  index_part : index_at w ≤ 2 ^ 64 → length (index_blocks w) ≤ 2 ^ 64
      → c (named_by (index_blocks w)) + c (data_index_root w ∷ []) ≡ in_places (bitmaps_at w) (bitmap_blocks w) + in_places (index_at w) (index_blocks w)
  unfolding index_blocks bitmap_blocks
  index_part below few =
      let t = tree_of (tree_to 16 6 (λ v. v % 2 ^ 64)) in
      let number = length-bitmaps 6 (data_counts w) w.data_blocks in
      let bitmaps = range_with_len (bitmaps_at w) (length (bitmap_blocks w)) in
      let places = range_with_len (index_at w) (length (index_blocks w)) in
      both_of (index_blocks w) (data_index_root w) bitmaps places
      (tree_named 5 t (index_at w) (data_index w) few
      ∙ ap (λ (own : List ℕ). own ++ places)
      (index_named 6 (data_counts w) w.data_blocks (bitmaps_at w) (omega arith) ∙ ap (range_with_len (bitmaps_at w)) (sym number)))

  overflow_part : length (overflow_blocks w) ≤ 2 ^ 64
      → c (named_by (overflow_blocks w)) + c (data_overflow_root w ∷ []) ≡ 0 + in_places (overflow_at w) (overflow_blocks w)
  unfolding overflow_blocks
  overflow_part few =
      let places = range_with_len (overflow_at w) (length (overflow_blocks w)) in
      both_of (overflow_blocks w) (data_overflow_root w) [] places
      (tree_named 7 (tree_of (plain_tree 4)) (overflow_at w) (data_overflow w) few
      ∙ ap (λ (own : List ℕ). own ++ places) (none_named (data_overflow w)))

  -- what all parts name, and the roots
  parts_named : c (named_by (pool_parts w))
      ≡ c (named_by (device_blocks w)) + (c (named_by (top_blocks w)) + (c (named_by (details_blocks w))
      + (c (named_by (bitmap_blocks w)) + (c (named_by (index_blocks w)) + c (named_by (overflow_blocks w))))))
  unfolding pool_parts
  parts_named =
      let split = λ (xs ys : List LaidBlock). ap c (named-append xs ys) ∙ count-append (named_by xs) (named_by ys) b in
      let last = index_blocks w ++ overflow_blocks w in
      let fourth = bitmap_blocks w ++ last in
      let third = details_blocks w ++ fourth in
      let second = top_blocks w ++ third in
      omega (arith, split (device_blocks w) second, split (top_blocks w) third, split (details_blocks w) fourth, split (bitmap_blocks w) last, split (index_blocks w) (overflow_blocks w))

  pool_split : c (pool_named w)
      ≡ c (0 ∷ []) + (c (mapping_root w ∷ []) + (c (details_root w ∷ []) + (c (data_index_root w ∷ []) + (c (data_overflow_root w ∷ []) + c (named_by (pool_parts w))))))
  unfolding pool_named
  pool_split =
      let parts = named_by (pool_parts w) in
      let fourth = data_overflow_root w ∷ parts in
      let third = data_index_root w ∷ fourth in
      let second = details_root w ∷ third in
      let first = mapping_root w ∷ second in
      omega (arith, count-cons 0 first b, count-cons (mapping_root w) second b, count-cons (details_root w) third b, count-cons (data_index_root w) fourth b, count-cons (data_overflow_root w) parts b)

  -- the places of all parts, one after another
  places_joined : c (range_with_len 0 (meta_map_at w))
      ≡ c (0 ∷ []) + (in_places 1 (device_blocks w) + (in_places (tops_at w) (top_blocks w) + (in_places (details_at w) (details_blocks w)
      + (in_places (bitmaps_at w) (bitmap_blocks w) + (in_places (index_at w) (index_blocks w) + in_places (overflow_at w) (overflow_blocks w))))))
  places_joined =
      let more = λ (place n : ℕ). ap c (range_split 0 place n ∙ ap (λ (from : ℕ). range_with_len 0 place ++ range_with_len from n) (zero-add place))
      ∙ count-append (range_with_len 0 place) (range_with_len place n) b in
      omega (arith, more 1 (length (device_blocks w)), more (tops_at w) (length (top_blocks w)), more (details_at w) (length (details_blocks w)), more (bitmaps_at w) (length (bitmap_blocks w)), more (index_at w) (length (index_blocks w)), more (overflow_at w) (length (overflow_blocks w)))

  -- so they name each block there once, but for what the devices' part names, with the roots that the mapping tree gives
  pub named_with : meta_map_at w ≤ 2 ^ 64
      → c (pool_named w) + in_places 1 (device_blocks w) ≡ c (range_with_len 0 (meta_map_at w)) + (c (named_by (device_blocks w)) + c (values_of (tops w)))
  named_with fits =
      let top = top_part (omega arith) in
      let details = details_part (omega arith) in
      let bitmaps = bitmaps_part in
      let index = index_part (omega arith) (omega arith) in
      let overflow = overflow_part (omega arith) in
      let whole = pool_split in
      let parts = parts_named in
      let places = places_joined in
      omega arith
