-- A pool with shared leaves is laid in as many blocks as its shape needs.
use Rattle.std.proofs.Common.{◌≡◌, ℕ, ◌+◌, ◌^◌, ◌≤◌, ◌<◌, not, nat_eq, length, ◌∙◌, ap, arith}
use Rattle.std.specs.List.{count_by, flat_map, range_with_len}
use Rattle.std.proofs.lemmas.List.{length-append, length-map}
use Rattle.pd_kinds.specs.Bitmap.{bitmaps_for}
use Rattle.pd_grammar.specs.Lawful.{IsLawfulPool}
use Rattle.pd_grammar.specs.Need.{need_tree, overflows_in}
use Rattle.pd_laid.specs.Laid.{count_in, laid_number, meta_counts, meta_overflow}
use Rattle.pd_laid.specs.LaidThin.{data_overflow, laid_shape, meta_map_at, meta_map_blocks, pool_named, pool_parts}
use Rattle.pd_laid.specs.Shape.{IsShape, ShapeDevice, ThinShape, pool_of, uses_of}
use Rattle.pd_laid.specs.PoolText.{leaves_of_pieces, need_of_shared, shape_data, shape_need, used_often}
use Rattle.pd_laid.proofs.PartSizes.{parts_number}
use Rattle.pd_laws_laid.specs.Shared.{named_times, used_times}
use Rattle.pd_laws_laid.proofs.DataCounts.{overflows_are}
use Rattle.pd_laws_laid.proofs.PoolNames.{allocated_are, map_number, leaves_before_map, named_are, overflow_are}
use Rattle.pd_laws_laid.proofs.WrittenParts.{places_are}

-- the metadata map begins behind the parts, and with it they are all that is needed
pub place_with : (w : ThinShape) (n : ℕ) → IsShape w → length (data_overflow w) ≡ overflows_in (shape_data w) w.data_blocks
    → meta_map_at w + (1 + (bitmaps_for n + need_tree 4 (used_often (flat_map uses_of w.devices) (length w.leaves)))) ≡ shape_need w n
unfolding shape_need need_of_shared
place_with w n is overflows =
    let places = places_are w is in
    let over = ap (need_tree 4) overflows in
    let number = length-map w.devices (λ (d : ShapeDevice). leaves_of_pieces d.pieces) in
    let top = ap (need_tree 8) number in
    let details = ap (need_tree 24) number in
    omega (arith, places.tops, places.trees, places.details, places.bitmaps, places.index, places.overflow, places.meta_map, over, top, details)

pub number_with : (w : ThinShape) (n : ℕ) → laid_number (laid_shape w n) ≡ meta_map_at w + length (meta_map_blocks w n)
unfolding laid_shape
number_with w n = omega (arith, length-append (pool_parts w) (meta_map_blocks w n), parts_number w)

module _ (w : ThinShape) (n : ℕ) (is : IsShape w) (lawful : IsLawfulPool (pool_of w)) where
  abbrev often : ℕ
  often = used_often (flat_map uses_of w.devices) (length w.leaves)

  pub map_place : meta_map_at w + (1 + (bitmaps_for n + need_tree 4 often)) ≡ shape_need w n
  map_place = place_with w n is (overflows_are w is lawful)

  module _ (room : shape_need w n ≤ n) (few : n ≤ 4161600) where
    fits : meta_map_at w ≤ 2 ^ 64
    fits = let place = map_place in omega arith

    within : length w.leaves < n
    within = let place = map_place in let before = leaves_before_map w in omega arith

    pub counts_named : (b : ℕ) → count_in (pool_named w) b ≡ named_times (used_times (flat_map uses_of w.devices)) (length w.leaves) (meta_map_at w) b
    counts_named = named_are w is fits

    pub overflow_named : length (meta_overflow n (pool_named w)) ≡ often
    overflow_named = overflow_are w is fits n within

    map_is : length (meta_map_blocks w n) ≡ 1 + (bitmaps_for n + need_tree 4 often)
    map_is = map_number w n ∙ ap (λ (items : ℕ). 1 + (bitmaps_for n + need_tree 4 items)) overflow_named

    pub allocated_named : count_by (λ b. not (nat_eq (meta_counts 8 n (meta_map_at w) (pool_named w) b) 0)) (range_with_len 0 n) ≡ meta_map_at w + length (meta_map_blocks w n)
    allocated_named = let number = map_is in let place = map_place in allocated_are w n is fits (omega arith)

    pub laid_need : laid_number (laid_shape w n) ≡ shape_need w n
    laid_need = let number = map_is in let place = map_place in omega (arith, number_with w n, number, place)
