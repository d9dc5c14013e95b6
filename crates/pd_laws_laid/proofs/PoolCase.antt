-- A pool that shares no leaf is the case of a shape without leaves.
use Rattle.std.proofs.Common.{◌≡◌, inl, inr, ℕ, ◌+◌, ◌^◌, ◌≤◌, List, [], ◌∷◌, ◌++◌, length, map, refl, sym, ◌∙◌, ap, ap₂, subst, arith}
use Rattle.std.specs.List.{AllByRecursion, flat_map}
use Rattle.std.proofs.lemmas.Bool.{cases_lt}
use Rattle.std.proofs.lemmas.List.{append-nil}
use Rattle.pd_kinds.specs.Meaning.{Mapping, ThinDevice, ThinPool}
use Rattle.pd_kinds.specs.Node.{Entry}
use Rattle.pd_kinds.specs.Field.{details_code}
use Rattle.pd_kinds.proofs.ListLemmas.{all_append}
use Rattle.pd_grammar.specs.Lawful.{IsLawfulPool}
use Rattle.pd_grammar.specs.Need.{need_meta_map, need_tree, mapped_data, need_of_devices, overflows_in, thin_need}
use Rattle.pd_laid.specs.Laid.{count_in, laid_number, meta_overflow, heads, tree_blocks, tree_leaves, tree_root}
use Rattle.pd_laid.specs.LaidThin.{data_counts, data_overflow, details_items, device_root, device_row, laid_pool, mapping_items, meta_map_at, meta_map_blocks, own_leaves, pieces_row, pool_named, some_pieces}
use Rattle.pd_laid.specs.Shape.{ThinShape, pool_of, shape_of, unshared_device, unshared_pieces, uses_of}
use Rattle.pd_laid.proofs.GatherLemmas.{HasTimes, length-items}
use Rattle.pd_laid.proofs.NeedLemmas.{length-map_blocks, length-tree_blocks}
use Rattle.pd_laid.proofs.ShapeText.{is_shape, pool_kept}
use Rattle.pd_laid.specs.PoolText.{own_mappings, shape_data, shape_need, used_often}
use Rattle.pd_laid.proofs.Unshared.{need_by_mappings, own_kept, unshared_data, unshared_need}
use Rattle.pd_laid.proofs.WholeNeed.{own_of}
use Rattle.pd_laws_laid.specs.Once.{NamesEachOnce, device_details}
use Rattle.pd_laws_laid.proofs.MapLemmas.{named_overflow}
use Rattle.pd_laws_laid.specs.Shared.{device_roots, device_tree, device_trees}
use Rattle.pd_laws_laid.proofs.DataCounts.{HasTime, counts_are, overflows_are, overflows_with}
use Rattle.pd_laws_laid.proofs.PoolNames.{other_times}
use Rattle.pd_laws_laid.proofs.ShapeNeed.{number_with, place_with}
use Rattle.pd_laws_laid.specs.Once as once

-- such a device has the leaves of a tree of its mappings, and their row
leaves_of : (ms : List Mapping) → flat_map own_leaves (some_pieces (unshared_pieces ms)) ≡ tree_leaves 8 (mapping_items ms)
leaves_of [] = append-nil (tree_leaves 8 (mapping_items []))
leaves_of (m ∷ ms) = append-nil (tree_leaves 8 (mapping_items (m ∷ ms)))

row_of : (place : ℕ) (ms : List Mapping) → pieces_row [] place (some_pieces (unshared_pieces ms)) ≡ heads place (tree_leaves 8 (mapping_items ms))
row_of place [] = append-nil (heads place (tree_leaves 8 (mapping_items [])))
row_of place (m ∷ ms) = append-nil (heads place (tree_leaves 8 (mapping_items (m ∷ ms))))

-- so it is written as that tree
tree_is : (place : ℕ) (d : ThinDevice) → device_tree [] place (unshared_device d) ≡ tree_blocks 8 place (mapping_items d.mappings)
unfolding device_tree device_row tree_blocks
tree_is place d = rw (leaves_of d.mappings, row_of place d.mappings) refl

root_is : (place : ℕ) (d : ThinDevice) → device_root [] place (unshared_device d) ≡ tree_root 8 place (mapping_items d.mappings)
unfolding device_root device_row
root_is place d = rw (leaves_of d.mappings, row_of place d.mappings) refl

behind_is : (place : ℕ) (d : ThinDevice) → place + length (device_tree [] place (unshared_device d)) ≡ place + need_tree 8 (length d.mappings)
behind_is place d =
    ap (λ (blocks : List (List ℕ)). place + length blocks) (tree_is place d)
    ∙ ap (λ (n : ℕ). place + n) (length-tree_blocks 8 place (mapping_items d.mappings) ∙ ap (need_tree 8) (length-items d.mappings))

pub trees_are : (place : ℕ) (ds : List ThinDevice) → device_trees [] place (map unshared_device ds) ≡ once.device_trees place ds
unfolding device_trees once.device_trees
trees_are place [] = refl
trees_are place (d ∷ ds) =
    let next = place + length (device_tree [] place (unshared_device d)) in
    ap₂ (λ (front rest : List (List ℕ)). front ++ rest) (tree_is place d) (trees_are next ds ∙ ap (λ (from : ℕ). once.device_trees from ds) (behind_is place d))

pub roots_are : (place : ℕ) (ds : List ThinDevice) → device_roots [] place (map unshared_device ds) ≡ once.device_roots place ds
unfolding device_roots once.device_roots
roots_are place [] = refl
roots_are place (d ∷ ds) =
    let next = place + length (device_tree [] place (unshared_device d)) in
    ap₂ (λ (root : ℕ) (rest : List Entry). record { key = d.id; value = root } ∷ rest) (root_is place d)
    (roots_are next ds ∙ ap (λ (from : ℕ). once.device_roots from ds) (behind_is place d))

pub details_are : (ds : List ThinDevice) → details_items (map unshared_device ds) ≡ device_details ds
unfolding details_items
details_are [] = refl
details_are (d ∷ ds) = ap (λ (rest : List Entry). record { key = d.id; value = details_code d.mapped d.transaction d.created d.snapped } ∷ rest) (details_are ds)

-- the times of its devices' own mappings
own_have : (ds : List ThinDevice) → AllByRecursion (λ (d : ThinDevice). HasTimes d.mappings) ds → HasTimes (own_of (map unshared_device ds))
own_have [] times = tt
own_have (d ∷ ds) times =
    all_append HasTime (flat_map own_mappings (unshared_pieces d.mappings)) (own_of (map unshared_device ds)) (rw (own_kept d.mappings) times.0) (own_have ds times.1)

module _ (m : ThinPool) where
  abbrev w : ThinShape
  w = shape_of m

  -- each block before the metadata map is named once
  pub pool_named_once : meta_map_at w ≤ 2 ^ 64 → NamesEachOnce (meta_map_at w) (pool_named w)
  unfolding shape_of
  pool_named_once fits b = other_times w (is_shape m) fits b (elim (cases_lt 0 b) [ inl above ↦ inr above | inr none ↦ inl (omega arith) ])

  none_often : used_often (flat_map uses_of w.devices) (length w.leaves) ≡ 0
  unfolding shape_of used_often overflows_in
  none_often = refl

  -- what it needs, by how often its data blocks stand in its mappings
  module _ (over : length (data_overflow w) ≡ overflows_in (shape_data w) w.data_blocks) where
    place_is : (n : ℕ) → meta_map_at w + need_meta_map n ≡ shape_need w n
    place_is n = omega (arith, place_with w n (is_shape m) over, ap (need_tree 4) none_often)

    number_is : (n : ℕ) → meta_overflow n (pool_named w) ≡ [] → laid_number (laid_pool m n) ≡ shape_need w n
    unfolding laid_pool meta_map_blocks
    number_is n none = omega (arith, number_with w n, length-map_blocks 8 n (meta_map_at w) (pool_named w) none, place_is n)

  abbrev times : Type 0
  times = AllByRecursion (λ (d : ThinDevice). HasTimes d.mappings) m.devices

  timed_over : times → length (data_overflow w) ≡ overflows_in (shape_data w) w.data_blocks
  unfolding shape_of
  timed_over have = overflows_with w tt (own_have m.devices have)

  pub timed_need : (n : ℕ) → times → meta_overflow n (pool_named w) ≡ []
      → laid_number (laid_pool m n) ≡ need_of_devices (map (λ (d : ThinDevice). length d.mappings) m.devices) m.data_blocks (overflows_in (mapped_data m) m.data_blocks) n
  timed_need n have none = number_is (timed_over have) n none ∙ need_by_mappings m n

  -- where it is lawful
  module _ (lawful : IsLawfulPool m) where
    shape_lawful : IsLawfulPool (pool_of w)
    shape_lawful = subst IsLawfulPool (sym (pool_kept m)) lawful

    pub data_counts_are : data_counts w ≡ count_in (mapped_data m)
    data_counts_are = counts_are w (is_shape m) shape_lawful ∙ ap count_in (unshared_data m)

    pub data_overflows_are : length (data_overflow w) ≡ overflows_in (mapped_data m) m.data_blocks
    unfolding shape_of
    data_overflows_are = overflows_are w (is_shape m) shape_lawful ∙ ap (λ (blocks : List ℕ). overflows_in blocks m.data_blocks) (unshared_data m)

    pub map_place : (n : ℕ) → meta_map_at w + need_meta_map n ≡ thin_need m n
    map_place n = place_is (overflows_are w (is_shape m) shape_lawful) n ∙ unshared_need m n lawful

    pub laid_need : (n : ℕ) → thin_need m n ≤ 2 ^ 64 → laid_number (laid_pool m n) ≡ thin_need m n
    laid_need n fits =
        let place = map_place n in
        number_is (overflows_are w (is_shape m) shape_lawful) n (named_overflow n (meta_map_at w) (pool_named w) (pool_named_once (omega arith))) ∙ unshared_need m n lawful
