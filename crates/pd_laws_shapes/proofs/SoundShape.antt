-- The shape of an image means what the image does, and is one.
use Rattle.std.proofs.Common.{◌≡◌, ℕ, ◌^◌, ◌<◌, ◌≤◌, true, nat_eq, nat_le, get_or, List, [], ◌∷◌, ◌++◌, length, map, count_by, refl, sym, ◌∙◌, ap, ap₂, arith}
use Rattle.std.specs.List.{AllByRecursion, flat_map, range_with_len}
use Rattle.std.proofs.lemmas.Bool.{and_parts, ltb-true, leb-true}
use Rattle.std.proofs.lemmas.List.{length-map, map-append}
use Rattle.std.proofs.lemmas.Grind.{flat_map-append}
use Rattle.pd_kinds.specs.declared.kind.Kind.TheVariants.{Thin}
use Rattle.pd_kinds.specs.Graph.{Graph, block_at}
use Rattle.pd_kinds.specs.Layout.{graph_of, leaf_entries}
use Rattle.pd_kinds.specs.Meaning.{Mapping, ThinDevice, thin_device, thin_meaning}
use Rattle.pd_kinds.specs.Node.{Entry}
use Rattle.pd_kinds.specs.Stages.{HasCleanSuper, faults, thin_checked}
use Rattle.pd_kinds.specs.ThinFormat.{thin_graph, thin_fields}
use Rattle.pd_kinds.specs.Whole.{details_entries, mapping_entries, top_entries}
use Rattle.pd_kinds.proofs.KindLemmas.{the_mapping}
use Rattle.pd_kinds.proofs.CleanLemmas.{clean_super_where_none}
use Rattle.pd_kinds.proofs.ThinTable.{super_sound}
use Rattle.pd_kinds.specs.declared.kind.Stage.TheVariants as stages
use Rattle.pd_laid.proofs.NodeFacts.{leaves_entries}
use Rattle.pd_laid.specs.Shape.{ArePieces, IsShape, ShapeDevice, device_of, pool_of, uses_of, all_leaf_blocks, device_shapes, image_shape, is_shared_leaf, leaf_blocks, mappings_in, shared_leaves}
use Rattle.pd_laws_shapes.specs.Counts.{IsSharedTwice}
use Rattle.pd_laws_shapes.proofs.LeafLemmas.{Ascend, at_place, counted_any, filtered_all, filtered_ascend, filtered_few, uses_counted, leaves, number_of, numbers, pieces_are, pieces_mean, pieces_uses}

map_flat : (image : List (List ℕ)) (bs : List ℕ) → map the_mapping (flat_map (λ c. leaf_entries 8 (block_at image c)) bs) ≡ flat_map (mappings_in image) bs
map_flat image [] = refl
map_flat image (b ∷ bs) =
    map-append the_mapping (leaf_entries 8 (block_at image b)) (flat_map (λ c. leaf_entries 8 (block_at image c)) bs)
    ∙ ap (λ (rest : List Mapping). mappings_in image b ++ rest) (map_flat image bs)

module _ (image : List (List ℕ)) where
  abbrev pub graph : Graph
  graph = thin_graph (block_at image 0)

  abbrev pub shared_ones : List ℕ
  shared_ones = shared_leaves graph image

  -- a device's entries are those of its leaves
  entries_are : (root : ℕ) → mapping_entries graph image root ≡ flat_map (λ b. leaf_entries 8 (block_at image b)) (leaf_blocks graph image root)
  unfolding leaf_blocks
  entries_are root = leaves_entries 8 graph image 3 root

  pub mappings_are : (root : ℕ) → map the_mapping (mapping_entries graph image root) ≡ flat_map (mappings_in image) (leaf_blocks graph image root)
  mappings_are root = ap (map the_mapping) (entries_are root) ∙ map_flat image (leaf_blocks graph image root)

  abbrev pub details : List Entry
  details = details_entries graph image (thin_fields (block_at image 0)).details_root

  abbrev pub tops : List Entry
  tops = top_entries graph image (thin_fields (block_at image 0)).mapping_root

  abbrev pub shapes : List Entry → List ShapeDevice
  shapes es = device_shapes graph image (map (thin_device graph image details) es) (map (λ (e : Entry). e.value) es)

  -- the devices of the shape mean those of the image
  devices_mean : (es : List Entry) → map (device_of (leaves image shared_ones)) (shapes es) ≡ map (thin_device graph image details) es
  unfolding thin_device
  devices_mean [] = refl
  devices_mean (e ∷ es) =
      ap₂ (λ (ms : List Mapping) (rest : List ThinDevice). record (thin_device graph image details e) { mappings = ms } ∷ rest)
      (pieces_mean image shared_ones (leaf_blocks graph image e.value) ∙ sym (mappings_are e.value)) (devices_mean es)

  pub shape_means : pool_of (image_shape image) ≡ thin_meaning image
  unfolding pool_of image_shape thin_meaning
  shape_means = ap (λ (ds : List ThinDevice). record (thin_meaning image) { devices = ds }) (devices_mean tops)

  -- their pieces are pieces, and use the shared leaves that stand in their trees
  devices_are : (es : List Entry) → AllByRecursion (λ (d : ShapeDevice). ArePieces (length shared_ones) d.pieces) (shapes es)
  devices_are [] = tt
  devices_are (e ∷ es) = (pieces_are image shared_ones (leaf_blocks graph image e.value), devices_are es)

  devices_uses : (es : List Entry) → flat_map uses_of (shapes es)
      ≡ flat_map (λ b. numbers (number_of shared_ones b)) (flat_map (leaf_blocks graph image) (map (λ (e : Entry). e.value) es))
  devices_uses [] = refl
  devices_uses (e ∷ es) =
      ap₂ (λ (front back : List ℕ). front ++ back) (pieces_uses image shared_ones (leaf_blocks graph image e.value)) (devices_uses es)
      ∙ sym (flat_map-append (λ b. numbers (number_of shared_ones b)) (leaf_blocks graph image e.value) (flat_map (leaf_blocks graph image) (map (λ (e : Entry). e.value) es)))

  -- the shared leaves ascend, and each is one
  ascend : Ascend 0 shared_ones
  unfolding shared_leaves
  ascend = filtered_ascend (is_shared_leaf graph image) 0 graph.nr

  pub are_shared : AllByRecursion (λ b. is_shared_leaf graph image b ≡ true) shared_ones
  unfolding shared_leaves
  are_shared = filtered_all (λ b. is_shared_leaf graph image b ≡ true) (is_shared_leaf graph image) (λ b e. e) (range_with_len 0 graph.nr)

  pub few_shared : length shared_ones ≤ graph.nr
  unfolding shared_leaves
  few_shared = filtered_few (is_shared_leaf graph image) 0 graph.nr

  pub uses_are : (k : ℕ) → k < length shared_ones
      → count_by (λ used. nat_eq used k) (flat_map uses_of (image_shape image).devices) ≡ count_by (λ leaf. nat_eq leaf (get_or shared_ones k 0)) (all_leaf_blocks graph image)
  unfolding image_shape thin_meaning
  uses_are k within =
      ap (λ (uses : List ℕ). count_by (λ used. nat_eq used k) uses) (devices_uses tops) ∙ uses_counted shared_ones ascend k within (all_leaf_blocks graph image)

  leaves_number : length (image_shape image).leaves ≡ length shared_ones
  unfolding image_shape
  leaves_number = length-map shared_ones (mappings_in image)

  pub shared_twice : IsSharedTwice (image_shape image)
  shared_twice k within =
      let number = leaves_number in
      let is = at_place (λ b. is_shared_leaf graph image b ≡ true) shared_ones k are_shared (omega arith) in
      let many = ltb-true 1 (count_by (λ leaf. nat_eq leaf (get_or shared_ones k 0)) (all_leaf_blocks graph image)) (and_parts _ _ is).0 in
      let uses = uses_are k (omega arith) in
      omega arith

  leaf_sizes : (xs : List ℕ) → AllByRecursion (λ b. is_shared_leaf graph image b ≡ true) xs
      → AllByRecursion (λ (ms : List Mapping). 1 ≤ length ms) (map (mappings_in image) xs) × AllByRecursion (λ (ms : List Mapping). length ms ≤ 252) (map (mappings_in image) xs)
  leaf_sizes [] are = (tt, tt)
  leaf_sizes (b ∷ xs) are =
      let parts = and_parts (nat_le 1 (length (mappings_in image b))) (nat_le (length (mappings_in image b)) 252) (and_parts _ _ are.0).1 in
      let rest = leaf_sizes xs are.1 in
      ((leb-true 1 (length (mappings_in image b)) parts.0, rest.0), (leb-true (length (mappings_in image b)) 252 parts.1, rest.1))

  pub is_shape : graph.nr ≤ 2 ^ 64 → IsShape (image_shape image)
  unfolding image_shape thin_meaning
  is_shape few =
      let number = leaves_number in
      let most = few_shared in
      let sized = leaf_sizes shared_ones are_shared in
      record {
        numbers_fit = omega (arith, number, most, few);
        filled = sized.0;
        few = sized.1;
        pieces = rw number (devices_are tops);
        used = λ k within. counted_any k (flat_map uses_of (image_shape image).devices) (let twice = shared_twice k within in omega (arith, twice));
      }

-- a sound pool has few blocks
few_if_clean : (image : List (List ℕ)) → HasCleanSuper (thin_checked image) image → (thin_fields (block_at image 0)).meta_map.blocks ≤ 2 ^ 64
unfolding thin_checked
few_if_clean [] clean = absurd clean
few_if_clean (block ∷ blocks) clean = let few = (super_sound (length (block ∷ blocks)) block clean).few_blocks in omega arith

few_blocks : (image : List (List ℕ)) → faults Thin stages.Whole image ≡ [] → (thin_graph (block_at image 0)).nr ≤ 2 ^ 64
unfolding faults thin_graph graph_of
few_blocks image none = few_if_clean image (clean_super_where_none (thin_checked image) image (stages.Walk ∷ stages.Order ∷ stages.Whole ∷ []) none)

pub sound_is_shape : (image : List (List ℕ)) → faults Thin stages.Whole image ≡ [] → IsShape (image_shape image)
sound_is_shape image none = is_shape image (few_blocks image none)
