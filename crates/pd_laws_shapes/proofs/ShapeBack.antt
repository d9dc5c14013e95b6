-- The shape of a laid image is the one that was laid, where each shared leaf is used twice or more.
use Rattle.std.proofs.Common.{◌≡◌, ◌⊎◌, inl, inr, ℕ, zero, suc, ◌+◌, ◌-◌, ◌<◌, ◌≤◌, true, false, nat_eq, List, [], ◌∷◌, ◌++◌, length, map, filter, count_by, refl, ◌∙◌, ap, ap₂, subst, arith}
use Rattle.std.specs.List.{AllByRecursion, flat_map, range_with_len}
use Rattle.std.proofs.lemmas.Bool.{lt-ltb, le-ltb, le-leb}
use Rattle.std.proofs.lemmas.List.{append-nil}
use Rattle.pd_kinds.specs.Graph.{Graph}
use Rattle.pd_kinds.specs.Layout.{Tree, graph_of}
use Rattle.pd_kinds.specs.Image.{room_of}
use Rattle.pd_kinds.specs.Meaning.{Mapping, ThinPool}
use Rattle.pd_kinds.specs.ThinFormat.{mappings_tree, thin_layout}
use Rattle.pd_kinds.proofs.KindLemmas.{values_of}
use Rattle.pd_kinds.proofs.NumberLemmas.{range_split}
use Rattle.pd_kinds.proofs.CleanLemmas.{all_of_range}
use Rattle.pd_grammar.specs.Lawful.{AreDevices, IsLawfulPool}
use Rattle.pd_laid.specs.Laid.{IsLaid, count_in, laid_number, tree_of}
use Rattle.pd_laid.specs.LaidThin.{device_row, devices_at, laid_device, laid_shape, mapping_items, meta_map_at, meta_map_blocks, top_items, tops}
use Rattle.pd_laid.specs.Shape.{ArePieces, IsShape, Piece, ShapeDevice, ThinShape, device_of, piece_mappings, pool_of, uses_of, all_leaf_blocks, device_roots, device_shapes, image_shape, is_shared_leaf, leaf_blocks, mappings_in, pieces_of, shared_leaves}
use Rattle.pd_laid.proofs.GatherLemmas.{HasTimes}
use Rattle.pd_laws_laid.specs.LaidOut.{AllFrom, IsInPlace}
use Rattle.pd_laws_laid.proofs.Levels.{IsLeafAt}
use Rattle.pd_laws_laid.proofs.DataCounts.{times_of_mappings, leaves_times, behind_first, count_outside, count_shift}
use Rattle.pd_laws_laid.proofs.DeviceNames.{all_uses_below}
use Rattle.pd_laws_laid.proofs.PoolNames.{leaves_before_map}
use Rattle.pd_laws_laid.proofs.ThinDevices.{AreRows}
use Rattle.pd_laws_laid.proofs.ThinLaw.{graph_is, laid_means, tops_are}
use Rattle.pd_laws_laid.proofs.ThinPool.{ShapeFits, devices_all_seen, pool_blocks, pool_in_place, shape_fits, shared_seen}
use Rattle.pd_laws_laid.proofs.ShapeNeed.{number_with}
use Rattle.pd_laws_shapes.specs.Counts.{IsSharedTwice}
use Rattle.pd_laws_shapes.proofs.PiecesBack.{device_back, leaf_mappings_at, mappings_back, filter_both, filter_dropped, filter_kept, rows, rows_counted}

-- what holds in each place, from what holds there
from_each : {X : Type 0} (P Q : ℕ → X → Type 0) → ((q : ℕ) (x : X) → P q x → Q q x) → (place : ℕ) (xs : List X) → AllFrom P place xs → AllFrom Q place xs
from_each P Q each place [] all = tt
from_each P Q each place (x ∷ xs) all = (each place x all.0, from_each P Q each (place + 1) xs all.1)

-- leaves in their blocks give their mappings
leaves_in : (graph : Graph) (image : List (List ℕ)) (place : ℕ) (leaves : List (List Mapping)) → AllFrom (λ q g. IsLeafAt graph image 8 3 q g) place (map mapping_items leaves)
    → AllByRecursion HasTimes leaves → AllFrom (λ q (ms : List Mapping). mappings_in image q ≡ ms) place leaves
leaves_in graph image place [] at times = tt
leaves_in graph image place (ms ∷ leaves) at times =
    (leaf_mappings_at graph image place (mapping_items ms) at.0 ∙ mappings_back ms times.0, leaves_in graph image (place + 1) leaves at.1 times.1)

leaves_back : (image : List (List ℕ)) (place : ℕ) (leaves : List (List Mapping)) → AllFrom (λ q (ms : List Mapping). mappings_in image q ≡ ms) place leaves
    → map (mappings_in image) (range_with_len place (length leaves)) ≡ leaves
leaves_back image place [] at = refl
leaves_back image place (ms ∷ leaves) at = ap₂ (λ (x : List Mapping) (rest : List (List Mapping)). x ∷ rest) at.0 (leaves_back image (place + 1) leaves at.1)

-- how long each of them is
record HasSize (image : List (List ℕ)) (q : ℕ) : Type 0 where
  some : 1 ≤ length (mappings_in image q)
  few : length (mappings_in image q) ≤ 252

leaf_size : (image : List (List ℕ)) (place : ℕ) (leaves : List (List Mapping)) → AllFrom (λ q (ms : List Mapping). mappings_in image q ≡ ms) place leaves
    → AllByRecursion (λ (ms : List Mapping). 1 ≤ length ms) leaves → AllByRecursion (λ (ms : List Mapping). length ms ≤ 252) leaves
    → (k : ℕ) → k < length leaves → HasSize image (place + k)
leaf_size image place [] at some few k within = absurd (omega arith)
leaf_size image place (ms ∷ leaves) at some few zero within =
    let here : place + 0 ≡ place = omega arith in
    let size = ap (λ (xs : List Mapping). length xs) at.0 in
    rw here (record { some = omega (arith, size, some.0); few = omega (arith, size, few.0) })
leaf_size image place (ms ∷ leaves) at some few (suc k) within =
    let next : (place + 1) + k ≡ place + suc k = omega arith in
    subst (λ (q : ℕ). HasSize image q) next (leaf_size image (place + 1) leaves at.1 some.1 few.1 k (omega arith))

-- the times of devices' mappings
devices_times : (blocks least : ℕ) (leaves : List (List Mapping)) (ds : List ShapeDevice) → AreDevices blocks least (map (device_of leaves) ds)
    → AllByRecursion (λ (d : ShapeDevice). HasTimes (flat_map (piece_mappings leaves) d.pieces)) ds
devices_times blocks least leaves [] are = tt
devices_times blocks least leaves (d ∷ ds) are =
    (times_of_mappings blocks 0 (flat_map (piece_mappings leaves) d.pieces) are.0.mappings, devices_times blocks (d.id + 1) leaves ds are.1)

-- the leaves of devices are those of their rows
leaf_rows : (graph : Graph) (image : List (List ℕ)) (t : Tree) (leaves : List (List Mapping)) (place : ℕ) (ds : List ShapeDevice) → AreRows graph image t leaves place ds
    → flat_map (leaf_blocks graph image) (values_of (top_items t (map mapping_items leaves) place ds)) ≡ rows t (map mapping_items leaves) place ds
unfolding top_items leaf_blocks
leaf_rows graph image t leaves place [] seen = refl
leaf_rows graph image t leaves place (d ∷ ds) seen =
    ap₂ (λ (front back : List ℕ). front ++ back) seen.0.blocks_are
    (leaf_rows graph image t leaves (place + length (laid_device t (map mapping_items leaves) place d)) ds seen.1)

-- and their pieces those that they were laid of
devices_back : (graph : Graph) (image : List (List ℕ)) (t : Tree) (leaves : List (List Mapping)) (place : ℕ) (ds : List ShapeDevice) → length leaves < place
    → shared_leaves graph image ≡ range_with_len 1 (length leaves) → AreRows graph image t leaves place ds
    → AllByRecursion (λ (d : ShapeDevice). ArePieces (length leaves) d.pieces) ds → AllByRecursion (λ (d : ShapeDevice). HasTimes (flat_map (piece_mappings leaves) d.pieces)) ds
    → device_shapes graph image (map (device_of leaves) ds) (values_of (top_items t (map mapping_items leaves) place ds)) ≡ ds
unfolding top_items leaf_blocks device_row
devices_back graph image t leaves place [] above same seen are times = refl
devices_back graph image t leaves place (d ∷ ds) above same seen are times =
    let pieces = ap₂ (λ (ones bs : List ℕ). pieces_of image ones bs) same seen.0.blocks_are
    ∙ device_back graph image leaves place d.pieces above are.0 times.0 seen.0.leaves_at in
    ap₂ (λ (ps : List Piece) (rest : List ShapeDevice). record d { pieces = ps } ∷ rest) pieces
    (devices_back graph image t leaves (place + length (laid_device t (map mapping_items leaves) place d)) ds (omega arith) same seen.1 are.1 times.1)

module _ (w : ThinShape) (n : ℕ) (image : List (List ℕ)) (few : n ≤ 4161600) (fits : ShapeFits w) (shape : IsShape w)
    (room : meta_map_at w + length (meta_map_blocks w n) ≤ n) (stand : AllFrom (IsInPlace image (pool_blocks w n)) 0 (pool_blocks w n))
    (times : AllByRecursion HasTimes w.leaves) (twice : IsSharedTwice w) where
  abbrev this : Graph
  this = graph_of 11 n w.data_blocks (thin_layout n w.data_blocks)

  abbrev t : Tree
  t = tree_of (mappings_tree w.data_blocks)

  abbrev number : ℕ
  number = length w.leaves

  abbrev uses : List ℕ
  uses = flat_map uses_of w.devices

  seen : AreRows (graph_of 11 n w.data_blocks (thin_layout n w.data_blocks)) image (tree_of (mappings_tree w.data_blocks)) w.leaves (devices_at w) w.devices
  seen = (devices_all_seen w n image few fits shape room stand).rows

  leaves_at : AllFrom (λ q (ms : List Mapping). mappings_in image q ≡ ms) 1 w.leaves
  leaves_at =
      leaves_in this image 1 w.leaves
      (from_each _ (λ q g. IsLeafAt this image 8 3 q g) (λ q g is. is.at) 1 (map mapping_items w.leaves) (shared_seen w n image few fits shape room stand)) times

  top_roots : device_roots (graph_of 11 n w.data_blocks (thin_layout n w.data_blocks)) image ≡ values_of (tops w)
  top_roots = ap values_of (tops_are w n image few fits shape room stand)

  all_leaves : all_leaf_blocks (graph_of 11 n w.data_blocks (thin_layout n w.data_blocks)) image ≡ rows (tree_of (mappings_tree w.data_blocks)) (map mapping_items w.leaves) (devices_at w) w.devices
  all_leaves = ap (flat_map (leaf_blocks this image)) top_roots ∙ leaf_rows this image t w.leaves (devices_at w) w.devices seen

  -- which leaves are shared
  count_leaf : (b : ℕ) → count_in (all_leaf_blocks (graph_of 11 n w.data_blocks (thin_layout n w.data_blocks)) image) b
      ≡ count_in (rows (tree_of (mappings_tree w.data_blocks)) (map mapping_items w.leaves) (devices_at w) w.devices) b
  count_leaf b = ap (λ (bs : List ℕ). count_in bs b) all_leaves

  shared_leaf : (k : ℕ) → k < length w.leaves → is_shared_leaf (graph_of 11 n w.data_blocks (thin_layout n w.data_blocks)) image (1 + k) ≡ true
  shared_leaf k within =
      let size = leaf_size image 1 w.leaves leaves_at shape.filled shape.few k within in
      let counted = (rows_counted t (map mapping_items w.leaves) (devices_at w) w.devices (1 + k)).before (omega arith) in
      let same : suc k ≡ 1 + k = omega arith in
      let used = subst (λ (b : ℕ). count_in (behind_first uses) b ≡ count_in uses k) same (count_shift uses k) in
      let many = twice k within in
      let here = count_leaf (1 + k) in
      let some = size.some in
      let at_most = size.few in
      let more : 1 < count_by (λ leaf. nat_eq leaf (1 + k)) (all_leaf_blocks this image) = omega arith in
      rw (lt-ltb 1 (count_by (λ leaf. nat_eq leaf (1 + k)) (all_leaf_blocks this image)) more, le-leb 1 (length (mappings_in image (1 + k))) some, le-leb (length (mappings_in image (1 + k))) 252 at_most) refl

  other_leaf : (b : ℕ) → (b ≡ 0) ⊎ (length w.leaves < b) → is_shared_leaf (graph_of 11 n w.data_blocks (thin_layout n w.data_blocks)) image b ≡ false
  other_leaf b outside =
      let counted = (rows_counted t (map mapping_items w.leaves) (devices_at w) w.devices b).most in
      let used = count_outside uses number b (all_uses_below number w.devices shape.pieces) outside in
      let here = count_leaf b in
      let few_times : count_by (λ leaf. nat_eq leaf b) (all_leaf_blocks this image) ≤ 1 = omega arith in
      rw (le-ltb 1 (count_by (λ leaf. nat_eq leaf b) (all_leaf_blocks this image)) few_times) refl

  shared_are : shared_leaves (graph_of 11 n w.data_blocks (thin_layout n w.data_blocks)) image ≡ range_with_len 1 (length w.leaves)
  unfolding shared_leaves graph_of
  shared_are =
      let p = is_shared_leaf this image in
      let before = leaves_before_map w in
      let rest = n - 1 - number in
      let whole : n ≡ 1 + (number + rest) = omega arith in
      let split = ap (λ (size : ℕ). filter p (range_with_len 0 size)) whole
      ∙ (ap (filter p) (range_split 0 1 (number + rest)) ∙ filter_both p (range_with_len 0 1) (range_with_len 1 (number + rest))) in
      let later = ap (filter p) (range_split 1 number rest) ∙ filter_both p (range_with_len 1 number) (range_with_len (1 + number) rest) in
      let first = filter_dropped p (range_with_len 0 1) (all_of_range (λ b. p b ≡ false) 0 1 (λ b low high. other_leaf b (inl (omega arith)))) in
      let last = filter_dropped p (range_with_len (1 + number) rest) (all_of_range (λ b. p b ≡ false) (1 + number) rest (λ b low high. other_leaf b (inr (omega arith)))) in
      let here = filter_kept p (range_with_len 1 number) (all_of_range (λ b. p b ≡ true) 1 number
      (λ b low high. let same : 1 + (b - 1) ≡ b = omega arith in subst (λ (c : ℕ). p c ≡ true) same (shared_leaf (b - 1) (omega arith)))) in
      split ∙ (ap₂ (λ (front back : List ℕ). front ++ back) first (later ∙ ap₂ (λ (front back : List ℕ). front ++ back) here last) ∙ append-nil (range_with_len 1 number))

  abbrev shape_by : ThinPool → Graph → ThinShape
  shape_by m graph = record {
    uuid = m.uuid;
    time = m.time;
    transaction = m.transaction;
    block_size = m.block_size;
    data_blocks = m.data_blocks;
    leaves = map (mappings_in image) (shared_leaves graph image);
    devices = device_shapes graph image m.devices (device_roots graph image);
  }

  pub shape_back : image_shape image ≡ w
  unfolding image_shape pool_of
  shape_back =
      let leaves = ap (map (mappings_in image)) shared_are ∙ leaves_back image 1 w.leaves leaves_at in
      let devices = ap (device_shapes this image (map (device_of w.leaves) w.devices)) top_roots
      ∙ devices_back this image t w.leaves (devices_at w) w.devices (omega arith) shared_are seen shape.pieces
      (devices_times w.data_blocks 0 w.leaves w.devices fits.devices) in
      ap₂ shape_by (laid_means w n image few fits shape room stand) (graph_is w n image few fits shape room stand)
      ∙ ap₂ (λ (ls : List (List Mapping)) (ds : List ShapeDevice). record w { leaves = ls; devices = ds }) leaves devices

pub laid_shape_back : (w : ThinShape) (base image : List (List ℕ)) → IsLawfulPool (pool_of w) → IsShape w → IsSharedTwice w
    → laid_number (laid_shape w (room_of (length base))) ≤ room_of (length base) → IsLaid (laid_shape w (room_of (length base))) base image → image_shape image ≡ w
laid_shape_back w base image lawful shape twice room is =
    let n = room_of (length base) in
    let number = number_with w n in
    shape_back w n image (omega arith) (shape_fits w lawful) shape (omega arith) (pool_in_place w n base image is) (leaves_times w shape lawful) twice
