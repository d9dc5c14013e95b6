-- The devices of a laid pool.
use Rattle.std.proofs.Common.{◌≡◌, ℕ, ◌+◌, ◌^◌, ◌<◌, ◌≤◌, true, nat_eq, List, [], ◌∷◌, ◌++◌, length, map, refl, ◌∙◌, ap, arith}
use Rattle.std.specs.List.{AllByRecursion, flat_map, list_any, slice_get}
use Rattle.std.specs.Option.{unwrap_or}
use Rattle.std.proofs.lemmas.List.{length-append, length-map}
use Rattle.std.proofs.lemmas.Option.{unwrap_or-slice_get}
use Rattle.pd_kinds.specs.Node.{Entry}
use Rattle.pd_kinds.specs.Layout.{Tree, graph_of}
use Rattle.pd_kinds.specs.Graph.{Graph, block_of, is_inner_pair, pair, children, gathered}
use Rattle.pd_kinds.specs.Meaning.{Mapping}
use Rattle.pd_kinds.specs.ThinFormat.{mappings_tree, thin_layout}
use Rattle.pd_kinds.specs.Trees.{entries_below}
use Rattle.pd_kinds.proofs.KindLemmas.{values_of}
use Rattle.pd_kinds.proofs.KindsListLemmas.{holds_among}
use Rattle.pd_kinds.proofs.ListLemmas.{all_append, all_from}
use Rattle.pd_laid.specs.Laid.{LaidBlock, laid_inner, laid_leaf, tree_of, heads, inners_above}
use Rattle.pd_laid.specs.LaidThin.{device_root, device_row, laid_device, laid_devices, mapping_items, own_leaves, pieces_row, some_pieces, top_items}
use Rattle.pd_laid.specs.Shape.{ArePieces, Piece, ShapeDevice, own, piece_mappings, shared, uses_of, uses_of_piece}
use Rattle.pd_laid.proofs.NeedLemmas.{length-heads}
use Rattle.pd_laws_laid.specs.LaidOut.{AllFrom, IsFitting, IsInPlace, IsNamed, role_at, AreItems}
use Rattle.pd_laws_laid.proofs.ListLemmas.{from_back, from_both, from_follows, from_front}
use Rattle.pd_laws_laid.proofs.Names.{root_has}
use Rattle.pd_laws_laid.proofs.Roots.{AreLeavesAt, leaves_both}
use Rattle.pd_laws_laid.proofs.Trees.{IsRow, SeenLeaf, leaf_roles, leaves_are, leaves_fit, leaves_seen, parts_items, row_above, seen_at}
use Rattle.pd_laws_laid.proofs.ThinRows.{DeviceFits, mapping_items_are, layout_roles, PieceFits, all_by_index, from_by_index, groups_filled, groups_joined, own_most, own_part, piece_groups, pieces_fit, row_all, row_own, row_uses, shared_part, some_mappings, uses_fit}

-- the leaves below a device's root are those of its row, its own ones and those that it shares
pub record IsRowSeen (graph : Graph) (image : List (List ℕ)) (leaves : List (List Mapping)) (place : ℕ) (d : ShapeDevice) : Type 0 where
  pub blocks_are : gathered (is_inner_pair graph image) (children graph image) (λ p. block_of p ∷ []) 63 (pair (device_root (map mapping_items leaves) place d) 3)
      ≡ values_of (device_row (map mapping_items leaves) place d)
  pub leaves_at : AreLeavesAt graph image 8 3 (device_row (map mapping_items leaves) place d) (flat_map (piece_groups (map mapping_items leaves)) (some_pieces d.pieces))

-- below the roots of devices stand their mappings
abbrev pub AreRead : Graph → List (List ℕ) → Tree → List (List Mapping) → ℕ → List ShapeDevice → Type 0
AreRead graph image t leaves place [] = Unit {0}
AreRead graph image t leaves place (d ∷ ds) =
    (entries_below graph image 8 3 (device_root (map mapping_items leaves) place d) ≡ mapping_items (flat_map (piece_mappings leaves) d.pieces))
    × AreRead graph image t leaves (place + length (laid_device t (map mapping_items leaves) place d)) ds

-- and the leaves of their rows
abbrev pub AreRows : Graph → List (List ℕ) → Tree → List (List Mapping) → ℕ → List ShapeDevice → Type 0
AreRows graph image t leaves place [] = Unit {0}
AreRows graph image t leaves place (d ∷ ds) =
    IsRowSeen graph image leaves place d × AreRows graph image t leaves (place + length (laid_device t (map mapping_items leaves) place d)) ds

-- mappings have a role, of few, and values of 8 bytes
pub known : 3 < 11
known = omega arith

pub few_roles : 11 ≤ 16
few_roles = omega arith

pub wide : 8 ≤ 24
wide = omega arith

module _ (n data_blocks : ℕ) (image : List (List ℕ)) (blocks : List LaidBlock) (limit : ℕ) (leaves : List (List Mapping))
    (few : n ≤ 4161600) (within : limit ≤ n) (few_data : data_blocks ≤ 2 ^ 40)
    (filled : AllByRecursion (λ (ms : List Mapping). 1 ≤ length ms) leaves) where
  abbrev pub this : Graph
  this = graph_of 11 n data_blocks (thin_layout n data_blocks)

  abbrev pub t : Tree
  t = tree_of (mappings_tree data_blocks)

  abbrev pub groups : List (List Entry)
  groups = map mapping_items leaves

  abbrev SeenLeafAt : ℕ → List Entry → Type 0
  SeenLeafAt q g = SeenLeaf 11 n data_blocks (thin_layout n data_blocks) image blocks limit 3 t (layout_roles n data_blocks).mappings known few_roles wide few within q g

  -- the leaves of a device can be laid
  groups_are : (d : ShapeDevice) → DeviceFits data_blocks leaves d
      → AllByRecursion (AreItems blocks limit (tree_of (mappings_tree data_blocks))) (flat_map (piece_groups (map mapping_items leaves)) (some_pieces d.pieces))
  groups_are d fit =
      let whole = groups_joined leaves (some_pieces d.pieces) ∙ ap mapping_items (some_mappings leaves d.pieces) in
      parts_items blocks limit t (flat_map (piece_groups groups) (some_pieces d.pieces))
      (rw whole (mapping_items_are blocks limit data_blocks (flat_map (piece_mappings leaves) d.pieces) few_data fit.mappings_are))

  -- so can a leaf that some device shares
  shared_are : (ds : List ShapeDevice) → AllByRecursion (DeviceFits data_blocks leaves) ds
      → AllByRecursion (λ k. AreItems blocks limit (tree_of (mappings_tree data_blocks)) (unwrap_or (slice_get (map mapping_items leaves) k) [])) (flat_map uses_of ds)
  shared_are [] fit = tt
  shared_are (d ∷ ds) fit =
      let is = λ (k : ℕ). AreItems blocks limit t (unwrap_or (slice_get groups k) []) in
      all_append is (uses_of d) (flat_map uses_of ds)
      (some_uses is d.pieces (shared_part (AreItems blocks limit t) groups (some_pieces d.pieces) (groups_are d fit.0))) (shared_are ds fit.1)
    where
      some_uses : (P : ℕ → Type 0) (pieces : List Piece) → AllByRecursion P (flat_map uses_of_piece (some_pieces pieces)) → AllByRecursion P (flat_map uses_of_piece pieces)
      some_uses P [] all = tt
      some_uses P (piece ∷ pieces) all = all

  pub leaves_are_items : (ds : List ShapeDevice) → AllByRecursion (DeviceFits data_blocks leaves) ds
      → ((number : ℕ) → number < length leaves → list_any (λ used. nat_eq used number) (flat_map uses_of ds) ≡ true)
      → AllByRecursion (AreItems blocks limit (tree_of (mappings_tree data_blocks))) (map mapping_items leaves)
  leaves_are_items ds fit used =
      all_by_index (AreItems blocks limit t) [] groups
      (λ i inside.
      let at = unwrap_or-slice_get groups i [] in
      let size = length-map leaves mapping_items in
      rw at at (holds_among (λ k. AreItems blocks limit t (unwrap_or (slice_get groups k) [])) (flat_map uses_of ds) i (shared_are ds fit) (used i (omega arith))))

  -- each device has some leaf
  piece_some : (place : ℕ) (piece : Piece) (pieces : List Piece) → 1 ≤ length (pieces_row groups place (piece ∷ pieces))
  piece_some place (own mappings) pieces =
      let are = leaves_are 8 (mapping_items mappings) (omega arith) in
      omega (arith, length-append (heads place (own_leaves (own mappings))) (pieces_row groups (place + length (own_leaves (own mappings))) pieces), are.some, length-heads place (own_leaves (own mappings)))
  piece_some place (shared number) pieces = omega arith

  row_some : (place : ℕ) (pieces : List Piece) → 1 ≤ length (pieces_row groups place (some_pieces pieces))
  row_some place [] = piece_some place (own []) []
  row_some place (piece ∷ pieces) = piece_some place piece pieces

  some_fit : (pieces : List Piece) → AllByRecursion (PieceFits (length leaves)) pieces → AllByRecursion (λ k. k < length leaves) (flat_map uses_of_piece (some_pieces pieces))
  some_fit [] fit = tt
  some_fit (piece ∷ pieces) fit = uses_fit (length leaves) (piece ∷ pieces) fit

  -- the root of a device is one of the blocks before its end
  device_root_inside : (place : ℕ) (d : ShapeDevice) → 1 + length leaves ≤ place → ArePieces (length leaves) d.pieces
      → (1 ≤ device_root (map mapping_items leaves) place d)
      × (device_root (map mapping_items leaves) place d < place + length (laid_device (tree_of (mappings_tree data_blocks)) (map mapping_items leaves) place d))
  unfolding laid_device device_root device_row
  device_root_inside place d behind_shared are =
      let pieces = some_pieces d.pieces in
      let own_groups = flat_map own_leaves pieces in
      let row = pieces_row groups place pieces in
      let behind = place + length own_groups in
      let inners = inners_above behind row in
      let end = behind + length inners in
      let is = λ (q : ℕ). (1 ≤ q) × (q < end) in
      let uses = some_fit d.pieces (pieces_fit (length leaves) d.pieces are) in
      let count : place + length (map (laid_leaf 3 t) own_groups ++ map (laid_inner 3) inners) ≡ end =
      omega (arith, length-append (map (laid_leaf 3 t) own_groups) (map (laid_inner 3) inners), length-map own_groups (laid_leaf 3 t), length-map inners (laid_inner 3)) in
      rw count
      (root_has is behind row (row_some place d.pieces)
      (row_all is groups place pieces (places end place own_groups (omega arith) (omega arith))
      (all_from (λ k. k < length leaves) (λ k. is (1 + k)) (λ k inside. (omega arith, omega arith)) (flat_map uses_of_piece pieces) uses))
      (λ q low high. (omega arith, omega arith)))
    where
      places : (end q : ℕ) (nodes : List (List Entry)) → 1 ≤ q → q + length nodes ≤ end → AllFrom (λ q g. (1 ≤ q) × (q < end)) q nodes
      places end q [] low high = tt
      places end q (g ∷ nodes) low high = ((low, omega arith), places end (q + 1) nodes (omega arith) (omega arith))

  -- so what the mapping tree names lies below the end of the devices
  pub tops_inside : (place : ℕ) (ds : List ShapeDevice) → 1 + length leaves ≤ place → AllByRecursion (λ (d : ShapeDevice). ArePieces (length leaves) d.pieces) ds
      → AllByRecursion (λ (e : Entry). (1 ≤ e.value) × (e.value < place + length (laid_devices (tree_of (mappings_tree data_blocks)) (map mapping_items leaves) place ds)))
      (top_items (tree_of (mappings_tree data_blocks)) (map mapping_items leaves) place ds)
  unfolding laid_devices top_items
  tops_inside place [] behind_shared are = tt
  tops_inside place (d ∷ ds) behind_shared are =
      let here = laid_device t groups place d in
      let rest = laid_devices t groups (place + length here) ds in
      let root = device_root_inside place d behind_shared are.0 in
      let both = length-append here rest in
      let e : (place + length here) + length rest ≡ place + length (here ++ rest) = omega arith in
      ((root.0, omega (arith, root.1)), rw e at (tops_inside (place + length here) ds (omega arith) are.1))

  module _ (shared_seen : AllFrom (λ q g. SeenLeaf 11 n data_blocks (thin_layout n data_blocks) image blocks limit 3 (tree_of (mappings_tree data_blocks)) (layout_roles n data_blocks).mappings known few_roles wide few within q g) 1 (map mapping_items leaves))
      (shared_roles : AllFrom (λ q (g : List Entry). role_at blocks q ≡ 3) 1 (map mapping_items leaves)) where
    -- the row of a device's leaves names leaves
    row_leaves : (place : ℕ) (pieces : List Piece) → AllByRecursion (λ k. k < length leaves) (flat_map uses_of_piece pieces) → AllFrom SeenLeafAt place (flat_map own_leaves pieces)
        → AreLeavesAt this image 8 3 (pieces_row groups place pieces) (flat_map (piece_groups groups) pieces)
    row_leaves place [] uses seen = tt
    row_leaves place (own mappings ∷ pieces) uses seen =
        let here = own_leaves (own mappings) in
        leaves_both this image 8 3 (heads place here) (pieces_row groups (place + length here) pieces) here (flat_map (piece_groups groups) pieces)
        (seen_at 11 n data_blocks (thin_layout n data_blocks) image blocks limit 3 t (layout_roles n data_blocks).mappings known few_roles wide few within place here
        (from_front SeenLeafAt place here (flat_map own_leaves pieces) seen))
        (row_leaves (place + length here) pieces uses (from_back SeenLeafAt place here (flat_map own_leaves pieces) seen))
    row_leaves place (shared number ∷ pieces) uses seen =
        let size = length-map leaves mapping_items in
        let inside = uses.0 in
        let at = unwrap_or-slice_get groups number [] in
        let leaf = from_by_index SeenLeafAt 1 groups shared_seen [] number (omega arith) in
        let e : place + 0 ≡ place = omega arith in
        ((refl, rw at leaf.at), row_leaves (place + 0) pieces uses.1 (rw e seen))

    -- a device, where it is laid
    pub record IsDeviceSeen (place : ℕ) (d : ShapeDevice) : Type 0 where
      pub entries_are : entries_below this image 8 3 (device_root groups place d) ≡ mapping_items (flat_map (piece_mappings leaves) d.pieces)
      pub fitting : AllFrom (IsFitting this image blocks limit) place (laid_device t groups place d)
      pub uses_named : AllByRecursion (λ k. IsNamed blocks (1 + k)) (uses_of d)
      pub row_seen : IsRowSeen this image leaves place d

    one_row : (place : ℕ) → length (pieces_row groups place (own [] ∷ [])) ≡ 1
    unfolding mapping_items
    one_row place =
        let are = leaves_are 8 (mapping_items []) (omega arith) in
        let size = length-heads place (own_leaves (own [])) in
        let whole = length-append (heads place (own_leaves (own []))) [] in
        omega (arith, are.one refl, size, whole)

    row_filled : (place : ℕ) (pieces : List Piece) → AllByRecursion (PieceFits (length leaves)) pieces → 1 < length (pieces_row groups place (some_pieces pieces))
        → AllByRecursion (λ (g : List Entry). 1 ≤ length g) (flat_map (piece_groups groups) (some_pieces pieces))
    row_filled place [] fit many = absurd (omega (arith, one_row place))
    row_filled place (piece ∷ pieces) fit many = groups_filled leaves (piece ∷ pieces) filled fit

    pub device_seen : (place : ℕ) (d : ShapeDevice) → 1 + length leaves ≤ place → place + length (laid_device t groups place d) ≤ limit
        → DeviceFits data_blocks leaves d → ArePieces (length leaves) d.pieces → AllFrom (IsInPlace image blocks) place (laid_device t groups place d)
        → IsNamed blocks (device_root groups place d) → IsDeviceSeen place d
    unfolding laid_device device_root device_row
    device_seen place d behind_shared room fit are stand root_named =
        let pieces = some_pieces d.pieces in
        let own_groups = flat_map own_leaves pieces in
        let all_groups = flat_map (piece_groups groups) pieces in
        let row = pieces_row groups place pieces in
        let end = place + length own_groups in
        let inners = inners_above end row in
        let fits = pieces_fit (length leaves) d.pieces are in
        let uses = some_fit d.pieces fits in
        let laid_leaves = map (laid_leaf 3 t) own_groups in
        let leaf_count = length-map own_groups (laid_leaf 3 t) in
        let inner_count = length-map inners (laid_inner 3) in
        let both = length-append laid_leaves (map (laid_inner 3) inners) in
        let front = from_front (IsInPlace image blocks) place laid_leaves (map (laid_inner 3) inners) stand in
        let back : AllFrom (IsInPlace image blocks) end (map (laid_inner 3) inners) =
        rw leaf_count at (from_back (IsInPlace image blocks) place laid_leaves (map (laid_inner 3) inners) stand) in
        let items = own_part (AreItems blocks limit t) groups pieces (groups_are d fit) in
        let seen = leaves_seen 11 n data_blocks (thin_layout n data_blocks) image blocks limit 3 t (layout_roles n data_blocks).mappings known few_roles wide few within
        place own_groups (omega arith) (own_most pieces) items front in
        let whole = groups_joined leaves pieces ∙ ap mapping_items (some_mappings leaves d.pieces) in
        let all_items = mapping_items_are blocks limit data_blocks (flat_map (piece_mappings leaves) d.pieces) few_data fit.mappings_are in
        let roles = leaf_roles 11 n data_blocks (thin_layout n data_blocks) image blocks limit 3 t (layout_roles n data_blocks).mappings known few_roles wide few within
        place own_groups front in
        let size = length-map leaves mapping_items in
        let row_is : IsRow 11 n data_blocks (thin_layout n data_blocks) image blocks limit 3 t (layout_roles n data_blocks).mappings known few_roles wide few within
        end row all_groups (mapping_items (flat_map (piece_mappings leaves) d.pieces)) = record {
          leaves = row_leaves place pieces uses seen;
          joined_is = whole;
          some = row_some place d.pieces;
          filled = row_filled place d.pieces fits;
          ascending = all_items.ascending;
          keys_fit = all_items.keys_fit;
          inside = row_all (λ q. (1 ≤ q) × (q < end)) groups place pieces
              (from_follows (λ q (g : List Entry). role_at blocks q ≡ 3) (λ q g. (1 ≤ q) × (q < end)) place own_groups (λ q low high g is. (omega arith, omega arith)) roles)
              (all_from (λ k. k < length leaves) (λ k. (1 ≤ 1 + k) × (1 + k < end)) (λ k inside. (omega arith, omega arith)) (flat_map uses_of_piece pieces) uses);
          roles_are = row_all (λ q. role_at blocks q ≡ 3) groups place pieces roles
              (all_from (λ k. k < length leaves) (λ k. role_at blocks (1 + k) ≡ 3)
              (λ k inside. from_by_index (λ q (g : List Entry). role_at blocks q ≡ 3) 1 groups shared_roles [] k (omega arith)) (flat_map uses_of_piece pieces) uses);
        } in
        let above = row_above 11 n data_blocks (thin_layout n data_blocks) image blocks limit 3 t (layout_roles n data_blocks).mappings known few_roles wide few within
        end row all_groups (mapping_items (flat_map (piece_mappings leaves) d.pieces)) (omega arith) (omega arith) row_is back root_named in
        record {
          entries_are = above.root.entries_are;
          fitting = from_both (IsFitting this image blocks limit) place laid_leaves (map (laid_inner 3) inners)
              (leaves_fit 11 n data_blocks (thin_layout n data_blocks) image blocks limit 3 t (layout_roles n data_blocks).mappings known few_roles wide few within
              place own_groups seen items (row_own (IsNamed blocks) groups place pieces above.named))
              (rw leaf_count above.fitting);
          uses_named = unused d.pieces (row_uses (IsNamed blocks) groups place pieces above.named);
          row_seen = record { blocks_are = above.leaves_are; leaves_at = row_is.leaves };
        }
      where
        unused : (pieces : List Piece) → AllByRecursion (λ k. IsNamed blocks (1 + k)) (flat_map uses_of_piece (some_pieces pieces)) → AllByRecursion (λ k. IsNamed blocks (1 + k)) (flat_map uses_of_piece pieces)
        unused [] all = tt
        unused (piece ∷ pieces) all = all

    -- all devices
    pub record AreDevicesSeen (place : ℕ) (ds : List ShapeDevice) : Type 0 where
      pub entries_are : AreRead this image t leaves place ds
      pub fitting : AllFrom (IsFitting this image blocks limit) place (laid_devices t groups place ds)
      pub uses_named : AllByRecursion (λ k. IsNamed blocks (1 + k)) (flat_map uses_of ds)
      pub rows : AreRows this image t leaves place ds

    pub devices_seen : (place : ℕ) (ds : List ShapeDevice) → 1 + length leaves ≤ place → place + length (laid_devices t groups place ds) ≤ limit
        → AllByRecursion (DeviceFits data_blocks leaves) ds → AllByRecursion (λ (d : ShapeDevice). ArePieces (length leaves) d.pieces) ds
        → AllFrom (IsInPlace image blocks) place (laid_devices t groups place ds)
        → AllByRecursion (λ (e : Entry). IsNamed blocks e.value) (top_items t groups place ds) → AreDevicesSeen place ds
    unfolding laid_devices top_items
    devices_seen place [] behind_shared room fit are stand named = record { entries_are = tt; fitting = tt; uses_named = tt; rows = tt }
    devices_seen place (d ∷ ds) behind_shared room fit are stand named =
        let here = laid_device t groups place d in
        let rest = laid_devices t groups (place + length here) ds in
        let both = length-append here rest in
        let first = device_seen place d behind_shared (omega arith) fit.0 are.0 (from_front (IsInPlace image blocks) place here rest stand) named.0 in
        let others = devices_seen (place + length here) ds (omega arith) (omega arith) fit.1 are.1 (from_back (IsInPlace image blocks) place here rest stand) named.1 in
        record {
          entries_are = (first.entries_are, others.entries_are);
          fitting = from_both (IsFitting this image blocks limit) place here rest first.fitting others.fitting;
          uses_named = all_append (λ k. IsNamed blocks (1 + k)) (uses_of d) (flat_map uses_of ds) first.uses_named others.uses_named;
          rows = (first.row_seen, others.rows);
        }
