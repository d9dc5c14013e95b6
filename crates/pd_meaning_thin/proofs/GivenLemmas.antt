-- What the cursors give of an image without faults are the pieces of its shape's devices, and its shared leaves.
use Rattle.std.proofs.Common.{◌≡◌, inl, inr, ℕ, zero, suc, ◌+◌, ◌<◌, ◌≤◌, Bool, true, false, cond, nat_eq, nat_lt, List, [], ◌∷◌, Some, None, length, filter, count_by, refl, subst, arith, ◌&&◌, nat_le, map, sym, ap, ◌∙◌}
use Rattle.std.specs.List.{AllByRecursion, flat_map, position, position_or_len, range_with_len}
use Rattle.std.proofs.lemmas.Bool.{cases_Bool, eqb-true, ltb-true, and_parts}
use Rattle.std.proofs.lemmas.List.{length-map}
use Rattle.pd_kinds.proofs.KindsListLemmas.{all_first, all_last}
use Rattle.pd_kinds.specs.Graph.{Graph, block_at}
use Rattle.pd_kinds.specs.Layout.{graph_of}
use Rattle.pd_kinds.specs.Meaning.{Mapping, thin_meaning}
use Rattle.pd_kinds.specs.Node.{Entry, is_inner_node}
use Rattle.pd_kinds.specs.ThinFormat.{thin_graph, thin_fields}
use Rattle.pd_kinds.specs.Whole.{top_entries}
use Rattle.pd_kinds.proofs.ListLemmas.{all_flat_map, all_from, all_from_two, all_mapped}
use Rattle.pd_laid.specs.Shape.{all_leaf_blocks, is_shared_leaf, leaf_blocks, mappings_in, shared_leaves}
use Rattle.pd_laid.specs.Shape as shape
use Rattle.pd_value.specs.declared.thin.Details.{Details}
use Rattle.pd_value.specs.declared.thin.Root.{Root}
use Rattle.pd_tree.specs.Below.{items_below}
use Rattle.pd_tree.specs.Cursor.{root_of}
use Rattle.pd_meaning_thin.specs.Marks.{occurs}
use Rattle.pd_meaning_thin.proofs.OccursLemmas.{among_there, holds_among}
use Rattle.pd_meaning_thin.specs.declared.devices.DeviceRow.{DeviceRow}
use Rattle.pd_meaning_thin.specs.Runs.{rows_of, mappings_below}
use Rattle.pd_meaning_thin.specs.Given.{GivesPool, device_of, pool_rows}
use Rattle.pd_meaning_thin.proofs.LawfulLemmas.{spelled_given, HasSizes}
use Rattle.pd_meaning_thin.specs.Pieces.{GivesLeaf, GivesShape, IsGivenWhole, device_pieces, pool_leaves, pool_roots, number_of, given_piece, pieces_below}
use Rattle.pd_meaning_thin.specs.Walk.{leaves_below, roots_below, roots_of}
use Rattle.pd_meaning_thin.proofs.LeafLemmas.{IsOuter, OwnAll, leaf_mappings_are, leaves_outer, mappings_are, mappings_by_leaves, pieces_all, shape_pieces}

-- What holds of each element of a list holds of one that is found in it, and of the parts of the list.

-- an element that is counted
pub at_counted : (P : ℕ → Type 0) (b : ℕ) (xs : List ℕ) → AllByRecursion P xs → 1 ≤ count_by (λ c. nat_eq c b) xs → P b
unfolding occurs
at_counted P b xs all some = holds_among P b xs all (among_there b xs some)

-- one that has a place
at_place : (P : ℕ → Type 0) (b : ℕ) (xs : List ℕ) → AllByRecursion P xs → position_or_len (λ c. nat_eq c b) xs < length xs → P b
at_place P b [] all less = absurd (omega arith)
at_place P b (x ∷ xs) all less = elim (cases_Bool (nat_eq x b)) [
  | inl same ↦ subst P (eqb-true x b same) all.0
  | inr other ↦
      let rest : 1 + position_or_len (λ c. nat_eq c b) xs < length (x ∷ xs) = rw other at less in
      at_place P b xs all.1 (omega arith)
]

at_place_if : (P : ℕ → Type 0) (b number : ℕ) (xs : List ℕ) (found : Bool) → nat_lt (position_or_len (λ c. nat_eq c b) xs) (length xs) ≡ found → AllByRecursion P xs
    → cond found (Some (position_or_len (λ c. nat_eq c b) xs)) None ≡ Some number → P b
at_place_if P b number xs true found all is = at_place P b xs all (ltb-true (position_or_len (λ c. nat_eq c b) xs) (length xs) found)
at_place_if P b number xs false found all is = absurd cc

pub at_position : (P : ℕ → Type 0) (b number : ℕ) (xs : List ℕ) → AllByRecursion P xs → position (λ c. nat_eq c b) xs ≡ Some number → P b
at_position P b number xs all is = at_place_if P b number xs (nat_lt (position_or_len (λ c. nat_eq c b) xs) (length xs)) refl all is

-- the numbers of a range that pass
kept_if : (P : ℕ → Type 0) (a : ℕ) (kept : Bool) (rest : List ℕ) → (kept ≡ true → P a) → AllByRecursion P rest → AllByRecursion P (cond kept (a ∷ rest) rest)
kept_if P a true rest first all = (first refl, all)
kept_if P a false rest first all = all

pub all_kept : (P : ℕ → Type 0) (test : ℕ → Bool) (n a : ℕ) → ((b : ℕ) → b < a + n → test b ≡ true → P b) → AllByRecursion P (filter test (range_with_len a n))
all_kept P test zero a each = tt
all_kept P test (suc n) a each =
    kept_if P a (test a) (filter test (range_with_len (a + 1) n)) (each a (omega arith)) (all_kept P test n (a + 1) (λ b below. each b (omega arith)))

pub all_flat_parts : {X Y : Type 0} → (f : X → List Y) (P : Y → Type 0) (xs : List X) → AllByRecursion P (flat_map f xs) → AllByRecursion (λ x. AllByRecursion P (f x)) xs
all_flat_parts f P [] all = tt
all_flat_parts f P (x ∷ xs) all = (all_first P (f x) (flat_map f xs) all, all_flat_parts f P xs (all_last P (f x) (flat_map f xs) all))

-- the roots of rows, where each entry of the mapping tree has one
rows_roots : (tops : List (ℕ × Root)) (details : List (ℕ × Details)) → length (rows_of tops details) ≡ length tops
    → map (λ (row : DeviceRow). row.root) (rows_of tops details) ≡ roots_of tops
rows_roots [] details same = refl
rows_roots (top ∷ tops) [] same = absurd (omega arith)
rows_roots (top ∷ tops) (d ∷ details) same = ap (λ (roots : List ℕ). top.1.0 ∷ roots) (rows_roots tops details (omega arith))

-- how many devices a meaning has
devices_count : (image : List (List ℕ)) → length (thin_meaning image).devices ≡ length (pool_roots image)
unfolding thin_meaning
devices_count image =
    let tops = top_entries (thin_graph (block_at image 0)) image (thin_fields (block_at image 0)).mapping_root in
    length-map tops _ ∙ sym (length-map tops (λ (e : Entry). e.value))

module _ (image : List (List ℕ)) (gives : GivesPool image) (sizes : HasSizes image)
    (roots_are : pool_roots image ≡ roots_below image (thin_fields (block_at image 0)).mapping_root)
    (leaves_are : AllByRecursion (λ root. leaf_blocks (thin_graph (block_at image 0)) image root ≡ leaves_below image 63 root) (pool_roots image)) where
  abbrev graph : Graph
  graph = thin_graph (block_at image 0)

  abbrev blocks : ℕ
  blocks = (thin_fields (block_at image 0)).data_map.blocks

  -- the roots of the rows
  row_roots_are : map (λ (row : DeviceRow). row.root) (pool_rows image) ≡ pool_roots image
  row_roots_are =
      let tops = items_below 8 root_of image 63 (thin_fields (block_at image 0)).mapping_root in
      let rows : length (pool_rows image) ≡ length (thin_meaning image).devices = sym (ap length gives.devices ∙ length-map (pool_rows image) (device_of image)) in
      let each : length (pool_roots image) ≡ length tops = ap length roots_are ∙ length-map tops (λ (item : ℕ × Root). item.1.0) in
      rows_roots tops _ (rows ∙ (devices_count image ∙ each)) ∙ sym roots_are

  -- a mapping to a data block of the pool
  abbrev IsMapped : Mapping → Type 0
  IsMapped m = m.data_block < blocks

  -- a leaf whose mappings are such
  abbrev IsGood : ℕ → Type 0
  IsGood b = IsOuter image b × AllByRecursion IsMapped (mappings_in image b)

  roots_within : AllByRecursion (λ root. AllByRecursion IsMapped (mappings_below image root)) (pool_roots image)
  roots_within =
      subst (AllByRecursion (λ root. AllByRecursion IsMapped (mappings_below image root))) row_roots_are
      (all_mapped (λ (row : DeviceRow). row.root) (λ root. AllByRecursion IsMapped (mappings_below image root)) (pool_rows image) gives.within)

  good_leaves : (root : ℕ) → AllByRecursion IsMapped (mappings_below image root) → AllByRecursion IsGood (leaves_below image 63 root)
  good_leaves root within =
      all_from_two (IsOuter image) (λ b. AllByRecursion IsMapped (mappings_in image b)) IsGood (λ b outer mapped. (outer, mapped)) (leaves_below image 63 root)
      (leaves_outer image 63 root)
      (all_flat_parts (mappings_in image) IsMapped (leaves_below image 63 root) (rw (mappings_by_leaves image root) at within))

  -- all leaves of devices are
  roots_good : AllByRecursion (λ root. AllByRecursion IsGood (leaf_blocks graph image root)) (pool_roots image)
  roots_good =
      all_from_two (λ root. AllByRecursion IsMapped (mappings_below image root)) (λ root. leaf_blocks graph image root ≡ leaves_below image 63 root) (λ root. AllByRecursion IsGood (leaf_blocks graph image root))
      (λ root within are. subst (AllByRecursion IsGood) (sym are) (good_leaves root within)) (pool_roots image) roots_within leaves_are

  all_good : AllByRecursion IsGood (all_leaf_blocks graph image)
  all_good = all_flat_map (leaf_blocks graph image) IsGood (pool_roots image) roots_good

  -- so is a shared one, and it is in the image
  nr_within : graph.nr ≤ length image
  unfolding thin_graph graph_of
  nr_within = sizes.within

  counted : (b : ℕ) → is_shared_leaf graph image b ≡ true → IsGood b
  counted b is =
      let twice = ltb-true 1 (count_by (λ leaf. nat_eq leaf b) (all_leaf_blocks graph image)) (and_parts (nat_lt 1 (count_by (λ leaf. nat_eq leaf b) (all_leaf_blocks graph image))) (nat_le 1 (length (mappings_in image b)) && nat_le (length (mappings_in image b)) 252) is).0 in
      at_counted IsGood b (all_leaf_blocks graph image) all_good (omega arith)

  shared_good : AllByRecursion (λ b. (b < length image) × IsGood b) (pool_leaves image)
  unfolding shared_leaves
  shared_good =
      let inside = nr_within in
      all_kept (λ b. (b < length image) × IsGood b) (is_shared_leaf graph image) graph.nr 0 (λ b below is. (let within : b < length image = omega arith in within, counted b is))

  shared_outer : (b number : ℕ) → number_of (pool_leaves image) b ≡ Some number → is_inner_node (block_at image b) ≡ false
  shared_outer b number is = (at_position (λ b. (b < length image) × IsGood b) b number (pool_leaves image) shared_good is).1.0

  -- what a cursor over runs gives of it
  leaf_given : (b : ℕ) → (b < length image) × IsGood b → GivesLeaf image b
  leaf_given b good =
      let are = leaf_mappings_are image b good.1.0 in
      record {
        within = good.0;
        mappings = are;
        runs = rw are (spelled_given blocks (mappings_in image b) sizes.few good.1.1);
      }

  -- the pieces of a device
  device_given : (root : ℕ) → leaf_blocks graph image root ≡ leaves_below image 63 root → pieces_below (pool_leaves image) image root ≡ flat_map given_piece (device_pieces image root)
  device_given root are = rw are (shape_pieces (pool_leaves image) image (mappings_are image) shared_outer root)

  piece_whole : (piece : shape.Piece) → OwnAll IsMapped piece → IsGivenWhole piece
  piece_whole (shape.own mappings) all = spelled_given blocks mappings sizes.few all
  piece_whole (shape.shared number) all = tt

  device_whole : (root : ℕ) → AllByRecursion IsGood (leaf_blocks graph image root) → AllByRecursion IsGivenWhole (device_pieces image root)
  device_whole root good =
      all_from (OwnAll IsMapped) IsGivenWhole piece_whole (device_pieces image root)
      (pieces_all IsMapped image (pool_leaves image) (leaf_blocks graph image root) (all_from IsGood (λ b. AllByRecursion IsMapped (mappings_in image b)) (λ b both. both.1) (leaf_blocks graph image root) good))

  pub gives_shape : GivesShape image
  gives_shape = record {
    roots = row_roots_are;
    pieces = all_from (λ root. leaf_blocks graph image root ≡ leaves_below image 63 root) (λ root. pieces_below (pool_leaves image) image root ≡ flat_map given_piece (device_pieces image root)) device_given (pool_roots image) leaves_are;
    runs = all_from (λ root. AllByRecursion IsGood (leaf_blocks graph image root)) (λ root. AllByRecursion IsGivenWhole (device_pieces image root)) device_whole (pool_roots image) roots_good;
    leaves = all_from (λ b. (b < length image) × IsGood b) (GivesLeaf image) leaf_given (pool_leaves image) shared_good;
  }
