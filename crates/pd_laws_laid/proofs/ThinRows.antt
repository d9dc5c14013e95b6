-- The row of the leaves of a device: its own, and those that it shares.
use Rattle.std.proofs.Common.{◌≡◌, ℕ, zero, suc, ◌+◌, ◌<◌, ◌≤◌, get_or, List, [], ◌∷◌, ◌++◌, length, map, refl, sym, ◌∙◌, ap₂, arith, ◌^◌, true, false, not, nat_lt, ◌%◌}
use Rattle.std.specs.List.{AllByRecursion, flat_map, slice_get}
use Rattle.std.specs.Option.{unwrap_or}
use Rattle.std.proofs.lemmas.List.{append-nil}
use Rattle.std.proofs.lemmas.Grind.{flat_map-append}
use Rattle.std.proofs.lemmas.Bool.{lt-ltb, not_from_true}
use Rattle.pd_kinds.specs.Node.{Entry, max_entries, is_ascending}
use Rattle.pd_kinds.specs.Meaning.{Mapping}
use Rattle.pd_kinds.proofs.KindsListLemmas.{all_first, all_last}
use Rattle.pd_kinds.proofs.ListLemmas.{all_append, all_from, all_of}
use Rattle.pd_kinds.specs.Layout.{plain_tree, bitmap, index, tree, tree_to, Layout}
use Rattle.pd_kinds.specs.ThinFormat.{mapped_block, mappings_tree, thin_layout}
use Rattle.pd_kinds.specs.Field.{details_code, mapping_code}
use Rattle.pd_grammar.specs.Lawful.{AreDevices, AreMappings}
use Rattle.pd_laid.specs.LaidThin.{mapping_items, own_leaves, pieces_row, some_pieces, details_items}
use Rattle.pd_laid.specs.Shape.{ArePieces, Piece, leaf_mappings, own, piece_mappings, shared, uses_of_piece, ShapeDevice, device_of}
use Rattle.pd_laid.specs.Laid.{heads, LaidBlock, tree_of}
use Rattle.pd_laid.proofs.GatherLemmas.{items-append, length-items}
use Rattle.pd_laws_laid.specs.LaidOut.{AllFrom, LeadsBelow, AreItems}
use Rattle.pd_laws_laid.proofs.ListLemmas.{from_back, from_both, from_front}
use Rattle.pd_laws_laid.proofs.Trees.{from_heads, heads_from, leaves_are}
use Rattle.pd_laws_laid.proofs.Ascending.{asc_cons}
use Rattle.pd_laws_laid.proofs.Index.{made_all, made_keys}

-- what holds of each element by its index, and by its place
pub all_by_index : {X : Type 0} → (P : X → Type 0) (d : X) (xs : List X) → ((i : ℕ) → i < length xs → P (get_or xs i d)) → AllByRecursion P xs
all_by_index P d [] each = tt
all_by_index P d (x ∷ xs) each = (each 0 (omega arith), all_by_index P d xs (λ i within. each (suc i) (omega arith)))

pub from_by_index : {X : Type 0} → (P : ℕ → X → Type 0) (place : ℕ) (xs : List X) → AllFrom P place xs → (d : X) (i : ℕ) → i < length xs → P (place + i) (get_or xs i d)
from_by_index P place [] all d i within = absurd (omega arith)
from_by_index P place (x ∷ xs) all d zero within = let e : place + 0 ≡ place = omega arith in rw e all.0
from_by_index P place (x ∷ xs) all d (suc i) within =
    let e : place + suc i ≡ (place + 1) + i = omega arith in
    rw e (from_by_index P (place + 1) xs all.1 d i (omega arith))

-- the leaves of a piece
abbrev pub piece_groups : List (List Entry) → Piece → List (List Entry)
piece_groups leaves (own mappings) = own_leaves (own mappings)
piece_groups leaves (shared number) = unwrap_or (slice_get leaves number) [] ∷ []

-- a piece has some mappings of its own, or is a leaf that there is
abbrev pub PieceFits : ℕ → Piece → Type 0
PieceFits leaves (own mappings) = 1 ≤ length mappings
PieceFits leaves (shared number) = number < leaves

pub pieces_fit : (leaves : ℕ) (pieces : List Piece) → ArePieces leaves pieces → AllByRecursion (PieceFits leaves) pieces
pieces_fit leaves [] are = tt
pieces_fit leaves (own mappings ∷ []) are = (are, tt)
pieces_fit leaves (own mappings ∷ own others ∷ pieces) are = absurd are
pieces_fit leaves (own mappings ∷ shared number ∷ pieces) are = (are.0, (are.1.0, pieces_fit leaves pieces are.1.1))
pieces_fit leaves (shared number ∷ pieces) are = (are.0, pieces_fit leaves pieces are.1)

-- the leaves of a device hold its mappings
mapped_leaf : (leaves : List (List Mapping)) (number : ℕ) → unwrap_or (slice_get (map mapping_items leaves) number) [] ≡ mapping_items (leaf_mappings leaves number)
unfolding mapping_items
mapped_leaf [] number = refl
mapped_leaf (leaf ∷ leaves) zero = refl
mapped_leaf (leaf ∷ leaves) (suc number) = mapped_leaf leaves number

piece_joined : (leaves : List (List Mapping)) (piece : Piece)
    → flat_map (λ (g : List Entry). g) (piece_groups (map mapping_items leaves) piece) ≡ mapping_items (piece_mappings leaves piece)
piece_joined leaves (own mappings) = (leaves_are 8 (mapping_items mappings) (omega arith)).joined_is
piece_joined leaves (shared number) = append-nil (unwrap_or (slice_get (map mapping_items leaves) number) []) ∙ mapped_leaf leaves number

pub groups_joined : (leaves : List (List Mapping)) (pieces : List Piece)
    → flat_map (λ (g : List Entry). g) (flat_map (piece_groups (map mapping_items leaves)) pieces) ≡ mapping_items (flat_map (piece_mappings leaves) pieces)
unfolding mapping_items
groups_joined leaves [] = refl
groups_joined leaves (piece ∷ pieces) =
    let groups = map mapping_items leaves in
    flat_map-append (λ (g : List Entry). g) (piece_groups groups piece) (flat_map (piece_groups groups) pieces)
    ∙ (ap₂ (λ (front back : List Entry). front ++ back) (piece_joined leaves piece) (groups_joined leaves pieces)
    ∙ sym (items-append (piece_mappings leaves piece) (flat_map (piece_mappings leaves) pieces)))

pub some_mappings : (leaves : List (List Mapping)) (pieces : List Piece) → flat_map (piece_mappings leaves) (some_pieces pieces) ≡ flat_map (piece_mappings leaves) pieces
some_mappings leaves [] = refl
some_mappings leaves (piece ∷ pieces) = refl

-- what holds of its leaves holds of its own ones, and of those that it shares
pub own_part : (P : List Entry → Type 0) (leaves : List (List Entry)) (pieces : List Piece) → AllByRecursion P (flat_map (piece_groups leaves) pieces)
    → AllByRecursion P (flat_map own_leaves pieces)
own_part P leaves [] all = tt
own_part P leaves (own mappings ∷ pieces) all =
    all_append P (own_leaves (own mappings)) (flat_map own_leaves pieces) (all_first P (own_leaves (own mappings)) (flat_map (piece_groups leaves) pieces) all)
    (own_part P leaves pieces (all_last P (own_leaves (own mappings)) (flat_map (piece_groups leaves) pieces) all))
own_part P leaves (shared number ∷ pieces) all = own_part P leaves pieces all.1

pub shared_part : (P : List Entry → Type 0) (leaves : List (List Entry)) (pieces : List Piece) → AllByRecursion P (flat_map (piece_groups leaves) pieces)
    → AllByRecursion (λ k. P (unwrap_or (slice_get leaves k) [])) (flat_map uses_of_piece pieces)
shared_part P leaves [] all = tt
shared_part P leaves (own mappings ∷ pieces) all = shared_part P leaves pieces (all_last P (own_leaves (own mappings)) (flat_map (piece_groups leaves) pieces) all)
shared_part P leaves (shared number ∷ pieces) all = (all.0, shared_part P leaves pieces all.1)

pub uses_fit : (leaves : ℕ) (pieces : List Piece) → AllByRecursion (PieceFits leaves) pieces → AllByRecursion (λ k. k < leaves) (flat_map uses_of_piece pieces)
uses_fit leaves [] fit = tt
uses_fit leaves (own mappings ∷ pieces) fit = uses_fit leaves pieces fit.1
uses_fit leaves (shared number ∷ pieces) fit = (fit.0, uses_fit leaves pieces fit.1)

-- what a row names: the places of its own leaves, and of those that it shares
pub row_all : (P : ℕ → Type 0) (leaves : List (List Entry)) (place : ℕ) (pieces : List Piece) → AllFrom (λ q (g : List Entry). P q) place (flat_map own_leaves pieces)
    → AllByRecursion (λ k. P (1 + k)) (flat_map uses_of_piece pieces) → AllByRecursion (λ (e : Entry). P e.value) (pieces_row leaves place pieces)
row_all P leaves place [] front uses = tt
row_all P leaves place (own mappings ∷ pieces) front uses =
    let here = own_leaves (own mappings) in
    all_append (λ (e : Entry). P e.value) (heads place here) (pieces_row leaves (place + length here) pieces)
    (heads_from P place here (from_front (λ q g. P q) place here (flat_map own_leaves pieces) front))
    (row_all P leaves (place + length here) pieces (from_back (λ q g. P q) place here (flat_map own_leaves pieces) front) uses)
row_all P leaves place (shared number ∷ pieces) front uses =
    let e : place + 0 ≡ place = omega arith in
    (uses.0, row_all P leaves (place + 0) pieces (rw e front) uses.1)

pub row_own : (P : ℕ → Type 0) (leaves : List (List Entry)) (place : ℕ) (pieces : List Piece) → AllByRecursion (λ (e : Entry). P e.value) (pieces_row leaves place pieces)
    → AllFrom (λ q (g : List Entry). P q) place (flat_map own_leaves pieces)
row_own P leaves place [] all = tt
row_own P leaves place (own mappings ∷ pieces) all =
    let here = own_leaves (own mappings) in
    let holds = λ (e : Entry). P e.value in
    from_both (λ q g. P q) place here (flat_map own_leaves pieces)
    (from_heads P place here (all_first holds (heads place here) (pieces_row leaves (place + length here) pieces) all))
    (row_own P leaves (place + length here) pieces (all_last holds (heads place here) (pieces_row leaves (place + length here) pieces) all))
row_own P leaves place (shared number ∷ pieces) all =
    let e : place + 0 ≡ place = omega arith in
    rw e at (row_own P leaves (place + 0) pieces all.1)

pub row_uses : (P : ℕ → Type 0) (leaves : List (List Entry)) (place : ℕ) (pieces : List Piece) → AllByRecursion (λ (e : Entry). P e.value) (pieces_row leaves place pieces)
    → AllByRecursion (λ k. P (1 + k)) (flat_map uses_of_piece pieces)
row_uses P leaves place [] all = tt
row_uses P leaves place (own mappings ∷ pieces) all =
    let here = own_leaves (own mappings) in
    row_uses P leaves (place + length here) pieces (all_last (λ (e : Entry). P e.value) (heads place here) (pieces_row leaves (place + length here) pieces) all)
row_uses P leaves place (shared number ∷ pieces) all = (all.0, row_uses P leaves (place + 0) pieces all.1)

-- each own leaf has room, and where pieces fit no leaf is empty
pub own_most : (pieces : List Piece) → AllByRecursion (λ (g : List Entry). length g ≤ max_entries 8) (flat_map own_leaves pieces)
own_most [] = tt
own_most (own mappings ∷ pieces) =
    all_append (λ (g : List Entry). length g ≤ max_entries 8) (own_leaves (own mappings)) (flat_map own_leaves pieces)
    (leaves_are 8 (mapping_items mappings) (omega arith)).most (own_most pieces)
own_most (shared number ∷ pieces) = own_most pieces

pub groups_filled : (leaves : List (List Mapping)) (pieces : List Piece) → AllByRecursion (λ (ms : List Mapping). 1 ≤ length ms) leaves → AllByRecursion (PieceFits (length leaves)) pieces
    → AllByRecursion (λ (g : List Entry). 1 ≤ length g) (flat_map (piece_groups (map mapping_items leaves)) pieces)
groups_filled leaves [] filled fit = tt
groups_filled leaves (own mappings ∷ pieces) filled fit =
    let some = fit.0 in
    all_append (λ (g : List Entry). 1 ≤ length g) (own_leaves (own mappings)) (flat_map (piece_groups (map mapping_items leaves)) pieces)
    ((leaves_are 8 (mapping_items mappings) (omega arith)).filled (omega (arith, length-items mappings)))
    (groups_filled leaves pieces filled fit.1)
groups_filled leaves (shared number ∷ pieces) filled fit =
    (rw mapped_leaf (omega (arith, length-items (leaf_mappings leaves number), leaf_some leaves number filled fit.0)), groups_filled leaves pieces filled fit.1)
  where
    leaf_some : (leaves : List (List Mapping)) (number : ℕ) → AllByRecursion (λ (ms : List Mapping). 1 ≤ length ms) leaves → number < length leaves → 1 ≤ length (leaf_mappings leaves number)
    leaf_some [] number filled within = absurd (omega arith)
    leaf_some (leaf ∷ leaves) zero filled within = filled.0
    leaf_some (leaf ∷ leaves) (suc number) filled within = leaf_some leaves number filled.1 (omega arith)

-- The entries of a lawful pool's trees can be laid.

-- what each mapping keeps
abbrev pub MappingFits : ℕ → Mapping → Type 0
MappingFits data_blocks x = (x.virtual_block < 2 ^ 64) × (x.data_block < data_blocks) × (x.time < 2 ^ 24)

mappings_from : (data_blocks least : ℕ) (ms : List Mapping) → AreMappings data_blocks least ms → AllByRecursion (λ k. least ≤ k) (map (λ (x : Mapping). x.virtual_block) ms)
mappings_from data_blocks least [] all = tt
mappings_from data_blocks least (x ∷ ms) all =
    let above = all.0.above in (
      above,
      all_from (λ k. x.virtual_block + 1 ≤ k) (λ k. least ≤ k) (λ k more. omega arith) (map (λ (x : Mapping). x.virtual_block) ms)
          (mappings_from data_blocks (x.virtual_block + 1) ms all.1),
    )

mappings_ascend : (data_blocks least : ℕ) (ms : List Mapping) → AreMappings data_blocks least ms → is_ascending (map (λ (x : Mapping). x.virtual_block) ms) ≡ true
unfolding is_ascending
mappings_ascend data_blocks least [] all = refl
mappings_ascend data_blocks least (x ∷ ms) all =
    let keys = map (λ (x : Mapping). x.virtual_block) ms in
    asc_cons x.virtual_block keys
    (all_from (λ k. x.virtual_block + 1 ≤ k) (λ k. x.virtual_block < k) (λ k more. omega arith) keys (mappings_from data_blocks (x.virtual_block + 1) ms all.1))
    (mappings_ascend data_blocks (x.virtual_block + 1) ms all.1)

pub mappings_fit : (data_blocks least : ℕ) (ms : List Mapping) → AreMappings data_blocks least ms → AllByRecursion (MappingFits data_blocks) ms
mappings_fit data_blocks least [] all = tt
mappings_fit data_blocks least (x ∷ ms) all =
    ((all.0.virtual_fits, all.0.within, all.0.time_fits), mappings_fit data_blocks (x.virtual_block + 1) ms all.1)

pub mapping_block : (b t : ℕ) → t < 2 ^ 24 → mapped_block (mapping_code b t) ≡ b
mapping_block b t small = omega arith

-- so the entries of mappings can be laid: they name no metadata block
pub mapping_items_are : (blocks : List LaidBlock) (limit data_blocks : ℕ) (ms : List Mapping) → data_blocks ≤ 2 ^ 40 → AreMappings data_blocks 0 ms
    → AreItems blocks limit (tree_of (mappings_tree data_blocks)) (mapping_items ms)
unfolding mapping_items
mapping_items_are blocks limit data_blocks ms few all =
    let key = λ (x : Mapping). x.virtual_block in
    let value = λ (x : Mapping). mapping_code x.data_block x.time in
    let fit = mappings_fit data_blocks 0 ms all in
    record {
      ascending = rw (made_keys key value ms) (mappings_ascend data_blocks 0 ms all);
      keys_fit = made_all (λ (e : Entry). e.key < 2 ^ 64) (MappingFits data_blocks) key value (λ x h. h.0) ms fit;
      values_fit = made_all (λ (e : Entry). e.value < 256 ^ 8) (MappingFits data_blocks) key value (λ x h. let small = h.1 in let time = h.2 in omega arith) ms fit;
      in_range = made_all (λ (e : Entry). not (nat_lt (mapped_block e.value) data_blocks) ≡ false) (MappingFits data_blocks) key value
          (λ x h. let block = mapping_block x.data_block x.time h.2 in not_from_true (nat_lt (mapped_block (mapping_code x.data_block x.time)) data_blocks)
          (lt-ltb (mapped_block (mapping_code x.data_block x.time)) data_blocks (rw block h.1))) ms fit;
      leads = all_of (λ (e : Entry). AllByRecursion (LeadsBelow blocks limit) []) (λ e. tt) (mapping_items ms);
    }

-- what each device of a shape keeps
pub record DeviceFits (data_blocks : ℕ) (leaves : List (List Mapping)) (d : ShapeDevice) : Type 0 where
  pub id_fits : d.id < 2 ^ 64
  pub mapped_is : d.mapped ≡ length (flat_map (piece_mappings leaves) d.pieces)
  pub mapped_fits : d.mapped < 2 ^ 64
  pub transaction_fits : d.transaction < 2 ^ 64
  pub created_fits : d.created < 2 ^ 32
  pub snapped_fits : d.snapped < 2 ^ 32
  pub mappings_are : AreMappings data_blocks 0 (flat_map (piece_mappings leaves) d.pieces)

devices_from : (data_blocks least : ℕ) (leaves : List (List Mapping)) (ds : List ShapeDevice) → AreDevices data_blocks least (map (device_of leaves) ds)
    → AllByRecursion (λ k. least ≤ k) (map (λ (d : ShapeDevice). d.id) ds)
devices_from data_blocks least leaves [] all = tt
devices_from data_blocks least leaves (d ∷ ds) all =
    let above = all.0.above in (
      above,
      all_from (λ k. d.id + 1 ≤ k) (λ k. least ≤ k) (λ k more. omega arith) (map (λ (d : ShapeDevice). d.id) ds)
          (devices_from data_blocks (d.id + 1) leaves ds all.1),
    )

pub devices_ascend : (data_blocks least : ℕ) (leaves : List (List Mapping)) (ds : List ShapeDevice) → AreDevices data_blocks least (map (device_of leaves) ds)
    → is_ascending (map (λ (d : ShapeDevice). d.id) ds) ≡ true
unfolding is_ascending
devices_ascend data_blocks least leaves [] all = refl
devices_ascend data_blocks least leaves (d ∷ ds) all =
    let keys = map (λ (d : ShapeDevice). d.id) ds in
    asc_cons d.id keys
    (all_from (λ k. d.id + 1 ≤ k) (λ k. d.id < k) (λ k more. omega arith) keys (devices_from data_blocks (d.id + 1) leaves ds all.1))
    (devices_ascend data_blocks (d.id + 1) leaves ds all.1)

pub devices_fit : (data_blocks least : ℕ) (leaves : List (List Mapping)) (ds : List ShapeDevice) → AreDevices data_blocks least (map (device_of leaves) ds)
    → AllByRecursion (DeviceFits data_blocks leaves) ds
devices_fit data_blocks least leaves [] all = tt
devices_fit data_blocks least leaves (d ∷ ds) all = (
  record {
    id_fits = all.0.id_fits;
    mapped_is = all.0.mapped;
    mapped_fits = all.0.mapped_fits;
    transaction_fits = all.0.transaction_fits;
    created_fits = all.0.created_fits;
    snapped_fits = all.0.snapped_fits;
    mappings_are = all.0.mappings;
  },
  devices_fit data_blocks (d.id + 1) leaves ds all.1,
)

abbrev pub details_value : ShapeDevice → ℕ
details_value d = details_code d.mapped d.transaction d.created d.snapped

-- the entries of the details tree
pub details_items_are : (blocks : List LaidBlock) (limit data_blocks : ℕ) (leaves : List (List Mapping)) (ds : List ShapeDevice) → AllByRecursion (DeviceFits data_blocks leaves) ds
    → is_ascending (map (λ (d : ShapeDevice). d.id) ds) ≡ true → AreItems blocks limit (tree_of (plain_tree 24)) (details_items ds)
unfolding details_items
details_items_are blocks limit data_blocks leaves ds fit asc =
    let key = λ (d : ShapeDevice). d.id in
    record {
      ascending = rw (made_keys key details_value ds) asc;
      keys_fit = made_all (λ (e : Entry). e.key < 2 ^ 64) (DeviceFits data_blocks leaves) key details_value (λ d is. is.id_fits) ds fit;
      values_fit = made_all (λ (e : Entry). e.value < 256 ^ 24) (DeviceFits data_blocks leaves) key details_value
          (λ d is. let a = is.mapped_fits in let b = is.transaction_fits in let c = is.created_fits in let e = is.snapped_fits in omega arith) ds fit;
      in_range = all_of (λ (e : Entry). false ≡ false) (λ e. refl) (details_items ds);
      leads = all_of (λ (e : Entry). AllByRecursion (LeadsBelow blocks limit) []) (λ e. tt) (details_items ds);
    }

-- What the roles of a thin pool are.

pub record HasRoles (data_blocks : ℕ) (layout : ℕ → Layout) : Type 0 where
  pub top : layout 2 ≡ tree (tree_of (tree_to 8 3 (λ v. v)))
  pub mappings : layout 3 ≡ tree (tree_of (mappings_tree data_blocks))
  pub details : layout 4 ≡ tree (tree_of (plain_tree 24))
  pub data_index : layout 5 ≡ tree (tree_of (tree_to 16 6 (λ v. v % 2 ^ 64)))
  pub data_bitmap : layout 6 ≡ bitmap
  pub data_overflow : layout 7 ≡ tree (tree_of (plain_tree 4))
  pub meta_index : layout 8 ≡ index 9
  pub meta_bitmap : layout 9 ≡ bitmap
  pub meta_overflow : layout 10 ≡ plain_tree 4

pub layout_roles : (n data_blocks : ℕ) → HasRoles data_blocks (thin_layout n data_blocks)
unfolding thin_layout
layout_roles n data_blocks = record {
  top = refl;
  mappings = refl;
  details = refl;
  data_index = refl;
  data_bitmap = refl;
  data_overflow = refl;
  meta_index = refl;
  meta_bitmap = refl;
  meta_overflow = refl;
}
