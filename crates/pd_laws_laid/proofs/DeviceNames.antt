-- What the trees of devices name: with their roots their own blocks once, and each shared leaf as often as they use it.
use Rattle.std.proofs.Common.{◌≡◌, ℕ, ◌+◌, ◌≤◌, List, [], ◌∷◌, length, map, sum_by, refl, sym, ◌∙◌, ap, ap₂, arith, inl, inr, suc, ◌^◌, ◌<◌, ◌++◌}
use Rattle.std.specs.List.{AllByRecursion, flat_map, range_with_len}
use Rattle.std.proofs.lemmas.List.{length-append, map-append, length-map}
use Rattle.std.proofs.lemmas.List.Sums.{sum_by-cons}
use Rattle.std.proofs.lemmas.Bool.{cases_lt, lt-ltb}
use Rattle.pd_kinds.specs.Meaning.{Mapping}
use Rattle.pd_kinds.specs.Node.{Entry, leaf_block, inner_block}
use Rattle.pd_kinds.specs.Layout.{Tree}
use Rattle.pd_kinds.proofs.KindLemmas.{values_of}
use Rattle.pd_kinds.proofs.NumberLemmas.{range_split}
use Rattle.pd_kinds.proofs.ListLemmas.{all_append}
use Rattle.pd_grammar.specs.Need.{nodes_for, need_above}
use Rattle.pd_laid.specs.LaidThin.{mapping_items, some_pieces, own_leaves, pieces_row, device_row, device_leaves, device_inners, device_root, laid_device, laid_devices, top_items}
use Rattle.pd_laid.specs.Shape.{ArePieces, Piece, ShapeDevice, own, shared, uses_of_piece, uses_of}
use Rattle.pd_laid.specs.Laid.{blocks_from, heads, tree_leaves, named_by, count_in, laid_leaf, laid_inner, inners_above, root_above}
use Rattle.pd_laid.proofs.GatherLemmas.{length-items}
use Rattle.pd_laid.proofs.LaidLemmas.{length-blocks_from}
use Rattle.pd_laid.proofs.NeedLemmas.{length-heads, length-inners, length-leaves}
use Rattle.pd_laid.specs.PoolText.{leaves_of_pieces, need_of_leaves, own_number}
use Rattle.pd_laid.proofs.Rows.{entries_of, row_named, values-heads}
use Rattle.pd_laws_laid.specs.Shared.{IsFilled, device_tree, device_trees, trees_need}
use Rattle.pd_laws_laid.proofs.OnceTrees.{count-append, count-cons, inners_named, item_names, leaves_named, named-append}
use Rattle.pd_laws_laid.proofs.DataCounts.{behind_first}

-- How many blocks the tree of a device takes.

-- as many leaves as hold some mappings
pub leaves_number : (ms : List Mapping) → 1 ≤ length ms → length (tree_leaves 8 (mapping_items ms)) ≡ nodes_for 252 (length ms)
leaves_number ms some =
    let items = length-items ms in
    length-leaves 8 (mapping_items ms) ∙ rw items (omega (arith, some))

-- the own leaves of pieces that have mappings
pub own_length : (pieces : List Piece) → AllByRecursion IsFilled pieces → length (flat_map own_leaves pieces) ≡ sum_by (λ n. nodes_for 252 n) (flat_map own_number pieces)
own_length [] filled = refl
own_length (own ms ∷ pieces) filled =
    omega (
      arith,
      length-append (own_leaves (own ms)) (flat_map own_leaves pieces),
      leaves_number ms filled.0,
      own_length pieces filled.1,
      sum_by-cons (λ n. nodes_for 252 n) (length ms) (flat_map own_number pieces),
    )
own_length (shared n ∷ pieces) filled = own_length pieces filled.1

-- a row has a device's own leaves, and those that it uses
pub row_length : (leaves : List (List Entry)) (place : ℕ) (pieces : List Piece)
    → length (pieces_row leaves place pieces) ≡ length (flat_map own_leaves pieces) + length (flat_map uses_of_piece pieces)
row_length leaves place [] = refl
row_length leaves place (own ms ∷ pieces) =
    let here = own_leaves (own ms) in
    omega (
      arith,
      length-append (heads place here) (pieces_row leaves (place + length here) pieces),
      length-heads place here,
      row_length leaves (place + length here) pieces,
      length-append here (flat_map own_leaves pieces),
    )
row_length leaves place (shared k ∷ pieces) = omega (arith, row_length leaves (place + 0) pieces)

-- the blocks of a device's tree, by the leaves of its row
tree_length : (leaves : List (List Entry)) (place : ℕ) (d : ShapeDevice)
    → length (device_tree leaves place d)
    ≡ length (flat_map own_leaves (some_pieces d.pieces))
    + need_above 10 (length (flat_map own_leaves (some_pieces d.pieces)) + length (flat_map uses_of_piece (some_pieces d.pieces)))
unfolding device_tree device_row
tree_length leaves place d =
    let mine = device_leaves d in
    let inners = device_inners leaves place d in
    omega (
      arith,
      length-append (blocks_from (leaf_block 8) place mine) (blocks_from inner_block (place + length mine) inners),
      length-blocks_from (leaf_block 8) place mine,
      length-blocks_from inner_block (place + length mine) inners,
      length-inners (place + length mine) (device_row leaves place d),
      ap (need_above 10) (row_length leaves place (some_pieces d.pieces)),
    )

-- a device without pieces has one leaf
empty_need : length (flat_map own_leaves (own [] ∷ [])) + need_above 10 (length (flat_map own_leaves (own [] ∷ [])) + 0) ≡ 1 + need_above 10 1
unfolding mapping_items
empty_need =
    let one : length (flat_map own_leaves (own [] ∷ [])) ≡ 1 = length-append (own_leaves (own [])) [] ∙ rw (length-leaves 8 (mapping_items [])) refl in
    rw one refl

-- a tree has as many blocks as it needs
pub tree_need : (leaves : List (List Entry)) (place : ℕ) (d : ShapeDevice) → AllByRecursion IsFilled d.pieces → length (device_tree leaves place d) ≡ need_of_leaves (leaves_of_pieces d.pieces)
tree_need leaves place d filled = tree_length leaves place d ∙ of_pieces d.pieces filled
  where
    of_pieces : (pieces : List Piece) → AllByRecursion IsFilled pieces
        → length (flat_map own_leaves (some_pieces pieces)) + need_above 10 (length (flat_map own_leaves (some_pieces pieces)) + length (flat_map uses_of_piece (some_pieces pieces)))
        ≡ need_of_leaves (leaves_of_pieces pieces)
    of_pieces [] filled = empty_need
    of_pieces (piece ∷ pieces) filled = rw (own_length (piece ∷ pieces) filled) refl

pieces_filled : (number : ℕ) (pieces : List Piece) → ArePieces number pieces → AllByRecursion IsFilled pieces
pieces_filled number [] are = tt
pieces_filled number (own ms ∷ []) are = (are, tt)
pieces_filled number (own ms ∷ own others ∷ pieces) are = absurd are
pieces_filled number (own ms ∷ shared k ∷ pieces) are = (are.0, (tt, pieces_filled number pieces are.1.1))
pieces_filled number (shared k ∷ pieces) are = (tt, pieces_filled number pieces are.1)

pub device_need : (leaves : List (List Entry)) (place number : ℕ) (d : ShapeDevice) → ArePieces number d.pieces
    → length (device_tree leaves place d) ≡ need_of_leaves (leaves_of_pieces d.pieces)
device_need leaves place number d are = tree_need leaves place d (pieces_filled number d.pieces are)

-- and of the trees of all devices
pub devices_need : (leaves : List (List Entry)) (place number : ℕ) (ds : List ShapeDevice) → AllByRecursion (λ (d : ShapeDevice). ArePieces number d.pieces) ds
    → length (device_trees leaves place ds) ≡ trees_need ds
unfolding device_trees
devices_need leaves place number [] are = refl
devices_need leaves place number (d ∷ ds) are =
    let here = device_tree leaves place d in
    let next = place + length here in
    let both = length-append here (device_trees leaves next ds) in
    let first = device_need leaves place number d are.0 in
    let rest = devices_need leaves next number ds are.1 in
    let sums = sum_by-cons need_of_leaves (leaves_of_pieces d.pieces) (map (λ (d : ShapeDevice). leaves_of_pieces d.pieces) ds) in
    both ∙ (ap₂ (λ (m n : ℕ). m + n) first rest ∙ sym sums)

-- a range in two parts, counted
pub range_both : (place m n b : ℕ) → count_in (range_with_len place (m + n)) b ≡ count_in (range_with_len place m) b + count_in (range_with_len (place + m) n) b
range_both place m n b =
    ap (λ (range : List ℕ). count_in range b) (range_split place m n) ∙ count-append (range_with_len place m) (range_with_len (place + m) n) b

-- a row names the places of a device's own leaves, and the shared leaves that it uses
pub row_names : (leaves : List (List Entry)) (place : ℕ) (pieces : List Piece) (b : ℕ)
    → count_in (values_of (pieces_row leaves place pieces)) b
    ≡ count_in (range_with_len place (length (flat_map own_leaves pieces))) b + count_in (behind_first (flat_map uses_of_piece pieces)) b
row_names leaves place [] b = refl
row_names leaves place (own ms ∷ pieces) b =
    let here = own_leaves (own ms) in
    let next = place + length here in
    let others = flat_map own_leaves pieces in
    let row = pieces_row leaves next pieces in
    let split = ap (λ (named : List ℕ). count_in named b) (map-append (λ (e : Entry). e.value) (heads place here) row)
    ∙ count-append (values_of (heads place here)) (values_of row) b in
    let first = ap (λ (named : List ℕ). count_in named b) (values-heads place here) in
    let rest = row_names leaves next pieces b in
    let places = ap (λ (n : ℕ). count_in (range_with_len place n) b) (length-append here others) ∙ range_both place (length here) (length others) b in
    omega (arith, split, first, rest, places)
row_names leaves place (shared k ∷ pieces) b =
    let same : place + 0 ≡ place = omega arith in
    let rest = row_names leaves (place + 0) pieces b in
    let from = ap (λ (p : ℕ). count_in (range_with_len p (length (flat_map own_leaves pieces))) b) same in
    let named = count-cons (1 + k) (values_of (pieces_row leaves (place + 0) pieces)) b in
    let used = count-cons (1 + k) (behind_first (flat_map uses_of_piece pieces)) b in
    omega (arith, rest, from, named, used)

-- a device has a leaf, and uses what its pieces do
row_some : (leaves : List (List Entry)) (place : ℕ) (pieces : List Piece) → 1 ≤ length (pieces_row leaves place (some_pieces pieces))
row_some leaves place [] =
    let number = row_length leaves place (own [] ∷ []) in
    let both = length-append (own_leaves (own [])) [] in
    let one = length-leaves 8 (mapping_items []) in
    omega (arith, number, both, one)
row_some leaves place (own ms ∷ pieces) =
    let number = row_length leaves place (own ms ∷ pieces) in
    let both = length-append (own_leaves (own ms)) (flat_map own_leaves pieces) in
    let one = length-leaves 8 (mapping_items ms) in
    omega (arith, number, both, one)
row_some leaves place (shared k ∷ pieces) = omega arith

pub some_uses : (pieces : List Piece) → flat_map uses_of_piece (some_pieces pieces) ≡ flat_map uses_of_piece pieces
some_uses [] = refl
some_uses (piece ∷ pieces) = refl

-- a row is no longer than the nodes above it tell
above_first : (k n : ℕ) → 1 < n → nodes_for 252 n ≤ need_above (suc k) n
unfolding need_above
above_first k n many = rw (lt-ltb 1 n many) (omega arith)

above_bound : (n : ℕ) → need_above 10 n ≤ 2 ^ 64 → n ≤ 252 ^ 10
above_bound n few = elim (cases_lt 1 n) [
  | inl many ↦ let first = above_first 9 n many in omega arith
  | inr one ↦ omega arith
]

module _ (t : Tree) (plain : (items : List Entry) → item_names t items ≡ []) (leaves : List (List Entry)) where
  -- what the blocks of a device name
  inners_only : (place : ℕ) (d : ShapeDevice) → named_by (laid_device t leaves place d) ≡ values_of (entries_of (device_inners leaves place d))
  unfolding laid_device
  inners_only place d =
      let mine = device_leaves d in
      let inners = device_inners leaves place d in
      named-append (map (laid_leaf 3 t) mine) (map (laid_inner 3) inners)
      ∙ ap₂ (λ (front rest : List ℕ). front ++ rest) (leaves_named 3 t mine ∙ plain (entries_of mine)) (inners_named 3 inners)

  device_length : (place : ℕ) (d : ShapeDevice) → length (laid_device t leaves place d) ≡ length (device_leaves d) + length (device_inners leaves place d)
  unfolding laid_device
  device_length place d =
      let mine = device_leaves d in
      let inners = device_inners leaves place d in
      let both = length-append (map (laid_leaf 3 t) mine) (map (laid_inner 3) inners) in
      let first = length-map mine (laid_leaf 3 t) in
      let last = length-map inners (laid_inner 3) in
      omega (arith, both, first, last)

  device_names : (place : ℕ) (d : ShapeDevice) (b : ℕ) → length (laid_device t leaves place d) ≤ 2 ^ 64
      → count_in (named_by (laid_device t leaves place d)) b + count_in (device_root leaves place d ∷ []) b
      ≡ count_in (range_with_len place (length (laid_device t leaves place d))) b + count_in (behind_first (uses_of d)) b
  unfolding device_root device_row root_above
  device_names place d b few =
      let pieces = some_pieces d.pieces in
      let mine = device_leaves d in
      let behind = place + length mine in
      let row = pieces_row leaves place pieces in
      let inners = inners_above behind row in
      let size = device_length place d in
      let above = length-inners behind row in
      let some = row_some leaves place d.pieces in
      let bound = above_bound (length row) (omega arith) in
      let root = root_above behind row in
      let with_root = row_named 10 behind row some bound in
      let named = ap (λ (names : List ℕ). count_in names b) (inners_only place d) in
      let joined = sym (count-append (values_of (entries_of inners)) (root ∷ []) b)
      ∙ (ap (λ (names : List ℕ). count_in names b) with_root
      ∙ count-append (values_of row) (range_with_len behind (length inners)) b) in
      let mine_named = row_names leaves place pieces b in
      let used = ap (λ (uses : List ℕ). count_in (behind_first uses) b) (some_uses d.pieces) in
      let places = ap (λ (n : ℕ). count_in (range_with_len place n) b) size ∙ range_both place (length mine) (length inners) b in
      omega (arith, named, joined, mine_named, used, places)

  -- and all devices, with the roots that the mapping tree names
  pub devices_names : (place : ℕ) (ds : List ShapeDevice) (b : ℕ) → length (laid_devices t leaves place ds) ≤ 2 ^ 64
      → count_in (named_by (laid_devices t leaves place ds)) b + count_in (values_of (top_items t leaves place ds)) b
      ≡ count_in (range_with_len place (length (laid_devices t leaves place ds))) b + count_in (behind_first (flat_map uses_of ds)) b
  unfolding laid_devices top_items named_by
  devices_names place [] b few = refl
  devices_names place (d ∷ ds) b few =
      let here = laid_device t leaves place d in
      let next = place + length here in
      let others = laid_devices t leaves next ds in
      let root = device_root leaves place d in
      let size = length-append here others in
      let both = ap (λ (named : List ℕ). count_in named b) (named-append here others) ∙ count-append (named_by here) (named_by others) b in
      let first = device_names place d b (omega arith) in
      let rest = devices_names next ds b (omega arith) in
      let top = count-cons root (values_of (top_items t leaves next ds)) b in
      let places = ap (λ (n : ℕ). count_in (range_with_len place n) b) size ∙ range_both place (length here) (length others) b in
      let used = ap (λ (uses : List ℕ). count_in uses b) (map-append (λ (k : ℕ). 1 + k) (uses_of d) (flat_map uses_of ds))
      ∙ count-append (behind_first (uses_of d)) (behind_first (flat_map uses_of ds)) b in
      omega (arith, both, first, rest, top, places, used)

-- pieces use leaves that there are
uses_below : (number : ℕ) (pieces : List Piece) → ArePieces number pieces → AllByRecursion (λ k. k < number) (flat_map uses_of_piece pieces)
uses_below number [] are = tt
uses_below number (own ms ∷ []) are = tt
uses_below number (own ms ∷ own others ∷ pieces) are = absurd are
uses_below number (own ms ∷ shared k ∷ pieces) are = (are.1.0, uses_below number pieces are.1.1)
uses_below number (shared k ∷ pieces) are = (are.0, uses_below number pieces are.1)

pub all_uses_below : (number : ℕ) (ds : List ShapeDevice) → AllByRecursion (λ (d : ShapeDevice). ArePieces number d.pieces) ds
    → AllByRecursion (λ k. k < number) (flat_map uses_of ds)
all_uses_below number [] are = tt
all_uses_below number (d ∷ ds) are =
    all_append (λ k. k < number) (uses_of d) (flat_map uses_of ds) (uses_below number d.pieces are.0) (all_uses_below number ds are.1)
