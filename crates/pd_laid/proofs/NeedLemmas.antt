-- How many blocks are laid.
use Rattle.std.proofs.Common.{◌≡◌, ℕ, zero, suc, ◌+◌, Bool, true, false, cond, max, nat_lt, List, [], ◌∷◌, ◌++◌, length, map, refl, sym, ◌∙◌, ap, arith}
use Rattle.std.proofs.lemmas.List.{length-append, length-map}
use Rattle.std.proofs.lemmas.List.FromFn.{length-map-range_with_len}
use Rattle.pd_kinds.specs.Layout.{Tree, tree_to, plain_tree}
use Rattle.pd_kinds.specs.EraFormat.{writesets_tree}
use Rattle.pd_kinds.specs.Meaning.{EraMeaning}
use Rattle.pd_kinds.specs.Node.{Entry, max_entries}
use Rattle.pd_kinds.specs.Array.{max_words}
use Rattle.pd_kinds.specs.Bitmap.{bitmaps_for}
use Rattle.pd_grammar.specs.Need.{nodes_for, need_above, need_tree, need_array, need_meta_map, nodes_of_tree}
use Rattle.pd_grammar.specs.EraText.{need_of_era}
use Rattle.pd_laid.specs.Laid.{heads, levels_above, inners_above, tree_blocks, tree_leaves, tree_inners, leaf_row, behind_leaves, even_parts, LaidBlock, laid_number, tree_of, laid_leaf, laid_inner, laid_tree, pieces, array_pieces, array_items, laid_words, laid_array, laid_bitmap, laid_bitmaps, meta_overflow, meta_overflow_at, meta_overflow_blocks, meta_counts, laid_meta_map}
use Rattle.pd_laid.specs.LaidEra.{era_blocks, writeset_blocks, writesets_at, era_parts, era_named, meta_map_at, meta_map_blocks, laid_era}
use Rattle.pd_laid.proofs.LaidLemmas.{length-blocks_from, tree_written, length-spread}

pub length-heads : (place : ℕ) (nodes : List (List Entry)) → length (heads place nodes) ≡ length nodes
unfolding heads
length-heads place [] = refl
length-heads place (node ∷ nodes) = ap suc (length-heads (place + 1) nodes)

-- the levels above a row
length-levels : (k place : ℕ) (row : List Entry) → length (levels_above k place row) ≡ need_above k (length row)
unfolding levels_above need_above
length-levels zero place row = refl
length-levels (suc k) place row =
    let level = even_parts (nodes_for 252 (length row)) row in
    let number = length-spread (nodes_for 252 (length row)) row in
    let rest = length-levels k (place + length level) (heads place level) in
    let row_number = length-heads place level in
    either (nat_lt 1 (length row)) level (levels_above k (place + length level) (heads place level))
    (nodes_for 252 (length row)) (need_above k (nodes_for 252 (length row))) number (rest ∙ ap (need_above k) (row_number ∙ number))
  where
    either : {X : Type 0} (some : Bool) (xs ys : List X) (m n : ℕ) → length xs ≡ m → length ys ≡ n → length (cond some (xs ++ ys) []) ≡ cond some (m + n) 0
    either true xs ys m n first last = let both = length-append xs ys in omega (arith, both, first, last)
    either false xs ys m n first last = refl

pub length-inners : (place : ℕ) (row : List Entry) → length (inners_above place row) ≡ need_above 10 (length row)
length-inners = length-levels 10

pub length-leaves : (size : ℕ) (items : List Entry) → length (tree_leaves size items) ≡ max 1 (nodes_for (max_entries size) (length items))
unfolding tree_leaves
length-leaves size items = length-spread (max 1 (nodes_for (max_entries size) (length items))) items

-- a tree
pub length-tree : (role : ℕ) (t : Tree) (place : ℕ) (items : List Entry) → length (laid_tree role t place items) ≡ need_tree t.size (length items)
unfolding laid_tree nodes_of_tree
length-tree role t place items =
    let leaves = tree_leaves t.size items in
    let inners = tree_inners t.size place items in
    let both = length-append (map (laid_leaf role t) leaves) (map (laid_inner role) inners) in
    let first = length-map leaves (laid_leaf role t) in
    let last = length-map inners (laid_inner role) in
    let number = length-leaves t.size items in
    let above = length-inners (behind_leaves t.size place items) (leaf_row t.size place items) in
    let row = length-heads place leaves in
    let levels = ap (need_above 10) (row ∙ number) in
    omega (arith, both, first, last, number, above, levels)

-- and as it is written
pub length-tree_blocks : (size place : ℕ) (items : List Entry) → length (tree_blocks size place items) ≡ need_tree size (length items)
length-tree_blocks size place items =
    let t = tree_of (plain_tree size) in
    ap (λ (blocks : List (List ℕ)). length blocks) (sym (tree_written 3 t place items))
    ∙ (length-blocks_from (λ at (b : LaidBlock). b.written at) place (laid_tree 3 t place items) ∙ length-tree 3 t place items)

-- an array
length-pieces : (most k : ℕ) (words : List ℕ) → length (pieces most k words) ≡ k
unfolding pieces
length-pieces most zero words = refl
length-pieces most (suc k) words = ap suc (length-pieces most k _)

pub length-items : (place k : ℕ) → length (array_items place k) ≡ k
unfolding array_items
length-items place k = length-map-range_with_len (λ (i : ℕ). record { key = i; value = place + i }) 0 k

pub length-array : (role size place : ℕ) (words : List ℕ) → length (laid_array role size place words) ≡ need_array size (length words)
unfolding laid_array need_array
length-array role size place words =
    let blocks = array_pieces size words in
    let t = tree_of (tree_to 8 (role + 1) (λ v. v)) in
    let above = laid_tree role t (place + length blocks) (array_items place (length blocks)) in
    let both = length-append (map (laid_words (role + 1) size) blocks) above in
    let first = length-map blocks (laid_words (role + 1) size) in
    let number = length-pieces (max_words size) (nodes_for (max_words size) (length words)) words in
    let last = length-tree role t (place + length blocks) (array_items place (length blocks)) in
    let items = ap (need_tree 8) (length-items place (length blocks) ∙ number) in
    omega (arith, both, first, number, last, items)

-- a metadata map
pub length-bitmaps : (role : ℕ) (counts : ℕ → ℕ) (n : ℕ) → length (laid_bitmaps role counts n) ≡ bitmaps_for n
unfolding laid_bitmaps
length-bitmaps role counts n = length-map-range_with_len (laid_bitmap role counts) 0 (bitmaps_for n)

pub length-map_blocks : (role n place : ℕ) (named : List ℕ) → meta_overflow n named ≡ [] → length (laid_meta_map role n place named) ≡ need_meta_map n
unfolding laid_meta_map meta_overflow_blocks
length-map_blocks role n place named none =
    let counts = meta_counts role n place named in
    let over = meta_overflow_blocks role n place named in
    let both = length-append (laid_bitmaps (role + 1) counts n) over in
    let first = length-bitmaps (role + 1) counts n in
    let last = length-tree (role + 2) (tree_of (plain_tree 4)) (meta_overflow_at n place) (meta_overflow n named) in
    let items = ap (λ (entries : List Entry). need_tree 4 (length entries)) none in
    omega (arith, both, first, last, items)

-- an era target
pub era_number : (m : EraMeaning) (n : ℕ) → meta_overflow n (era_named m) ≡ [] → laid_number (laid_era m n) ≡ need_of_era (length m.eras) n
unfolding laid_era era_parts era_blocks writeset_blocks meta_map_blocks need_of_era
era_number m n none =
    let whole = length-append (era_parts m) (meta_map_blocks m n) in
    let parts = length-append (era_blocks m) (writeset_blocks m) in
    let eras = length-array 5 4 1 m.eras in
    let writesets = length-tree 2 (tree_of writesets_tree) (writesets_at m) [] in
    let map_number = length-map_blocks 7 n (meta_map_at m) (era_named m) none in
    omega (arith, whole, parts, eras, writesets, map_number)
