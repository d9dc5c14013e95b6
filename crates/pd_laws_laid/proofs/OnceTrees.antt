-- How often numbers stand in lists.
-- What a laid tree names: with its root, what its items name, and each of its own blocks.
-- What the items of the parts' trees name, and what bitmaps do.
-- What a laid array names: with the root of its tree, each of its own blocks.
use Rattle.std.proofs.Common.{◌≡◌, inl, inr, ℕ, zero, suc, ◌+◌, ◌<◌, ◌≤◌, cond, nat_eq, nat_lt, List, [], ◌∷◌, ◌++◌, refl, sym, ◌∙◌, ap, zero-add, arith, ◌-◌, ◌^◌, max, length, map, ap₂, ◌%◌}
use Rattle.std.specs.List.{range_with_len, flat_map}
use Rattle.std.proofs.lemmas.Bool.{cases_eq, lt-ltb, le-ltb, eq-eqb, ne_eqb}
use Rattle.std.proofs.lemmas.List.Sums.{sum_by-append, sum_by-cons}
use Rattle.std.proofs.lemmas.List.{map-append, append_assoc, length-append, length-map}
use Rattle.std.proofs.lemmas.Grind.{flat_map-append}
use Rattle.pd_kinds.specs.Graph.{Edge, edge_of}
use Rattle.pd_kinds.specs.Layout.{Tree, tree_to}
use Rattle.pd_kinds.specs.Node.{Entry, max_entries}
use Rattle.pd_kinds.proofs.KindLemmas.{values_of}
use Rattle.pd_kinds.proofs.NumberLemmas.{range_split}
use Rattle.pd_kinds.specs.Bitmap.{bitmaps_for}
use Rattle.pd_kinds.specs.Field.{index_code}
use Rattle.pd_grammar.specs.Need.{nodes_for}
use Rattle.pd_laid.specs.Laid.{count_in, heads, tree_leaves, inners_above, root_above, tree_root, LaidBlock, named_by, laid_leaf, laid_inner, laid_tree, tree_of, index_items, index_entry_of, free_in, laid_bitmap, array_pieces, array_items, laid_words, laid_array, array_root}
use Rattle.pd_laid.proofs.NeedLemmas.{length-heads, length-leaves}
use Rattle.pd_laid.proofs.LaidLemmas.{joined_spread}
use Rattle.pd_laid.proofs.Rows.{entries_of, values-heads, row_named}
use Rattle.pd_laws_laid.specs.Once.{ones_below, NamesEachOnce}

pub count-append : (xs ys : List ℕ) (b : ℕ) → count_in (xs ++ ys) b ≡ count_in xs b + count_in ys b
count-append xs ys b = sum_by-append (λ x. cond (nat_eq x b) 1 0) xs ys

pub count-cons : (x : ℕ) (xs : List ℕ) (b : ℕ) → count_in (x ∷ xs) b ≡ count_in (x ∷ []) b + count_in xs b
count-cons x xs b = count-append (x ∷ []) xs b

-- the first element counted, and the others
counted_first : (a : ℕ) (xs : List ℕ) (b first rest : ℕ) → cond (nat_eq a b) 1 0 ≡ first → count_in xs b ≡ rest → count_in (a ∷ xs) b ≡ first + rest
counted_first a xs b first rest one others = sum_by-cons (λ x. cond (nat_eq x b) 1 0) a xs ∙ rw (one, others) refl

-- a range below its start, and at it or above
pub count_before : (a n b : ℕ) → b < a → count_in (range_with_len a n) b ≡ 0
count_before a zero b before = refl
count_before a (suc n) b before =
    counted_first a (range_with_len (a + 1) n) b 0 0 (rw (ne_eqb a b (omega arith)) refl) (count_before (a + 1) n b (omega arith))

-- a range has each of its numbers once
count_from : (a n b : ℕ) → a ≤ b → count_in (range_with_len a n) b ≡ cond (nat_lt b (a + n)) 1 0
count_from a zero b from = sym (rw (le-ltb b (a + 0) (omega arith)) refl)
count_from a (suc n) b from = elim (cases_eq a b) [
  | inl same ↦
      counted_first a (range_with_len (a + 1) n) b 1 0 (rw (eq-eqb a b same) refl) (count_before (a + 1) n b (omega arith))
      ∙ sym (rw (lt-ltb b (a + suc n) (omega arith)) refl)
  | inr other ↦
      let end : a + 1 + n ≡ a + suc n = omega arith in
      counted_first a (range_with_len (a + 1) n) b 0 (cond (nat_lt b (a + 1 + n)) 1 0) (rw (ne_eqb a b other) refl) (count_from (a + 1) n b (omega arith))
      ∙ (zero-add (cond (nat_lt b (a + 1 + n)) 1 0) ∙ ap (λ (last : ℕ). cond (nat_lt b last) 1 0) end)
]

pub count_range : (n b : ℕ) → count_in (range_with_len 0 n) b ≡ cond (nat_lt b n) 1 0
count_range n b = count_from 0 n b (omega arith) ∙ ap (λ (last : ℕ). cond (nat_lt b last) 1 0) (zero-add n)

-- the blocks that edges name
abbrev pub blocks_of : List Edge → List ℕ
blocks_of edges = map (λ (edge : Edge). edge.block) edges

-- the blocks that a tree's items name
abbrev pub item_names : Tree → List Entry → List ℕ
item_names t items = blocks_of (flat_map t.leaf_edges items)

pub named-append : (xs ys : List LaidBlock) → named_by (xs ++ ys) ≡ named_by xs ++ named_by ys
unfolding named_by
named-append xs ys = flat_map-append (λ (b : LaidBlock). blocks_of b.edges) xs ys

pub leaves_named : (role : ℕ) (t : Tree) (leaves : List (List Entry)) → named_by (map (laid_leaf role t) leaves) ≡ item_names t (entries_of leaves)
unfolding named_by
leaves_named role t [] = refl
leaves_named role t (leaf ∷ leaves) =
    let edges = flat_map-append t.leaf_edges leaf (entries_of leaves) in
    ap (λ (rest : List ℕ). item_names t leaf ++ rest) (leaves_named role t leaves)
    ∙ sym (ap blocks_of edges ∙ map-append (λ (edge : Edge). edge.block) (flat_map t.leaf_edges leaf) (flat_map t.leaf_edges (entries_of leaves)))

inner_named : (role : ℕ) (entries : List Entry) → blocks_of (map (λ (e : Entry). edge_of role e.value) entries) ≡ values_of entries
inner_named role [] = refl
inner_named role (e ∷ entries) = ap (λ (rest : List ℕ). e.value ∷ rest) (inner_named role entries)

pub inners_named : (role : ℕ) (inners : List (List Entry)) → named_by (map (laid_inner role) inners) ≡ values_of (entries_of inners)
unfolding named_by
inners_named role [] = refl
inners_named role (node ∷ inners) =
    ap₂ (λ (front rest : List ℕ). front ++ rest) (inner_named role node) (inners_named role inners)
    ∙ sym (map-append (λ (e : Entry). e.value) node (entries_of inners))

-- leaves that stand in a row from a place on, and the inner nodes above them
abbrev pub nodes_at : ℕ → Tree → ℕ → List (List Entry) → List LaidBlock
nodes_at role t place leaves =
    map (laid_leaf role t) leaves ++ map (laid_inner role) (inners_above (place + length leaves) (heads place leaves))

pub nodes_named : (role : ℕ) (t : Tree) (place : ℕ) (leaves : List (List Entry)) → 1 ≤ length leaves → length leaves ≤ 2 ^ 64
    → named_by (nodes_at role t place leaves) ++ (root_above (place + length leaves) (heads place leaves) ∷ [])
    ≡ item_names t (entries_of leaves) ++ range_with_len place (length (nodes_at role t place leaves))
unfolding root_above
nodes_named role t place leaves some few =
    let behind = place + length leaves in
    let row = heads place leaves in
    let inners = inners_above behind row in
    let root = root_above behind row in
    let own = item_names t (entries_of leaves) in
    let number = length-heads place leaves in
    let named = named-append (map (laid_leaf role t) leaves) (map (laid_inner role) inners)
    ∙ ap₂ (λ (front rest : List ℕ). front ++ rest) (leaves_named role t leaves) (inners_named role inners) in
    let above = row_named 10 behind row (omega arith) (omega arith) in
    let places = ap (λ (front : List ℕ). front ++ range_with_len behind (length inners)) (values-heads place leaves) ∙ sym (range_split place (length leaves) (length inners)) in
    let count : length leaves + length inners ≡ length (nodes_at role t place leaves) =
    sym (length-append (map (laid_leaf role t) leaves) (map (laid_inner role) inners)
    ∙ ap₂ (λ (m n : ℕ). m + n) (length-map leaves (laid_leaf role t)) (length-map inners (laid_inner role))) in
    ap (λ (front : List ℕ). front ++ (root ∷ [])) named
    ∙ (append_assoc own (values_of (entries_of inners)) (root ∷ [])
    ∙ ap (λ (back : List ℕ). own ++ back) (above ∙ (places ∙ ap (range_with_len place) count)))

-- a tree's leaves have its items
pub leaves_joined : (size : ℕ) (items : List Entry) → entries_of (tree_leaves size items) ≡ items
unfolding tree_leaves
leaves_joined size items =
    let leaves = max 1 (nodes_for (max_entries size) (length items)) in
    let number : suc (leaves - 1) ≡ leaves = omega arith in
    rw number at (joined_spread (leaves - 1) items)

pub tree_named : (role : ℕ) (t : Tree) (place : ℕ) (items : List Entry) → length (laid_tree role t place items) ≤ 2 ^ 64
    → named_by (laid_tree role t place items) ++ (tree_root t.size place items ∷ [])
    ≡ item_names t items ++ range_with_len place (length (laid_tree role t place items))
unfolding laid_tree
tree_named role t place items few =
    let leaves = tree_leaves t.size items in
    let number = length-leaves t.size items in
    let first = length-map leaves (laid_leaf role t) in
    let both = length-append (map (laid_leaf role t) leaves) (map (laid_inner role) (inners_above (place + length leaves) (heads place leaves))) in
    nodes_named role t place leaves (omega arith) (omega arith)
    ∙ ap (λ (own : List Entry). item_names t own ++ range_with_len place (length (nodes_at role t place leaves))) (leaves_joined t.size items)

-- the items of a plain tree name nothing
pub none_named : (items : List Entry) → blocks_of (flat_map {A = Edge} (λ (e : Entry). []) items) ≡ []
none_named [] = refl
none_named (e ∷ items) = none_named items

-- those of a tree to blocks name the blocks that their values are
pub each_named : (size role : ℕ) (items : List Entry) → item_names (tree_of (tree_to size role (λ v. v))) items ≡ values_of items
each_named size role [] = refl
each_named size role (e ∷ items) = ap (λ (rest : List ℕ). e.value ∷ rest) (each_named size role items)

-- those of an index name the bitmaps, one after another
pub code_block : (block free : ℕ) → block < 2 ^ 64 → index_code block free 0 % 2 ^ 64 ≡ block
code_block block free fits = omega arith

abbrev index_tree : ℕ → List Entry → List ℕ
index_tree role items = item_names (tree_of (tree_to 16 role (λ v. v % 2 ^ 64))) items

index_from : (role : ℕ) (counts : ℕ → ℕ) (n place from k : ℕ) → place + from + k ≤ 2 ^ 64
    → index_tree role (map (λ (i : ℕ). record { key = i; value = index_entry_of counts n place i }) (range_with_len from k)) ≡ range_with_len (place + from) k
index_from role counts n place from zero fits = refl
index_from role counts n place from (suc k) fits =
    let next : place + (from + 1) ≡ place + from + 1 = omega arith in
    let rest = index_from role counts n place (from + 1) k (omega arith) in
    ap₂ (λ (block : ℕ) (blocks : List ℕ). block ∷ blocks) (code_block (place + from) (free_in counts n from) (omega arith))
    (rw next at rest)

pub index_named : (role : ℕ) (counts : ℕ → ℕ) (n place : ℕ) → place + bitmaps_for n ≤ 2 ^ 64
    → index_tree role (index_items counts n place) ≡ range_with_len place (bitmaps_for n)
unfolding index_items
index_named role counts n place fits =
    let start : place + 0 ≡ place = omega arith in
    rw start at (index_from role counts n place 0 (bitmaps_for n) (omega arith))

-- bitmaps name nothing
pub bitmaps_named : (role : ℕ) (counts : ℕ → ℕ) (numbers : List ℕ) → named_by (map (laid_bitmap role counts) numbers) ≡ []
unfolding named_by
bitmaps_named role counts [] = refl
bitmaps_named role counts (i ∷ numbers) = bitmaps_named role counts numbers

-- the blocks of words name nothing
words_named : (role size : ℕ) (pieces : List (List ℕ)) → named_by (map (laid_words role size) pieces) ≡ []
unfolding named_by
words_named role size [] = refl
words_named role size (piece ∷ pieces) = words_named role size pieces

-- the items of its tree name these blocks
items_named : (place number : ℕ) → values_of (array_items place number) ≡ range_with_len place number
unfolding array_items
items_named place number =
    let start : place + 0 ≡ place = omega arith in
    rw start at (from 0 number)
  where
    from : (first k : ℕ) → values_of (map (λ (i : ℕ). record { key = i; value = place + i }) (range_with_len first k)) ≡ range_with_len (place + first) k
    from first zero = refl
    from first (suc k) =
        let next : place + (first + 1) ≡ place + first + 1 = omega arith in
        ap (λ (rest : List ℕ). (place + first) ∷ rest) (rw next at (from (first + 1) k))

pub array_named : (role size place : ℕ) (words : List ℕ) → length (laid_array role size place words) ≤ 2 ^ 64
    → named_by (laid_array role size place words) ++ (array_root size place words ∷ []) ≡ range_with_len place (length (laid_array role size place words))
unfolding laid_array array_root
array_named role size place words few =
    let pieces = array_pieces size words in
    let number = length pieces in
    let behind = place + number in
    let t = tree_of (tree_to 8 (role + 1) (λ v. v)) in
    let items = array_items place number in
    let tree = laid_tree role t behind items in
    let root = tree_root 8 behind items in
    let below = map (laid_words (role + 1) size) pieces in
    let both = length-append below tree in
    let first = length-map pieces (laid_words (role + 1) size) in
    let named : named_by (below ++ tree) ≡ named_by tree =
    named-append below tree ∙ ap (λ (front : List ℕ). front ++ named_by tree) (words_named (role + 1) size pieces) in
    let above = tree_named role t behind items (omega arith) in
    let own = each_named 8 (role + 1) items ∙ items_named place number in
    let size_is : length (below ++ tree) ≡ number + length tree = omega arith in
    ap (λ (front : List ℕ). front ++ (root ∷ [])) named
    ∙ (above ∙ (ap (λ (front : List ℕ). front ++ range_with_len behind (length tree)) own
    ∙ (sym (range_split place number (length tree)) ∙ ap (range_with_len place) (sym size_is))))

-- what a part names, with its root
pub both_of : (blocks : List LaidBlock) (root : ℕ) (places : List ℕ) (b : ℕ) → named_by blocks ++ (root ∷ []) ≡ places
    → count_in (named_by blocks) b + count_in (root ∷ []) b ≡ count_in places b
both_of blocks root places b named = sym (count-append (named_by blocks) (root ∷ []) b) ∙ ap (λ (all : List ℕ). count_in all b) named

-- the places up to another one, and those of a part behind it
pub places_more : (place n b : ℕ) → count_in (range_with_len 0 (place + n)) b ≡ count_in (range_with_len 0 place) b + count_in (range_with_len place n) b
places_more place n b =
    ap (λ (all : List ℕ). count_in all b) (range_split 0 place n ∙ ap (λ (from : ℕ). range_with_len 0 place ++ range_with_len from n) (zero-add place))
    ∙ count-append (range_with_len 0 place) (range_with_len place n) b

pub parts_more : (xs ys : List LaidBlock) (b : ℕ) → count_in (named_by (xs ++ ys)) b ≡ count_in (named_by xs) b + count_in (named_by ys) b
parts_more xs ys b = ap (λ (all : List ℕ). count_in all b) (named-append xs ys) ∙ count-append (named_by xs) (named_by ys) b

pub as_ones : (place : ℕ) (named : List ℕ) → ((b : ℕ) → count_in named b ≡ count_in (range_with_len 0 place) b) → NamesEachOnce place named
unfolding ones_below
as_ones place named same b = same b ∙ count_range place b
