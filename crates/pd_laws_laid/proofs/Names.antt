-- The root of a laid tree, and the role of its blocks.
use Rattle.std.proofs.Common.{◌≡◌, ℕ, suc, ◌+◌, ◌<◌, ◌≤◌, true, nat_eq, List, [], ◌∷◌, ◌++◌, length, map, drop, refl, sym, subst, ◌∙◌, arith, inl, inr, ◌-◌, ap₂, ap}
use Rattle.std.specs.List.{AllByRecursion, list_any, flat_map, range_with_len}
use Rattle.std.proofs.lemmas.List.{get_or_at, length-append, append_assoc, length-map}
use Rattle.std.proofs.lemmas.Option.{unwrap_or-slice_get}
use Rattle.std.proofs.lemmas.Bool.{cases_lt, le-ltb, lt-ltb}
use Rattle.pd_kinds.specs.Graph.{Edge, block_at, edge_of}
use Rattle.pd_kinds.proofs.ListLemmas.{all_from, all_append, all_map}
use Rattle.pd_kinds.specs.Layout.{Tree, plain_tree}
use Rattle.pd_kinds.specs.Node.{Entry}
use Rattle.pd_kinds.specs.Bitmap.{bitmaps_for}
use Rattle.pd_kinds.proofs.NumberLemmas.{range_split}
use Rattle.pd_laid.specs.Laid.{blocks_from, LaidBlock, Laid, IsLaid, laid_number, laid_blocks, named_by, laid_inner, laid_leaf, laid_tree, first_place, inners_above, leaf_row, root_above, tree_inners, tree_leaves, tree_root, data_named_by, tree_of, laid_bitmap, laid_bitmaps, laid_index, laid_meta_map, meta_counts, meta_map_number, meta_overflow, meta_overflow_at, meta_overflow_blocks, meta_overflow_root}
use Rattle.pd_laid.proofs.LaidLemmas.{image_of_laid}
use Rattle.pd_laid.proofs.NodeFacts.{among_mapped, map-map}
use Rattle.pd_laid.proofs.NeedLemmas.{length-heads, length-bitmaps}
use Rattle.pd_laws_laid.specs.LaidOut.{AllFrom, role_at, IsNamed, IsInPlace, all_laid, LeadsBelow}
use Rattle.pd_laws_laid.proofs.ListLemmas.{any_front, any_back, by_place, from_follows, from_pairs}
use Rattle.pd_laws_laid.proofs.LaidLemmas.{roles_at}
pub use Rattle.pd_laws_laid.proofs.OnceTrees.{blocks_of, named-append, tree_named}
use Rattle.pd_laws_laid.proofs.Rows.{row_few}
use Rattle.pd_laws_laid.proofs.Trees.{heads_from, leaves_are}
use Rattle.pd_laws_laid.proofs.OnceTrees.{bitmaps_named}
use Rattle.pd_laws_laid.proofs.Index.{range_of}

-- What is laid stands in its place.

-- blocks that are written one after another stand behind a front
pub stand_behind : {X : Type 0} (write : ℕ → X → List ℕ) (front : List (List ℕ)) (place : ℕ) (xs : List X) (rest : List (List ℕ)) → length front ≡ place
    → AllFrom (λ q x. block_at (front ++ (blocks_from write place xs ++ rest)) q ≡ write q x) place xs
unfolding blocks_from
stand_behind write front place [] rest at = tt
stand_behind write front place (x ∷ xs) rest at =
    let block = write place x in
    let later = blocks_from write (place + 1) xs ++ rest in
    let size : length (front ++ block ∷ []) ≡ place + 1 = length-append front (block ∷ []) ∙ omega arith in
    let here = unwrap_or-slice_get (front ++ block ∷ later) place [] ∙ get_or_at front block later [] place at in
    (here, rw (append_assoc front (block ∷ []) later) at (stand_behind write (front ++ block ∷ []) (place + 1) xs rest size))

-- what holds of each element holds at each place
pub from_all : {X : Type 0} (P : X → Type 0) (place : ℕ) (xs : List X) → AllByRecursion P xs → AllFrom (λ q x. P x) place xs
from_all P place [] all = tt
from_all P place (x ∷ xs) all = (all.0, from_all P (place + 1) xs all.1)

-- each edge names its block
all_named : (blocks : List LaidBlock) → AllByRecursion (λ (x : LaidBlock). AllByRecursion (λ (e : Edge). IsNamed blocks e.block) x.edges) blocks
unfolding named_by
all_named [] = tt
all_named (x ∷ blocks) =
    let block = λ (e : Edge). e.block in
    let own = map block x.edges in (
      all_from (λ (e : Edge). list_any (λ r. nat_eq r e.block) own ≡ true) (λ (e : Edge). IsNamed (x ∷ blocks) e.block)
          (λ e here. any_front (λ r. nat_eq r e.block) own (named_by blocks) here) x.edges (among_mapped block x.edges),
      all_from (λ (y : LaidBlock). AllByRecursion (λ (e : Edge). IsNamed blocks e.block) y.edges)
          (λ (y : LaidBlock). AllByRecursion (λ (e : Edge). IsNamed (x ∷ blocks) e.block) y.edges)
          (λ y named. all_from (λ (e : Edge). IsNamed blocks e.block) (λ (e : Edge). IsNamed (x ∷ blocks) e.block)
          (λ e later. any_back (λ r. nat_eq r e.block) own (named_by blocks) later) y.edges named) blocks (all_named blocks),
    )

-- blocks that stand from block 0 on are in their places
pub all_in_place : (image : List (List ℕ)) (blocks : List LaidBlock) → AllFrom (λ q (x : LaidBlock). block_at image q ≡ x.written q) 0 blocks → AllFrom (IsInPlace image blocks) 0 blocks
all_in_place image blocks stand =
    from_follows (λ q (x : LaidBlock). (block_at image q ≡ x.written q) × ((role_at blocks q ≡ x.role) × AllByRecursion (λ (e : Edge). IsNamed blocks e.block) x.edges))
    (IsInPlace image blocks) 0 blocks (λ q low high x at. record { stands = at.0; role_is = at.1.0; names = at.1.1 })
    (from_pairs (λ q (x : LaidBlock). block_at image q ≡ x.written q) (λ q (x : LaidBlock). (role_at blocks q ≡ x.role) × AllByRecursion (λ (e : Edge). IsNamed blocks e.block) x.edges) 0 blocks stand
    (from_pairs (λ q (x : LaidBlock). role_at blocks q ≡ x.role) (λ q (x : LaidBlock). AllByRecursion (λ (e : Edge). IsNamed blocks e.block) x.edges) 0 blocks (roles_at blocks)
    (from_all (λ (x : LaidBlock). AllByRecursion (λ (e : Edge). IsNamed blocks e.block) x.edges) 0 blocks (all_named blocks))))

-- the blocks that are laid in an image, whatever the superblock names
pub laid_in_place : (laid : Laid) (edges : List Edge) (base image : List (List ℕ)) → IsLaid laid base image
    → AllFrom (IsInPlace image (all_laid laid edges)) 0 (all_laid laid edges)
unfolding laid_blocks blocks_from
laid_in_place laid edges base image is =
    let blocks = all_laid laid edges in
    all_in_place image blocks
    (subst (λ (held : List (List ℕ)). AllFrom (λ q (x : LaidBlock). block_at held q ≡ x.written q) 0 blocks) (sym (image_of_laid laid base image is))
    (stand_behind (λ at (x : LaidBlock). x.written at) [] 0 blocks (drop (laid_number laid) base) refl))

-- where all have one role, each of their places has it
pub role_of_places : (image : List (List ℕ)) (blocks : List LaidBlock) (role place : ℕ) (xs : List LaidBlock) → AllByRecursion (λ (x : LaidBlock). x.role ≡ role) xs
    → AllFrom (IsInPlace image blocks) place xs → (q : ℕ) → place ≤ q → q < place + length xs → role_at blocks q ≡ role
role_of_places image blocks role place xs roles stand q low high =
    by_place (λ q. role_at blocks q ≡ role) place xs
    (from_follows (λ q (x : LaidBlock). IsInPlace image blocks q x × (x.role ≡ role)) (λ q x. role_at blocks q ≡ role) place xs
    (λ q low high x is. is.0.role_is ∙ is.1)
    (from_pairs (IsInPlace image blocks) (λ q (x : LaidBlock). x.role ≡ role) place xs stand (from_all (λ (x : LaidBlock). x.role ≡ role) place xs roles))) q low high

-- what holds of the places of a list
pub from_places : {X : Type 0} → (P : ℕ → Type 0) (place : ℕ) (xs : List X) → ((i : ℕ) → i < length xs → P (place + i)) → AllFrom (λ q x. P q) place xs
from_places P place [] each = tt
from_places P place (x ∷ xs) each =
    let e : place + 0 ≡ place = omega arith in
    (rw e at (each 0 (omega arith)), from_places P (place + 1) xs (λ i within. let f : place + suc i ≡ place + 1 + i = omega arith in rw f at (each (suc i) (omega arith))))

-- what holds of what a row names, and of the inner nodes above it, holds of the root
pub root_has : (P : ℕ → Type 0) (place : ℕ) (row : List Entry) → 1 ≤ length row → AllByRecursion (λ (e : Entry). P e.value) row
    → ((q : ℕ) → place ≤ q → q < place + length (inners_above place row) → P q) → P (root_above place row)
unfolding root_above
root_has P place row some holds above = elim (cases_lt 1 (length row)) [
  | inl many ↦ rw (lt-ltb 1 (length row) many) (above (place + length (inners_above place row) - 1) (omega (arith, row_few 9 place row)) (omega (arith, row_few 9 place row)))
  | inr single ↦ rw (le-ltb 1 (length row) single) (first_has row some holds)
]
  where
    first_has : (row : List Entry) → 1 ≤ length row → AllByRecursion (λ (e : Entry). P e.value) row → P (first_place row)
    first_has [] some holds = absurd (omega arith)
    first_has (e ∷ row) some holds = holds.0

-- so a tree's root is one of its blocks
pub tree_root_inside : (role : ℕ) (t : Tree) (place : ℕ) (items : List Entry) → t.size ≤ 24
    → (place ≤ tree_root t.size place items) × (tree_root t.size place items < place + length (laid_tree role t place items))
unfolding laid_tree
tree_root_inside role t place items wide =
    let leaves = tree_leaves t.size items in
    let inners = tree_inners t.size place items in
    let row = leaf_row t.size place items in
    let end = place + (length leaves + length inners) in
    let is = λ (q : ℕ). (place ≤ q) × (q < end) in
    let are = leaves_are t.size items wide in
    let size = length-heads place leaves in
    let count : length (map (laid_leaf role t) leaves ++ map (laid_inner role) inners) ≡ length leaves + length inners =
    length-append (map (laid_leaf role t) leaves) (map (laid_inner role) inners) ∙ ap₂ (λ (a b : ℕ). a + b) (length-map leaves (laid_leaf role t)) (length-map inners (laid_inner role)) in
    rw count (root_has is (place + length leaves) row (rw size are.some) (heads_from is place leaves (places place leaves (omega arith) (omega arith)))
    (λ q low high. (omega arith, omega arith)))
  where
    places : (q : ℕ) (nodes : List (List Entry)) → place ≤ q → q + length nodes ≤ place + (length (tree_leaves t.size items) + length (tree_inners t.size place items))
        → AllFrom (λ q g. (place ≤ q) × (q < place + (length (tree_leaves t.size items) + length (tree_inners t.size place items)))) q nodes
    places q [] low high = tt
    places q (g ∷ nodes) low high = ((low, omega arith), places (q + 1) nodes (omega arith) (omega arith))

-- a laid tree has one role
pub tree_roles : (role : ℕ) (t : Tree) (place : ℕ) (items : List Entry) → AllByRecursion (λ (x : LaidBlock). x.role ≡ role) (laid_tree role t place items)
unfolding laid_tree
tree_roles role t place items =
    all_append (λ (x : LaidBlock). x.role ≡ role) (map (laid_leaf role t) (tree_leaves t.size items)) (map (laid_inner role) (tree_inners t.size place items))
    (all_map (laid_leaf role t) (λ (x : LaidBlock). x.role ≡ role) (λ g. refl) (tree_leaves t.size items))
    (all_map (laid_inner role) (λ (x : LaidBlock). x.role ≡ role) (λ g. refl) (tree_inners t.size place items))

-- so an edge to its root leads to a laid block
pub root_leads : (image : List (List ℕ)) (blocks : List LaidBlock) (limit role : ℕ) (t : Tree) (place : ℕ) (items : List Entry) → t.size ≤ 24 → 1 ≤ place
    → place + length (laid_tree role t place items) ≤ limit → AllFrom (IsInPlace image blocks) place (laid_tree role t place items)
    → LeadsBelow blocks limit (edge_of role (tree_root t.size place items))
root_leads image blocks limit role t place items wide from room stand =
    let inside = tree_root_inside role t place items wide in
    record {
      from_one = omega (arith, inside.0);
      below = omega (arith, inside.1);
      role_is = role_of_places image blocks role place (laid_tree role t place items) (tree_roles role t place items) stand (tree_root t.size place items) inside.0 inside.1;
    }

-- What a laid metadata map names: with its two roots, all of its blocks.

pub no_edges_of : (items : List Entry) → flat_map {X = Entry} {A = Edge} (λ e. []) items ≡ []
no_edges_of [] = refl
no_edges_of (e ∷ items) = no_edges_of items

pub named-bitmaps : (role : ℕ) (counts : ℕ → ℕ) (n : ℕ) → named_by (laid_bitmaps role counts n) ≡ []
unfolding laid_bitmaps
named-bitmaps role counts n = bitmaps_named role counts (range_with_len 0 (bitmaps_for n))

index_names : (role : ℕ) (counts : ℕ → ℕ) (n place : ℕ) (rest : List LaidBlock) → named_by (laid_index role counts n place ∷ rest) ≡ range_with_len place (bitmaps_for n) ++ named_by rest
unfolding named_by
index_names role counts n place rest =
    ap (λ (front : List ℕ). front ++ named_by rest)
    (map-map (λ (edge : Edge). edge.block) (λ (i : ℕ). edge_of (role + 1) (place + i)) (range_with_len 0 (bitmaps_for n))
    ∙ range_of (λ i. place + i) place (bitmaps_for n) (λ i within. refl))

pub length-meta_map : (role n place : ℕ) (named : List ℕ) → length (laid_meta_map role n place named) ≡ meta_map_number role n place named
unfolding laid_meta_map
length-meta_map role n place named =
    let counts = meta_counts role n place named in
    omega (arith, length-append (laid_bitmaps (role + 1) counts n) (meta_overflow_blocks role n place named), length-bitmaps (role + 1) counts n)

pub meta_names : (role n place : ℕ) (named : List ℕ) → meta_map_number role n place named ≤ 4161600
    → place ∷ (named_by (laid_meta_map role n place named) ++ (meta_overflow_root n place named ∷ [])) ≡ range_with_len place (meta_map_number role n place named)
unfolding laid_meta_map meta_overflow_blocks
meta_names role n place named few =
    let counts = meta_counts role n place named in
    let bitmaps = laid_bitmaps (role + 1) counts n in
    let over = laid_tree (role + 2) (tree_of (plain_tree 4)) (meta_overflow_at n place) (meta_overflow n named) in
    let root = meta_overflow_root n place named in
    let k = bitmaps_for n in
    let behind : (place + 1) + k ≡ meta_overflow_at n place = refl in
    let tree : named_by over ++ (root ∷ []) ≡ range_with_len (meta_overflow_at n place) (length over) =
    tree_named (role + 2) (tree_of (plain_tree 4)) (meta_overflow_at n place) (meta_overflow n named) (omega arith)
    ∙ ap (λ (edges : List Edge). map (λ (edge : Edge). edge.block) edges ++ range_with_len (meta_overflow_at n place) (length over)) (no_edges_of (meta_overflow n named)) in
    let whole : named_by (laid_index role counts n (place + 1) ∷ (bitmaps ++ over)) ≡ range_with_len (place + 1) k ++ named_by over =
    index_names role counts n (place + 1) (bitmaps ++ over)
    ∙ ap (λ (rest : List ℕ). range_with_len (place + 1) k ++ rest)
    (named-append bitmaps over ∙ ap (λ (front : List ℕ). front ++ named_by over) (named-bitmaps (role + 1) counts n)) in
    let number : 1 + k + length over ≡ suc (k + length over) = omega arith in
    rw number
    (ap (λ (rest : List ℕ). place ∷ rest)
    (ap (λ (front : List ℕ). front ++ (root ∷ [])) whole
    ∙ (append_assoc (range_with_len (place + 1) k) (named_by over) (root ∷ [])
    ∙ (ap (λ (rest : List ℕ). range_with_len (place + 1) k ++ rest) tree ∙ sym (range_split (place + 1) k (length over))))))

-- blocks that name no data block
pub no_data : (xs : List LaidBlock) → AllByRecursion (λ (x : LaidBlock). x.data_refs ≡ []) xs → data_named_by xs ≡ []
unfolding data_named_by
no_data [] all = refl
no_data (x ∷ xs) all = let none = all.0 in rw none (no_data xs all.1)

leaf_none : (t : Tree) (g : List Entry) → ((e : Entry) → t.leaf_data e ≡ []) → flat_map t.leaf_data g ≡ []
leaf_none t [] none = refl
leaf_none t (e ∷ g) none = let first = none e in rw first (leaf_none t g none)

pub tree_no_data : (role : ℕ) (t : Tree) (place : ℕ) (items : List Entry) → ((e : Entry) → t.leaf_data e ≡ []) → AllByRecursion (λ (x : LaidBlock). x.data_refs ≡ []) (laid_tree role t place items)
unfolding laid_tree
tree_no_data role t place items none =
    all_append (λ (x : LaidBlock). x.data_refs ≡ []) (map (laid_leaf role t) (tree_leaves t.size items)) (map (laid_inner role) (tree_inners t.size place items))
    (all_map (laid_leaf role t) (λ (x : LaidBlock). x.data_refs ≡ []) (λ g. leaf_none t g none) (tree_leaves t.size items))
    (all_map (laid_inner role) (λ (x : LaidBlock). x.data_refs ≡ []) (λ g. refl) (tree_inners t.size place items))

pub bitmaps_no_data : (role : ℕ) (counts : ℕ → ℕ) (n : ℕ) → AllByRecursion (λ (x : LaidBlock). x.data_refs ≡ []) (laid_bitmaps role counts n)
unfolding laid_bitmaps
bitmaps_no_data role counts n = all_map (laid_bitmap role counts) (λ (x : LaidBlock). x.data_refs ≡ []) (λ i. refl) (range_with_len 0 (bitmaps_for n))

pub meta_no_data : (role n place : ℕ) (named : List ℕ) → AllByRecursion (λ (x : LaidBlock). x.data_refs ≡ []) (laid_meta_map role n place named)
unfolding laid_meta_map meta_overflow_blocks
meta_no_data role n place named = (
  refl,
  all_append (λ (x : LaidBlock). x.data_refs ≡ []) (laid_bitmaps (role + 1) (meta_counts role n place named) n)
      (laid_tree (role + 2) (tree_of (plain_tree 4)) (meta_overflow_at n place) (meta_overflow n named))
      (bitmaps_no_data (role + 1) (meta_counts role n place named) n) (tree_no_data (role + 2) (tree_of (plain_tree 4)) (meta_overflow_at n place) (meta_overflow n named) (λ e. refl)),
)
