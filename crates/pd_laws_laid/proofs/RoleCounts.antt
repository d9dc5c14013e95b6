-- How often laid blocks name a block by edges of one role: no other edges lead to a block of that role.
use Rattle.std.proofs.Common.{◌≡◌, inl, inr, ℕ, ◌+◌, ◌≤◌, ◌≢◌, false, ◌&&◌, nat_eq, eq-eqb, cond, List, [], ◌∷◌, ◌++◌, map, refl, sym, ◌∙◌, ap, arith}
use Rattle.std.specs.List.{AllByRecursion, count_by, flat_map, range_with_len}
use Rattle.std.proofs.lemmas.Bool.{and_left, and_right, cases_eq, ne_eqb}
use Rattle.std.proofs.lemmas.List.Folds.{flat_map-map}
use Rattle.std.proofs.lemmas.List.Sums.{sum_by-cons}
use Rattle.std.proofs.lemmas.Grind.{flat_map-append}
use Rattle.pd_kinds.specs.Bitmap.{bitmaps_for}
use Rattle.pd_kinds.specs.Graph.{Edge, edge_of, Graph}
use Rattle.pd_kinds.specs.Layout.{Tree, plain_tree}
use Rattle.pd_kinds.specs.Node.{Entry}
use Rattle.pd_kinds.proofs.ListLemmas.{all_append, all_flat_map, all_map, all_of}
use Rattle.pd_laid.specs.Laid.{LaidBlock, count_in, laid_inner, laid_leaf, laid_tree, named_by, tree_of, laid_bitmap, laid_bitmaps, laid_index, laid_meta_map, meta_counts, meta_overflow, meta_overflow_at, meta_overflow_blocks, tree_inners, tree_leaves}
use Rattle.pd_laid.proofs.NodeFacts.{map-map}
use Rattle.pd_laws_laid.specs.LaidOut.{AllFrom, IsFitting, LeadsBelow, role_at}
use Rattle.pd_laws_laid.proofs.ListLemmas.{count_append, map_flat}
use Rattle.pd_laws_laid.proofs.Rows.{flat_joined}
use Rattle.pd_laws_laid.proofs.Trees.{leaves_are}
use Rattle.pd_laws_laid.proofs.Index.{range_of}
use Rattle.pd_laws_laid.proofs.MetaMap.{once_at_most}

-- the edges of blocks, and how many of them lead to a block in a role
abbrev pub edges_in : List LaidBlock → List Edge
edges_in xs = flat_map (λ (x : LaidBlock). x.edges) xs

abbrev pub role_count : ℕ → ℕ → List Edge → ℕ
role_count role b edges = count_by (λ (e : Edge). nat_eq e.role role && nat_eq e.block b) edges

-- no block names another one in the role
abbrev pub NameNone : ℕ → List LaidBlock → Type 0
NameNone role xs = AllByRecursion (λ (x : LaidBlock). AllByRecursion (λ (e : Edge). nat_eq e.role role ≡ false) x.edges) xs

pub no_edges : (role b : ℕ) (edges : List Edge) → AllByRecursion (λ (e : Edge). nat_eq e.role role ≡ false) edges → role_count role b edges ≡ 0
no_edges role b [] all = refl
no_edges role b (e ∷ edges) all =
    let split = sum_by-cons (λ (e : Edge). cond (nat_eq e.role role && nat_eq e.block b) 1 0) e edges in
    let none = and_left (nat_eq e.role role) (nat_eq e.block b) all.0 in
    split ∙ rw none (omega (arith, no_edges role b edges all.1))

pub none_count : (role b : ℕ) (xs : List LaidBlock) → NameNone role xs → role_count role b (edges_in xs) ≡ 0
none_count role b xs all = no_edges role b (edges_in xs) (all_flat_map (λ (x : LaidBlock). x.edges) (λ (e : Edge). nat_eq e.role role ≡ false) xs all)

pub both_count : (role b : ℕ) (xs ys : List LaidBlock) → role_count role b (edges_in (xs ++ ys)) ≡ role_count role b (edges_in xs) + role_count role b (edges_in ys)
both_count role b xs ys =
    ap (role_count role b) (flat_map-append (λ (x : LaidBlock). x.edges) xs ys)
    ∙ count_append (λ (e : Edge). nat_eq e.role role && nat_eq e.block b) (edges_in xs) (edges_in ys)

-- the blocks that edges name, where each leads to a block of its role
pub named_count : (blocks : List LaidBlock) (limit role b : ℕ) (edges : List Edge) → role_at blocks b ≡ role → AllByRecursion (LeadsBelow blocks limit) edges
    → count_in (map (λ (e : Edge). e.block) edges) b ≡ role_count role b edges
named_count blocks limit role b [] is leads = refl
named_count blocks limit role b (e ∷ edges) is leads =
    let block = λ (e : Edge). e.block in
    let left = sum_by-cons (λ r. cond (nat_eq r b) 1 0) e.block (map block edges) in
    let right = sum_by-cons (λ (e : Edge). cond (nat_eq e.role role && nat_eq e.block b) 1 0) e edges in
    let rest = named_count blocks limit role b edges is leads.1 in
    elim (cases_eq e.block b) [
      | inl same ↦
          let own : e.role ≡ role = sym leads.0.role_is ∙ (ap (role_at blocks) same ∙ is) in
          rw (left, right, eq-eqb e.role role own, eq-eqb e.block b same, rest) refl
      | inr other ↦
          let none = and_right (nat_eq e.role role) (nat_eq e.block b) (ne_eqb e.block b other) in
          rw (left, right, none, ne_eqb e.block b other, rest) refl
    ]

pub blocks_count : (blocks : List LaidBlock) (limit role b : ℕ) (xs : List LaidBlock) → role_at blocks b ≡ role
    → AllByRecursion (λ (x : LaidBlock). AllByRecursion (LeadsBelow blocks limit) x.edges) xs → count_in (named_by xs) b ≡ role_count role b (edges_in xs)
unfolding named_by
blocks_count blocks limit role b xs is leads =
    ap (λ (named : List ℕ). count_in named b) (sym (map_flat (λ (e : Edge). e.block) (λ (x : LaidBlock). x.edges) xs))
    ∙ named_count blocks limit role b (edges_in xs) is (all_flat_map (λ (x : LaidBlock). x.edges) (LeadsBelow blocks limit) xs leads)

-- fitting blocks lead to laid ones
pub fitting_lead : (graph : Graph) (image : List (List ℕ)) (blocks : List LaidBlock) (limit place : ℕ) (xs : List LaidBlock) → AllFrom (IsFitting graph image blocks limit) place xs
    → AllByRecursion (λ (x : LaidBlock). AllByRecursion (LeadsBelow blocks limit) x.edges) xs
fitting_lead graph image blocks limit place [] all = tt
fitting_lead graph image blocks limit place (x ∷ xs) all = (all.0.leads, fitting_lead graph image blocks limit (place + 1) xs all.1)

-- inner nodes of another role, and leaves that name none in the role
pub inners_name_none : (role other : ℕ) (inners : List (List Entry)) → other ≢ role → NameNone role (map (laid_inner other) inners)
inners_name_none role other inners differ =
    all_map (laid_inner other) (λ (x : LaidBlock). AllByRecursion (λ (e : Edge). nat_eq e.role role ≡ false) x.edges)
    (λ g. all_map (λ (e : Entry). edge_of other e.value) (λ (e : Edge). nat_eq e.role role ≡ false) (λ e. ne_eqb other role differ) g) inners

pub leaves_name_none : (role other : ℕ) (t : Tree) (leaves : List (List Entry)) → ((e : Entry) → AllByRecursion (λ (edge : Edge). nat_eq edge.role role ≡ false) (t.leaf_edges e))
    → NameNone role (map (laid_leaf other t) leaves)
leaves_name_none role other t leaves none =
    all_map (laid_leaf other t) (λ (x : LaidBlock). AllByRecursion (λ (e : Edge). nat_eq e.role role ≡ false) x.edges)
    (λ g. all_flat_map t.leaf_edges (λ (e : Edge). nat_eq e.role role ≡ false) g (all_of (λ (e : Entry). AllByRecursion (λ (edge : Edge). nat_eq edge.role role ≡ false) (t.leaf_edges e)) none g)) leaves

pub tree_names_none : (role other : ℕ) (t : Tree) (place : ℕ) (items : List Entry) → other ≢ role
    → ((e : Entry) → AllByRecursion (λ (edge : Edge). nat_eq edge.role role ≡ false) (t.leaf_edges e)) → NameNone role (laid_tree other t place items)
unfolding laid_tree
tree_names_none role other t place items differ none =
    all_append (λ (x : LaidBlock). AllByRecursion (λ (e : Edge). nat_eq e.role role ≡ false) x.edges) (map (laid_leaf other t) (tree_leaves t.size items)) (map (laid_inner other) (tree_inners t.size place items))
    (leaves_name_none role other t (tree_leaves t.size items) none) (inners_name_none role other (tree_inners t.size place items) differ)

-- a tree of another role names in the role what its items do
pub tree_count : (role other b : ℕ) (t : Tree) (place : ℕ) (items : List Entry) → t.size ≤ 24 → other ≢ role
    → role_count role b (edges_in (laid_tree other t place items)) ≡ role_count role b (flat_map t.leaf_edges items)
unfolding laid_tree
tree_count role other b t place items wide differ =
    let leaves = tree_leaves t.size items in
    let inners = tree_inners t.size place items in
    let front : edges_in (map (laid_leaf other t) leaves) ≡ flat_map t.leaf_edges items =
    flat_map-map (λ (x : LaidBlock). x.edges) (laid_leaf other t) leaves
    ∙ (sym (flat_joined t.leaf_edges leaves) ∙ ap (flat_map t.leaf_edges) (leaves_are t.size items wide).joined_is) in
    let first = ap (role_count role b) front in
    let none = none_count role b (map (laid_inner other) inners) (inners_name_none role other inners differ) in
    both_count role b (map (laid_leaf other t) leaves) (map (laid_inner other) inners) ∙ omega arith

-- edges of a range lead to each block once at most
pub range_count : (role b place n : ℕ) → role_count role b (map (edge_of role) (range_with_len place n)) ≤ 1
range_count role b place n = rw (same (range_with_len place n)) (once_at_most place n b)
  where
    same : (xs : List ℕ) → role_count role b (map (edge_of role) xs) ≡ count_in xs b
    same [] = refl
    same (x ∷ xs) =
        let left = sum_by-cons (λ (e : Edge). cond (nat_eq e.role role && nat_eq e.block b) 1 0) (edge_of role x) (map (edge_of role) xs) in
        let right = sum_by-cons (λ r. cond (nat_eq r b) 1 0) x xs in
        rw (left, right, eq-eqb role role refl, same xs) refl

-- bitmaps name nothing
pub bitmaps_count : (role own b : ℕ) (counts : ℕ → ℕ) (n : ℕ) → role_count role b (edges_in (laid_bitmaps own counts n)) ≡ 0
unfolding laid_bitmaps
bitmaps_count role own b counts n = none (range_with_len 0 (bitmaps_for n))
  where
    none : (xs : List ℕ) → role_count role b (edges_in (map (laid_bitmap own counts) xs)) ≡ 0
    none [] = refl
    none (x ∷ xs) = none xs

module _ (role n place : ℕ) (named : List ℕ) where
  abbrev counts : ℕ → ℕ
  counts = meta_counts role n place named

  abbrev bitmaps : List LaidBlock
  bitmaps = laid_bitmaps (role + 1) (meta_counts role n place named) n

  -- the overflow tree of a metadata map names no block in another role
  overflow_count : (other b : ℕ) → role + 2 ≢ other → role_count other b (edges_in (meta_overflow_blocks role n place named)) ≡ 0
  unfolding meta_overflow_blocks
  overflow_count other b differ =
      none_count other b (meta_overflow_blocks role n place named)
      (tree_names_none other (role + 2) (tree_of (plain_tree 4)) (meta_overflow_at n place) (meta_overflow n named) differ (λ e. tt))

  map_split : (other b : ℕ) → role + 2 ≢ other
      → role_count other b (edges_in (laid_meta_map role n place named)) ≡ role_count other b (map (λ (i : ℕ). edge_of (role + 1) (place + 1 + i)) (range_with_len 0 (bitmaps_for n)))
  unfolding laid_meta_map
  map_split other b differ =
      let over = meta_overflow_blocks role n place named in
      let index = laid_index role counts n (place + 1) in
      let first = count_append (λ (e : Edge). nat_eq e.role other && nat_eq e.block b) index.edges (edges_in (bitmaps ++ over)) in
      let split = both_count other b bitmaps over in
      let c1 = bitmaps_count other (role + 1) b counts n in
      let c2 = overflow_count other b differ in
      omega arith

  -- a metadata map names each of its bitmaps once, and no block in a role that isn't one of its own
  pub meta_map_once : (b : ℕ) → role_count (role + 1) b (edges_in (laid_meta_map role n place named)) ≤ 1
  meta_map_once b =
      let at = place + 1 in
      let edges : map (λ (i : ℕ). edge_of (role + 1) (at + i)) (range_with_len 0 (bitmaps_for n)) ≡ map (edge_of (role + 1)) (range_with_len at (bitmaps_for n)) =
      sym (map-map (edge_of (role + 1)) (λ (i : ℕ). at + i) (range_with_len 0 (bitmaps_for n))) ∙ ap (map (edge_of (role + 1))) (range_of (λ i. at + i) at (bitmaps_for n) (λ i within. refl)) in
      rw (map_split (role + 1) b (λ e. omega arith), edges) (range_count (role + 1) b at (bitmaps_for n))

  pub meta_map_none : (other b : ℕ) → role + 1 ≢ other → role + 2 ≢ other → role_count other b (edges_in (laid_meta_map role n place named)) ≡ 0
  meta_map_none other b first second =
      map_split other b second
      ∙ no_edges other b (map (λ (i : ℕ). edge_of (role + 1) (place + 1 + i)) (range_with_len 0 (bitmaps_for n)))
      (all_map (λ (i : ℕ). edge_of (role + 1) (place + 1 + i)) (λ (e : Edge). nat_eq e.role other ≡ false) (λ i. ne_eqb (role + 1) other first) (range_with_len 0 (bitmaps_for n)))
