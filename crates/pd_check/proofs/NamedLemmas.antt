-- What the nodes of a tree, and an index block, name in another role.
use Rattle.std.proofs.Common.{◌≡◌, ℕ, zero, suc, Bool, true, false, cond, nat_eq, List, [], ◌∷◌, ◌++◌, map, refl, sym, ap, ◌∙◌, eq-eqb, append-nil, inl, inr, ◌*◌, ◌<◌, ◌≤◌, ◌&&◌, nat_lt, filter, subst, arith}
use Rattle.std.specs.List.{flat_map, range_with_len, sum_by, count_by, AllByRecursion}
use Rattle.std.proofs.lemmas.Bool.{ne_eqb, and_from, both_ways, cases_Bool, eqb-true, ltb-false}
use Rattle.std.proofs.lemmas.Grind.{flat_map-append}
use Rattle.std.proofs.lemmas.List.{map-id}
use Rattle.std.proofs.lemmas.List.Sums.{sum_by-cons, sum_by-le-sum_by}
use Rattle.pd_kinds.specs.declared.rule.Rule.{Rule}
use Rattle.pd_kinds.specs.Rule.{all_rules, same_rule}
use Rattle.pd_kinds.specs.Node.{Entry, entry_count, is_inner_node, child_at}
use Rattle.pd_kinds.specs.Bitmap.{index_blocks}
use Rattle.pd_kinds.specs.Graph.{Graph, block_at, pair, block_of, Edge, role_of, edges_of, is_reached, nodes, references, meta_count}
use Rattle.pd_kinds.specs.Layout.{Layout, Tree, tree, index, graph_of, is_bad, layout_bad, layout_edges, leaf_entries, node_entries_of, tree_edges}
use Rattle.pd_kinds.specs.Trees.{entries_below}
use Rattle.pd_kinds.proofs.KindsListLemmas.{none_passes, any-map, count_by-flat_map}
use Rattle.pd_kinds.specs.Stages.{IsReached}
use Rattle.pd_kinds.specs.Whole.{WholeTest, whole_bad, bitmap_tests}
use Rattle.pd_kinds.proofs.ListLemmas.{all_from, all_flat_map}
use Rattle.pd_kinds.proofs.PathLemmas.{passes_below}
use Rattle.pd_kinds.specs.declared.rule.Rule.TheVariants as r
use Rattle.pd_graph.proofs.AnyLemmas.{any_kept}
use Rattle.pd_graph.proofs.BitLemmas.{pair_block, pair_role}
use Rattle.pd_tree.specs.Below.{gather, nodes_below}
use Rattle.pd_tree.specs.Search.{node_kids, IsCleanPair, IsSoundTree, IsTreeRole, IsTreeTo}
use Rattle.pd_tree.proofs.TreeLemmas.{tree_at, block_pair, leaf_edges_at, agree}
use Rattle.pd_check.specs.Refs.{led_to, named_in, IsIndexRole, InRole, AreReachedOnce}
use Rattle.pd_check.proofs.NodeLemmas.{distinct_pairs, pairs_among, member_holds, once_by_counts, sum_of_some, sum_by-map, count_by-map-filter}

-- what is named node after node
named-flat_map : (f g : ℕ → List ℕ) (h : ℕ → List ℕ) (bs : List ℕ) → ((b : ℕ) → flat_map f (g b) ≡ h b) → flat_map f (flat_map g bs) ≡ flat_map h bs
named-flat_map f g h [] each = refl
named-flat_map f g h (b ∷ bs) each = flat_map-append f (g b) (flat_map g bs) ∙ (rw (each b, named-flat_map f g h bs each) refl)

named-gather : (f : ℕ → List ℕ) (down : ℕ → List ℕ) (j b : ℕ) → flat_map f (gather (λ c. c ∷ []) down j b) ≡ gather f down j b
unfolding gather
named-gather f down zero b = append-nil (f b)
named-gather f down (suc j) b =
    ap (λ (xs : List ℕ). f b ++ xs) (named-flat_map f (gather (λ c. c ∷ []) down j) (gather f down j) (down b) (named-gather f down j))

-- edges that all lead to blocks in the role, and edges that lead to other roles
led_all : {X : Type 0} → (role : ℕ) (f : X → ℕ) (xs : List X) → led_to role (map (λ (x : X). record { role = role; block = f x }) xs) ≡ map f xs
led_all role f [] = refl
led_all role f (x ∷ xs) = rw (eq-eqb role role refl) (ap (λ (ys : List ℕ). f x ∷ ys) (led_all role f xs))

led_entries : {X : Type 0} → (role : ℕ) (f : X → ℕ) (xs : List X) → led_to role (flat_map (λ (x : X). record { role = role; block = f x } ∷ []) xs) ≡ map f xs
led_entries role f [] = refl
led_entries role f (x ∷ xs) = rw (eq-eqb role role refl) (ap (λ (ys : List ℕ). f x ∷ ys) (led_entries role f xs))

led_none : {X : Type 0} → (role other : ℕ) (f : X → ℕ) (xs : List X) → nat_eq other role ≡ false → led_to role (map (λ (x : X). record { role = other; block = f x }) xs) ≡ []
led_none role other f [] differ = refl
led_none role other f (x ∷ xs) differ = rw differ (led_none role other f xs differ)

-- an inner node of a tree names no block in another role, whatever rule it breaks
inner_by : (roles nr data_blocks : ℕ) (layout : ℕ → Layout) (t : Tree) (role other b : ℕ) (block : List ℕ) (bad : Bool) → layout role ≡ tree t → is_inner_node block ≡ true → nat_eq role other ≡ false
    → led_to other (cond bad [] (layout_edges nr role (layout role) block)) ≡ []
unfolding tree_edges
inner_by roles nr data_blocks layout t role other b block true is inner differ = refl
inner_by roles nr data_blocks layout t role other b block false is inner differ = rw (is, inner) (led_none other role (child_at block) (range_with_len 0 (entry_count t.size block)) differ)

inner_names : (roles nr data_blocks : ℕ) (layout : ℕ → Layout) (t : Tree) (role other b : ℕ) (block : List ℕ) → layout role ≡ tree t → is_inner_node block ≡ true → nat_eq role other ≡ false
    → led_to other ((graph_of roles nr data_blocks layout).edges role b block) ≡ []
unfolding graph_of
inner_names roles nr data_blocks layout t role other b block is inner differ =
    inner_by roles nr data_blocks layout t role other b block (is_bad nr role (layout role) b block) is inner differ

inner_at : (graph : Graph) (role size other b : ℕ) (block : List ℕ) → IsTreeRole graph role size → is_inner_node block ≡ true → nat_eq role other ≡ false → led_to other (graph.edges role b block) ≡ []
inner_at graph role size other b block is inner differ =
    rw is.is (inner_names is.roles is.nr is.data_blocks is.layout is.nodes role other b block is.at inner differ)

module _ (graph : Graph) (image : List (List ℕ)) (role size next : ℕ) (named : ℕ → ℕ) (to : IsTreeTo graph role size next named) (differ : role ≡ next → ⊥) where
  -- a leaf names the blocks of its entries
  leaf_names : (b : ℕ) → is_inner_node (block_at image b) ≡ false → IsCleanPair graph image (pair b role)
      → map (λ (e : Entry). named e.value) (leaf_entries size (block_at image (block_of (pair b role)))) ≡ led_to next (graph.edges role b (block_at image b))
  unfolding leaf_entries
  leaf_names b leaf clean =
      rw (block_pair b role to.is_role.few, leaf)
      (sym (ap (led_to next) (leaf_edges_at graph image role size next named b to leaf clean) ∙ led_entries next (λ (e : Entry). named e.value) (node_entries_of size (block_at image b))))

  -- the nodes of a sound tree name the blocks of its entries
  pub tree_names : (b : ℕ) → IsSoundTree graph image (pair b role)
      → named_in graph image (record { role = role; blocks = nodes_below size image 63 b }) next ≡ map (λ (e : Entry). named e.value) (entries_below graph image size role b)
  unfolding named_in nodes_below entries_below
  tree_names b sound =
      named-gather (λ c. led_to next (graph.edges role c (block_at image c))) (node_kids size image) 63 b
      ∙ sym (agree graph image role size (tree_at graph image role size to.is_role) (λ (e : Entry). named e.value) (λ p. leaf_entries size (block_at image (block_of p)))
      (λ c. led_to next (graph.edges role c (block_at image c))) leaf_names
      (λ c inner. inner_at graph role size next c (block_at image c) to.is_role inner (ne_eqb role next differ)) 63 b sound.rules)

-- an index block that breaks no rule names its bitmaps
index_by : (roles nr data_blocks : ℕ) (layout : ℕ → Layout) (role bitmaps b : ℕ) (block : List ℕ) → layout role ≡ index bitmaps
    → ((rule : Rule) → (graph_of roles nr data_blocks layout).bad role b block rule ≡ false)
    → led_to bitmaps ((graph_of roles nr data_blocks layout).edges role b block) ≡ index_blocks nr block
unfolding graph_of is_bad
index_by roles nr data_blocks layout role bitmaps b block is clean =
    rw (none_passes (layout_bad nr role (layout role) b block) all_rules clean, is)
    (led_all bitmaps (λ (c : ℕ). c) (index_blocks nr block) ∙ map-id (index_blocks nr block))

pub index_names : (graph : Graph) (image : List (List ℕ)) (role bitmaps b : ℕ) → IsIndexRole graph role bitmaps → ((rule : Rule) → graph.bad role b (block_at image b) rule ≡ false)
    → named_in graph image (record { role = role; blocks = b ∷ [] }) bitmaps ≡ index_blocks graph.nr (block_at image b)
unfolding named_in graph_of
index_names graph image role bitmaps b is clean =
    append-nil (led_to bitmaps (graph.edges role b (block_at image b)))
    ∙ rw is.is (index_by is.roles is.nr is.data_blocks is.layout role bitmaps b (block_at image b) is.at (rw is.is at clean))

-- Where each bitmap has one reference, blocks that are reached once name each bitmap once.

-- what holds of each edge's block and role holds of the blocks in a role
led_by : (P : ℕ → ℕ → Type 0) (role : ℕ) (e : Edge) (some : List Edge) (same : Bool) → nat_eq e.role role ≡ same → P e.block e.role
    → AllByRecursion (λ b. P b role) (map (λ (edge : Edge). edge.block) some) → AllByRecursion (λ b. P b role) (map (λ (edge : Edge). edge.block) (cond same (e ∷ some) some))
led_by P role e some true is here rest = (subst (λ (q : ℕ). P e.block q) (eqb-true e.role role is) here, rest)
led_by P role e some false is here rest = rest

all_led : (P : ℕ → ℕ → Type 0) (role : ℕ) (edges : List Edge) → AllByRecursion (λ (e : Edge). P e.block e.role) edges → AllByRecursion (λ b. P b role) (led_to role edges)
all_led P role [] all = tt
all_led P role (e ∷ edges) all = led_by P role e (filter (λ (edge : Edge). nat_eq edge.role role) edges) (nat_eq e.role role) refl all.0 (all_led P role edges all.1)

module _ (graph : Graph) (image : List (List ℕ)) where
  -- how often a pair names a block
  times : ℕ → ℕ → ℕ
  times x p = count_by (λ b. nat_eq b x) (map (λ (edge : Edge). edge.block) (edges_of graph image p))

  -- all pairs together name it as often as there are references to it, or once less
  all_times : (x : ℕ) → sum_by (times x) (nodes graph image) ≤ meta_count graph image x
  unfolding times meta_count references
  all_times x =
      let all = count_by-flat_map (λ b. nat_eq b x) (λ p. map (λ (edge : Edge). edge.block) (edges_of graph image p)) (nodes graph image) in
      let more = sum_by-cons (λ b. cond (nat_eq b x) 1 0) 0 (flat_map (λ p. map (λ (edge : Edge). edge.block) (edges_of graph image p)) (nodes graph image)) in
      omega arith

  -- a pair is named by its block and its role
  times_at : (x b role : ℕ) → role < 16 → times x (pair b role) ≡ count_by (λ c. nat_eq c x) (map (λ (edge : Edge). edge.block) (graph.edges role b (block_at image b)))
  unfolding times
  times_at x b role few =
      ap (λ (q : ℕ). count_by (λ c. nat_eq c x) (map (λ (edge : Edge). edge.block) (graph.edges q (block_of (pair b role)) (block_at image (block_of (pair b role)))))) (pair_role b role few)
      ∙ ap (λ (c : ℕ). count_by (λ d. nat_eq d x) (map (λ (edge : Edge). edge.block) (graph.edges role c (block_at image c)))) (pair_block b role few)

  -- blocks that are reached once name a block no more often
  named_few : (part : InRole) (role x : ℕ) → part.role < 16 → AreReachedOnce graph image part → count_by (λ b. nat_eq b x) (named_in graph image part role) ≤ meta_count graph image x
  unfolding named_in
  named_few part role x few is =
      let test = λ (b : ℕ). nat_eq b x in
      let led = λ (b : ℕ). led_to role (graph.edges part.role b (block_at image b)) in
      let by_block = count_by-flat_map test led part.blocks in
      let less = sum_by-le-sum_by (λ b. count_by test (led b)) (λ b. times x (pair b part.role)) part.blocks
      (λ b. rw (times_at x b part.role few) (count_by-map-filter test (λ (edge : Edge). edge.block) (λ (edge : Edge). nat_eq edge.role role) (graph.edges part.role b (block_at image b)))) in
      let by_pair = sum_by-map (times x) (λ b. pair b part.role) part.blocks in
      let fewer = sum_of_some (times x) (map (λ b. pair b part.role) part.blocks) (nodes graph image) (distinct_pairs part.role part.blocks is.once)
      (pairs_among graph image part is) in
      let all = all_times x in
      omega arith

  -- a bitmap has one reference where it doesn't break the rule Index
  single : (is_bitmap : ℕ → Bool) (b role : ℕ) → IsReached graph image b role → is_bitmap role ≡ true → whole_bad (bitmap_tests graph image is_bitmap) b r.Index ≡ false → meta_count graph image b ≤ 1
  unfolding whole_bad bitmap_tests nodes
  single is_bitmap b role reached is none =
      let number = meta_count graph image in
      let test = λ (t : WholeTest). t.fails && (nat_eq t.block b && same_rule t.rule r.Index) in
      let of_pair : ℕ → WholeTest = λ (p : ℕ). record { block = block_of p; rule = r.Index; fails = nat_lt 1 (number (block_of p)) } in
      let pairs = range_with_len 0 (16 * graph.nr) in
      let chosen = filter (is_reached graph image) pairs in
      let few = reached.within in
      let within = reached.block in
      let block_is = pair_block b role few in
      elim (cases_Bool (nat_lt 1 (number b))) [
        | inl several ↦
            absurd (both_ways _ none
            (any-map test of_pair (filter (λ p. is_bitmap (role_of p)) chosen)
            ∙ (any_kept (λ p. test (of_pair p)) (λ p. is_bitmap (role_of p)) chosen
            ∙ (any_kept (λ p. is_bitmap (role_of p) && test (of_pair p)) (is_reached graph image) pairs
            ∙ passes_below (λ p. is_reached graph image p && (is_bitmap (role_of p) && test (of_pair p))) (16 * graph.nr) (pair b role) (omega arith)
            (and_from (is_reached graph image (pair b role)) _ reached.found
            (and_from (is_bitmap (role_of (pair b role))) _ (ap is_bitmap (pair_role b role few) ∙ is)
            (and_from (nat_lt 1 (number (block_of (pair b role)))) _ (ap (λ (c : ℕ). nat_lt 1 (number c)) block_is ∙ several)
            (and_from (nat_eq (block_of (pair b role)) b) (same_rule r.Index r.Index) (eq-eqb _ _ block_is) refl))))))))
        | inr one ↦ ltb-false 1 (number b) one
      ]

  -- so each is named once
  pub named_once : (is_bitmap : ℕ → Bool) (part : InRole) (role : ℕ) → part.role < 16 → is_bitmap role ≡ true
      → ((b : ℕ) → b < graph.nr → whole_bad (bitmap_tests graph image is_bitmap) b r.Index ≡ false)
      → ((b own : ℕ) → IsReached graph image b own → AllByRecursion (λ (e : Edge). IsReached graph image e.block e.role) (graph.edges own b (block_at image b)))
      → AreReachedOnce graph image part → AreReachedOnce graph image (record { role = role; blocks = named_in graph image part role })
  unfolding named_in
  named_once is_bitmap part role few bitmap none leads is =
      let all : AllByRecursion (λ b. IsReached graph image b role) (named_in graph image part role) =
      all_flat_map (λ b. led_to role (graph.edges part.role b (block_at image b))) (λ b. IsReached graph image b role) part.blocks
      (all_from (λ b. IsReached graph image b part.role) (λ b. AllByRecursion (λ c. IsReached graph image c role) (led_to role (graph.edges part.role b (block_at image b))))
      (λ b here. all_led (IsReached graph image) role (graph.edges part.role b (block_at image b)) (leads b part.role here)) part.blocks is.reached) in
      record {
        reached = all;
        once = once_by_counts (named_in graph image part role) (λ x among.
            let found = member_holds (λ b. IsReached graph image b role) x (named_in graph image part role) all among in
            let one = single is_bitmap x role found bitmap (none x found.block) in
            let most = named_few part role x few is in
            omega arith);
      }
