-- In a tree without a bad rule the keys below a node are those of the entries below it.
use Rattle.std.proofs.Common.{◌≡◌, ℕ, zero, suc, ◌<◌, Bool, true, false, ◌&&◌, not, cond, List, [], ◌∷◌, ◌++◌, length, map, refl, sym, ◌∙◌, ap, arith, ◌||◌, subst}
use Rattle.std.specs.List.{flat_map, AllByRecursion, range_with_len}
use Rattle.std.proofs.lemmas.Bool.{both_ways, and_from, and_parts}
use Rattle.std.proofs.lemmas.List.{length-map, map-append}
use Rattle.pd_kinds.specs.declared.rule.Rule.{Rule}
use Rattle.pd_kinds.specs.Rule.{all_rules, same_rule}
use Rattle.pd_kinds.specs.Node.{Entry, is_inner_node, entry_count, key_at, value_at, node_keys}
use Rattle.pd_kinds.specs.Layout.{Layout, Tree, tree, layout_bad, is_bad, is_tree_layout, layout_keys, leaf_entries, node_entries_of, graph_of}
use Rattle.pd_kinds.specs.Graph.{Graph, block_at, pair, block_of, role_of, own_keys, is_inner_pair, is_reached, children, gathered, keys_below, has_chain, is_deep, is_in_range}
use Rattle.pd_kinds.specs.Lawful.{IsLawful}
use Rattle.pd_kinds.specs.Stages.{walk_bad, order_bad, is_out_of_range}
use Rattle.pd_kinds.specs.Trees.{entries_below, keys_of}
use Rattle.pd_kinds.proofs.KindLemmas.{none_broken}
use Rattle.pd_kinds.specs.declared.rule.Rule.TheVariants as r
use Rattle.pd_graph.specs.declared.audit.Audit.{Audit}
use Rattle.pd_graph.specs.Format.{IsSound}
use Rattle.pd_graph.specs.Audit.{note_at}
use Rattle.pd_graph.proofs.BitLemmas.{pair_block, pair_role}
use Rattle.pd_settle.specs.Settled.{is_node, IsSettled, IsClean}
use Rattle.pd_settle.proofs.ChainLemmas.{is_among, all_among}
use Rattle.pd_settle.proofs.NodeLemmas.{reached_within, child_of, child_role, any_child_node, clean_by, order_bad_at}
use Rattle.pd_settle.specs.Notes.{capped}
use Rattle.pd_settle.proofs.FineLemmas.{AreFine, exact_of}

flat_map_by : {X Y : Type 0} → (f : X → Y) (g : ℕ → List X) (h : ℕ → List Y) (ps : List ℕ) → AllByRecursion (λ p. h p ≡ map f (g p)) ps
    → flat_map h ps ≡ map f (flat_map g ps)
flat_map_by f g h [] each = refl
flat_map_by f g h (p ∷ ps) each =
    ap (λ ys. ys ++ flat_map h ps) each.0 ∙ (ap (λ ys. map f (g p) ++ ys) (flat_map_by f g h ps each.1) ∙ sym (map-append f (g p) (flat_map g ps)))

-- either list becomes the other
cond_map : {X Y : Type 0} → (f : X → Y) (b : Bool) (xs ys : List X) (us vs : List Y) → (b ≡ true → us ≡ map f xs) → (b ≡ false → vs ≡ map f ys)
    → cond b us vs ≡ map f (cond b xs ys)
cond_map f true xs ys us vs first second = first refl
cond_map f false xs ys us vs first second = second refl

-- where each leaf that is met has the keys of its entries, so has each node
pub gathered_map : {X Y : Type 0} → (f : X → Y) (inner : ℕ → Bool) (down : ℕ → List ℕ) (own : ℕ → List X) (own' : ℕ → List Y) (S : ℕ → Type 0)
    → ((p q : ℕ) → S p → is_among q (down p) ≡ true → S q) → ((p : ℕ) → S p → inner p ≡ false → own' p ≡ map f (own p))
    → (j p : ℕ) → S p → gathered inner down own' j p ≡ map f (gathered inner down own j p)
unfolding gathered
gathered_map f inner down own own' S closed same zero p met =
    cond_map f (inner p) [] (own p) [] (own' p) (λ e. refl) (same p met)
gathered_map f inner down own own' S closed same (suc j) p met =
    cond_map f (inner p) (flat_map (gathered inner down own j) (down p)) (own p) (flat_map (gathered inner down own' j) (down p)) (own' p)
    (λ e. flat_map_by f (gathered inner down own j) (gathered inner down own' j) (down p)
    (all_among (λ q. gathered inner down own' j q ≡ map f (gathered inner down own j q)) (down p)
    (λ q among. gathered_map f inner down own own' S closed same j q (closed p q met among))))
    (same p met)

leaf_by : (is_tree bad inner : Bool) → is_tree ≡ true → bad ≡ false → (is_tree && (not bad && inner)) ≡ false → inner ≡ false
leaf_by true false inner e f leaf = leaf
leaf_by true true inner e f leaf = absurd (both_ways true f refl)
leaf_by false bad inner e f leaf = absurd (both_ways false refl e)

keys_of_range : (size : ℕ) (block : List ℕ) (is : List ℕ)
    → map (key_at block) is ≡ map (λ (e : Entry). e.key) (map (λ i. record { key = key_at block i; value = value_at size block i }) is)
keys_of_range size block [] = refl
keys_of_range size block (i ∷ is) = ap (λ (ks : List ℕ). key_at block i ∷ ks) (keys_of_range size block is)

-- the keys of a sound leaf are those of its entries
pub leaf_keys : (roles nr data_blocks : ℕ) (layout : ℕ → Layout) (t : Tree) (role place : ℕ) (block : List ℕ) → layout role ≡ tree t
    → IsSound (graph_of roles nr data_blocks layout) role place block → (graph_of roles nr data_blocks layout).is_inner role place block ≡ false
    → (graph_of roles nr data_blocks layout).keys role place block ≡ map (λ (e : Entry). e.key) (leaf_entries t.size block)
unfolding graph_of is_bad leaf_entries node_entries_of node_keys
leaf_keys roles nr data_blocks layout t role place block is_tree sound leaf =
    let good = none_broken (layout_bad nr role (layout role) place block) sound all_rules in
    let bare : is_inner_node block ≡ false =
    leaf_by (is_tree_layout (layout role)) (is_bad nr role (layout role) place block) (is_inner_node block) (ap is_tree_layout is_tree) good leaf in
    ap (λ (b : Bool). cond b [] (layout_keys (layout role) block)) good
    ∙ (ap (λ (l : Layout). layout_keys l block) is_tree
    ∙ (keys_of_range t.size block (range_with_len 0 (entry_count t.size block))
    ∙ ap (λ (b : Bool). map (λ (e : Entry). e.key) (cond b [] (node_entries_of t.size block))) (sym bare)))

module _ (roles nr data_blocks : ℕ) (layout : ℕ → Layout) (t : Tree) (image : List (List ℕ)) (role : ℕ) (within : role < 16) (is_tree : layout role ≡ tree t)
    (lawful : IsLawful (graph_of roles nr data_blocks layout))
    (none : (c : ℕ) (rule : Rule) → c < (graph_of roles nr data_blocks layout).nr → walk_bad (graph_of roles nr data_blocks layout) image c rule ≡ false) where
  the_graph : Graph
  the_graph = graph_of roles nr data_blocks layout

  -- the nodes of the tree
  IsOfTree : ℕ → Type 0
  IsOfTree p = (is_node the_graph image p ≡ true) × (role_of p ≡ role)

  tree_role : is_tree_layout (layout role) ≡ true
  tree_role = ap is_tree_layout is_tree

  is_tree_node : (p : ℕ) → is_reached the_graph image p ≡ true → role_of p ≡ role → IsOfTree p
  unfolding the_graph IsOfTree graph_of
  is_tree_node p reached same =
      (and_from (is_reached the_graph image p) (is_tree_layout (layout (role_of p))) reached (ap (λ (s : ℕ). is_tree_layout (layout s)) same ∙ tree_role), same)

  child_of_tree : (p q : ℕ) → IsOfTree p → is_among q (children the_graph image p) ≡ true → IsOfTree q
  unfolding the_graph IsOfTree
  child_of_tree p q met among =
      let child = child_of the_graph image lawful p q among in
      let reached = (and_parts _ _ met.0).0 in
      (any_child_node the_graph image lawful p q met.0 among, child_role the_graph image lawful p q reached child.0 child.1 ∙ met.1)

  own_of_tree : (p : ℕ) → IsOfTree p → is_inner_pair the_graph image p ≡ false
      → own_keys the_graph image p ≡ map (λ (e : Entry). e.key) (leaf_entries t.size (block_at image (block_of p)))
  unfolding the_graph IsOfTree
  own_of_tree p met leaf =
      let reached = (and_parts _ _ met.0).0 in
      let small = (reached_within the_graph image p lawful reached).1 in
      let same : pair (block_of p) (role_of p) ≡ p = omega arith in
      leaf_keys roles nr data_blocks layout t (role_of p) (block_of p) (block_at image (block_of p)) (ap layout met.1 ∙ is_tree)
      ((clean_by the_graph image none).sound (block_of p) (role_of p) (omega arith) (omega arith) (ap (is_reached the_graph image) same ∙ reached)) leaf

  pub keys_are_of_entries : (b : ℕ) → is_reached (graph_of roles nr data_blocks layout) image (pair b role) ≡ true
      → keys_below (graph_of roles nr data_blocks layout) image (pair b role) ≡ keys_of (entries_below (graph_of roles nr data_blocks layout) image t.size role b)
  unfolding the_graph keys_below entries_below
  keys_are_of_entries b reached =
      gathered_map (λ (e : Entry). e.key) (is_inner_pair the_graph image) (children the_graph image)
      (λ p. leaf_entries t.size (block_at image (block_of p))) (own_keys the_graph image) IsOfTree child_of_tree own_of_tree
      63 (pair b role) (is_tree_node (pair b role) reached (pair_role b role within))

  -- so their number is that of the entries
  pub below_is_number : (audit : Audit) → IsSettled (graph_of roles nr data_blocks layout) image audit
      → ((c : ℕ) (rule : Rule) → c < (graph_of roles nr data_blocks layout).nr → order_bad (graph_of roles nr data_blocks layout) image c rule ≡ false)
      → (b : ℕ) → is_reached (graph_of roles nr data_blocks layout) image (pair b role) ≡ true
      → (note_at audit b).below ≡ length (entries_below (graph_of roles nr data_blocks layout) image t.size role b)
  unfolding the_graph IsOfTree
  below_is_number audit settled ordered b reached =
      let node = (is_tree_node (pair b role) reached (pair_role b role within)).0 in
      let entries = entries_below (graph_of roles nr data_blocks layout) image t.size role b in
      ap (λ (c : ℕ). (note_at audit c).below) (sym (pair_block b role within))
      ∙ (settled.exact ordered (pair b role) node
      ∙ (ap (λ (ks : List ℕ). length ks) (keys_are_of_entries b reached) ∙ length-map {A = Entry} {B = ℕ} entries (λ e. e.key)))

-- Where no block has Level or Range, each node of a tree is shallow and in range, and the number of keys below it is exact.

module _ (graph : Graph) (image : List (List ℕ)) (lawful : IsLawful graph) (clean : IsClean graph image)
    (ordered : (b : ℕ) (wanted : Rule) → b < graph.nr → order_bad graph image b wanted ≡ false) where
  -- a node is neither deep nor out of range
  level_none : (d o : Bool) → ((d && same_rule r.Level r.Level) || (o && same_rule r.Range r.Level)) ≡ false → d ≡ false
  level_none false o e = refl
  level_none true o e = absurd (both_ways true e refl)

  range_none : (d o : Bool) → ((d && same_rule r.Level r.Range) || (o && same_rule r.Range r.Range)) ≡ false → o ≡ false
  range_none d false e = refl
  range_none true true e = absurd (both_ways true e refl)
  range_none false true e = absurd (both_ways true e refl)

  order_none_at : (p : ℕ) (wanted : Rule) → is_node graph image p ≡ true
      → ((is_deep graph image p && same_rule r.Level wanted) || (is_out_of_range graph image p && same_rule r.Range wanted)) ≡ false
  order_none_at p wanted node =
      let reached = (and_parts (is_reached graph image p) (graph.is_tree (role_of p)) node).0 in
      let small = (reached_within graph image p lawful reached).1 in
      let e : pair (block_of p) (role_of p) ≡ p = omega arith in
      subst (λ (q : ℕ). ((is_deep graph image q && same_rule r.Level wanted) || (is_out_of_range graph image q && same_rule r.Range wanted)) ≡ false) e
      (sym (order_bad_at graph image (block_of p) (role_of p) wanted (omega arith) (omega arith) clean (ap (is_reached graph image) e ∙ reached)) ∙ ordered (block_of p) wanted (omega arith))

  pub never_deep : (p : ℕ) → is_node graph image p ≡ true → is_deep graph image p ≡ false
  never_deep p node = level_none (is_deep graph image p) (is_out_of_range graph image p) (order_none_at p r.Level node)

  shallow_chain : (p : ℕ) → is_node graph image p ≡ true → has_chain (children graph image) 64 p ≡ false
  unfolding is_deep
  shallow_chain p node = never_deep p node

  range_by : (i d g : Bool) → i ≡ true → d ≡ false → (i && (not d && not g)) ≡ false → g ≡ true
  range_by true false true e f out = refl
  range_by true false false e f out = absurd (both_ways true out refl)
  range_by true true g e f out = absurd (both_ways true f refl)
  range_by false d g e f out = absurd (both_ways false refl e)

  always_in_range : (p : ℕ) → is_node graph image p ≡ true → is_inner_pair graph image p ≡ true → is_in_range graph image p ≡ true
  unfolding is_out_of_range
  always_in_range p node e =
      range_by (is_inner_pair graph image p) (is_deep graph image p) (is_in_range graph image p) e (never_deep p node)
      (range_none (is_deep graph image p) (is_out_of_range graph image p) (order_none_at p r.Range node))

  nodes_are_fine : AreFine graph image (is_node graph image)
  nodes_are_fine = record {
    within = λ p node. reached_within graph image p lawful (and_parts (is_reached graph image p) (graph.is_tree (role_of p)) node).0;
    closed = any_child_node graph image lawful;
    shallow = shallow_chain;
    ranged = always_in_range;
  }

  pub exact_at : (p : ℕ) → is_node graph image p ≡ true → capped (length (keys_below graph image p)) ≡ length (keys_below graph image p)
  exact_at p node = exact_of graph image (is_node graph image) lawful nodes_are_fine p node
