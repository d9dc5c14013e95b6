-- The entries and the keys of a tree without a bad rule, over the bytes of its nodes.
use Rattle.std.proofs.Common.{◌≡◌, ℕ, true, false, List, length, map, arith, ◌-◌, ◌<◌, Bool, [], ◌∷◌, refl, sym, ◌∙◌, zero, suc, ◌+◌, ◌*◌, ◌||◌, nat_eq, eq-eqb, cond, Option, Some}
use Rattle.std.specs.List.{range_with_len, flat_map, list_any, AllByRecursion, find}
use Rattle.std.proofs.lemmas.Bool.{not-false, eqb-true, or_right}
use Rattle.std.proofs.lemmas.List.FromFn.{get_or-map-range_with_len, length-map-range_with_len}
use Rattle.std.proofs.lemmas.Simd.{map-map}
use Rattle.std.proofs.lemmas.List.{append-nil, map-id, map-append}
use Rattle.std.specs.Option.{option_map}
use Rattle.pd_kinds.specs.declared.rule.Rule.{Rule}
use Rattle.pd_kinds.specs.Node.{entry_count, is_ascending, node_keys, node_tests, key_at, Entry, is_inner_node, child_at, value_at}
use Rattle.pd_kinds.specs.Layout.{Tree, tree_bad, tree_tests, Layout, graph_of, is_bad, layout_bad, is_tree_layout, tree_edges, node_entries_of, leaf_entries}
use Rattle.pd_kinds.proofs.SoundLemmas.{tests_after_one}
use Rattle.pd_kinds.specs.Rule.{all_rules}
use Rattle.pd_kinds.specs.Graph.{Edge, Graph, block_at, pair, block_of, role_of, is_inner_pair, own_keys, next, children, gathered, keys_below, is_in_range}
use Rattle.pd_kinds.specs.Layout.Layout.{tree}
use Rattle.pd_kinds.proofs.KindsListLemmas.{none_passes}
use Rattle.pd_kinds.proofs.NumberLemmas.{both_hold}
use Rattle.pd_kinds.specs.Array.{word_count}
use Rattle.pd_kinds.specs.Trees.{value_of_key, block_words, words_of}
use Rattle.pd_node.proofs.Shape.{ascending_pairs}
use Rattle.pd_tree.specs.Search.{KeysAscend, node_kids, IsCleanPair, IsTreeRole, IsTreeTo, IsUnder, lookup}
use Rattle.pd_tree.specs.Below.{kids_from, gather, items_from, items_below}
use Rattle.pd_tree.specs.Cursor.{item_of, root_of, words_from, words_of_items}
use Rattle.pd_tree.specs.Search.IsUnder.{itself, below}
use Rattle.pd_tree.proofs.StackLemmas.{kids_leaf}

-- Keys ascend in a node that breaks no rule.

-- a node without a bad rule doesn't have the rule Order
pub order_says : (nr role : ℕ) (t : Tree) (place : ℕ) (block : List ℕ) → ((rule : Rule) → tree_bad nr role t place block rule ≡ false) → is_ascending (node_keys t.size block) ≡ true
unfolding tree_bad tree_tests node_tests
order_says nr role t place block clean = not-false (is_ascending (node_keys t.size block)) (tests_after_one _ _ (tree_tests nr role t place block) clean).1.1.0

-- each key is below all later ones
pub keys_say : (size : ℕ) (block : List ℕ) → is_ascending (node_keys size block) ≡ true → KeysAscend size block
unfolding node_keys KeysAscend
keys_say size block ascend i k before within =
    let count = entry_count size block in
    let keys = map (key_at block) (range_with_len 0 count) in
    let first = get_or-map-range_with_len (key_at block) 0 count i i 0 (omega arith) (omega arith) in
    let last = get_or-map-range_with_len (key_at block) 0 count k k 0 within (omega arith) in
    let number : length keys ≡ count = length-map-range_with_len (key_at block) 0 count in
    rw (first, last) at (ascending_pairs keys i k ascend before (rw number within))

-- What a role of a tree in a table of layouts comes to, over the bytes of its nodes.

-- the role and the block of a pair
pub role_pair : (b role : ℕ) → role < 16 → role_of (pair b role) ≡ role
role_pair b role few = omega arith

pub block_pair : (b role : ℕ) → role < 16 → block_of (pair b role) ≡ b
block_pair b role few = omega arith

-- what the format says of a node that breaks no rule is what its bytes say
pub record IsTreeAt (graph : Graph) (image : List (List ℕ)) (role size : ℕ) : Type 0 where
  pub few : role < 16
  pub inner : (b : ℕ) → IsCleanPair graph image (pair b role) → is_inner_pair graph image (pair b role) ≡ is_inner_node (block_at image b)
  pub kids : (b : ℕ) → IsCleanPair graph image (pair b role) → children graph image (pair b role) ≡ map (λ c. pair c role) (node_kids size image b)
  pub keys : (b : ℕ) → IsCleanPair graph image (pair b role) → own_keys graph image (pair b role) ≡ node_keys size (block_at image b)
  pub ascend : (b : ℕ) → IsCleanPair graph image (pair b role) → KeysAscend size (block_at image b)

module _ (roles nr data_blocks : ℕ) (layout : ℕ → Layout) (t : Tree) (role : ℕ) (image : List (List ℕ)) (few : role < 16) (is : layout role ≡ tree t) where
  -- no rule is broken over the bytes
  clean_block : (b : ℕ) → IsCleanPair (graph_of roles nr data_blocks layout) image (pair b role) → is_bad nr role (layout role) b (block_at image b) ≡ false
  unfolding graph_of is_bad
  clean_block b clean =
      none_passes (layout_bad nr role (layout role) b (block_at image b)) all_rules (λ rule. rw (role_pair b role few, block_pair b role few) at (clean rule))

  inner_is : (b : ℕ) → IsCleanPair (graph_of roles nr data_blocks layout) image (pair b role)
      → is_inner_pair (graph_of roles nr data_blocks layout) image (pair b role) ≡ is_inner_node (block_at image b)
  unfolding graph_of
  inner_is b clean =
      rw (role_pair b role few, block_pair b role few)
      (both_hold (is_tree_layout (layout role)) (is_bad nr role (layout role) b (block_at image b)) (is_inner_node (block_at image b)) (rw is refl) (clean_block b clean))

  -- an inner node leads to its children
  next_by : (b : ℕ) → is_inner_node (block_at image b) ≡ true → is_bad nr role (layout role) b (block_at image b) ≡ false
      → next (graph_of roles nr data_blocks layout) image (pair b role) ≡ map (λ c. pair c role) (kids_from t.size (block_at image b) 0)
  unfolding graph_of next kids_from tree_edges
  next_by b inner clean =
      let whole : entry_count t.size (block_at image b) - 0 ≡ entry_count t.size (block_at image b) = omega arith in
      rw (role_pair b role few, block_pair b role few, clean, is, inner, whole)
      (map-map (λ (edge : Edge). pair edge.block edge.role) (λ (i : ℕ). record { role = role; block = child_at (block_at image b) i }) (range_with_len 0 (entry_count t.size (block_at image b)))
      ∙ sym (map-map (λ c. pair c role) (child_at (block_at image b)) (range_with_len 0 (entry_count t.size (block_at image b)))))

  children_by : (inner : Bool) (b : ℕ) → is_inner_node (block_at image b) ≡ inner → IsCleanPair (graph_of roles nr data_blocks layout) image (pair b role)
      → children (graph_of roles nr data_blocks layout) image (pair b role) ≡ map (λ c. pair c role) (kids_from t.size (block_at image b) 0)
  unfolding children kids_from
  children_by true b inner clean = rw (inner_is b clean, inner) (rw inner at (next_by b inner (clean_block b clean)))
  children_by false b leaf clean = rw (inner_is b clean, leaf) refl

  children_is : (b : ℕ) → IsCleanPair (graph_of roles nr data_blocks layout) image (pair b role)
      → children (graph_of roles nr data_blocks layout) image (pair b role) ≡ map (λ c. pair c role) (kids_from t.size (block_at image b) 0)
  children_is b clean = children_by (is_inner_node (block_at image b)) b refl clean

  -- its keys
  keys_are : (b : ℕ) → IsCleanPair (graph_of roles nr data_blocks layout) image (pair b role) → own_keys (graph_of roles nr data_blocks layout) image (pair b role) ≡ node_keys t.size (block_at image b)
  unfolding graph_of
  keys_are b clean =
      rw (role_pair b role few, block_pair b role few, clean_block b clean, is) refl

  clean_bytes : (b : ℕ) → IsCleanPair (graph_of roles nr data_blocks layout) image (pair b role) → (rule : Rule) → tree_bad nr role t b (block_at image b) rule ≡ false
  unfolding graph_of
  clean_bytes b clean rule = rw (role_pair b role few, block_pair b role few, is) at (clean rule)

  -- the blocks that a leaf names
  leaf_edges_are : (b : ℕ) → is_inner_node (block_at image b) ≡ false → IsCleanPair (graph_of roles nr data_blocks layout) image (pair b role)
      → (graph_of roles nr data_blocks layout).edges role b (block_at image b) ≡ flat_map t.leaf_edges (node_entries_of t.size (block_at image b))
  unfolding graph_of tree_edges
  leaf_edges_are b leaf clean = rw (clean_block b clean, is, leaf) refl

  -- so a table has the tree
  table_tree : IsTreeAt (graph_of roles nr data_blocks layout) image role t.size
  table_tree = record {
    few = few;
    inner = inner_is;
    kids = children_is;
    keys = keys_are;
    ascend = λ b clean. keys_say t.size (block_at image b) (order_says nr role t b (block_at image b) (clean_bytes b clean));
  }

-- and so has any format with the role
pub tree_at : (graph : Graph) (image : List (List ℕ)) (role size : ℕ) → IsTreeRole graph role size → IsTreeAt graph image role size
tree_at graph image role size is =
    rw (is.is, ← is.value_size) (table_tree is.roles is.nr is.data_blocks is.layout is.nodes role image is.few is.at)

-- the blocks that a leaf names where each entry names one
pub leaf_edges_at : (graph : Graph) (image : List (List ℕ)) (role size next : ℕ) (named : ℕ → ℕ) (b : ℕ) → IsTreeTo graph role size next named → is_inner_node (block_at image b) ≡ false
    → IsCleanPair graph image (pair b role) → graph.edges role b (block_at image b) ≡ flat_map (λ (e : Entry). record { role = next; block = named e.value } ∷ []) (node_entries_of size (block_at image b))
leaf_edges_at graph image role size next named b to leaf clean =
    let is = to.is_role in
    rw (is.is, ← is.value_size, ← to.leads) (leaf_edges_are is.roles is.nr is.data_blocks is.layout is.nodes role image is.few is.at b leaf (rw is.is at clean))

-- what holds of each number that is among them
pub members : (P : ℕ → Type 0) (xs : List ℕ) → ((x : ℕ) → list_any (λ t. nat_eq t x) xs ≡ true → P x) → AllByRecursion P xs
members P [] all = tt
members P (x ∷ xs) all =
    (all x (rw (eq-eqb x x refl) refl), members P xs (λ y is. all y (or_right (nat_eq x y) (list_any (λ t. nat_eq t y) xs) is)))

-- a child is among the pairs of the children
member_by : (same : Bool) (x c : ℕ) (rest others : Bool) (role : ℕ) → nat_eq x c ≡ same → (same || rest) ≡ true → (rest ≡ true → others ≡ true) → (nat_eq (16 * x + role) (16 * c + role) || others) ≡ true
member_by true x c rest others role is any more =
    let equal = eqb-true x c is in
    rw equal (rw (eq-eqb (16 * c + role) (16 * c + role) refl) refl)
member_by false x c rest others role is any more = or_right (nat_eq (16 * x + role) (16 * c + role)) others (more any)

member_pair : (role c : ℕ) (cs : List ℕ) → list_any (λ t. nat_eq t c) cs ≡ true → list_any (λ t. nat_eq t (pair c role)) (map (λ c. pair c role) cs) ≡ true
member_pair role c [] any = any
member_pair role c (x ∷ cs) any = member_by (nat_eq x c) x c (list_any (λ t. nat_eq t c) cs) (list_any (λ t. nat_eq t (pair c role)) (map (λ c. pair c role) cs)) role refl any (member_pair role c cs)

-- a number of a row is among those that it is mapped to
member_at : (f : ℕ → ℕ) (d n a : ℕ) → d < n → list_any (λ t. nat_eq t (f (a + d))) (map f (range_with_len a n)) ≡ true
member_at f d zero a within = absurd (omega arith)
member_at f zero (suc n) a within =
    let here : a + 0 ≡ a = omega arith in
    rw (here, eq-eqb (f a) (f a) refl) refl
member_at f (suc d) (suc n) a within =
    let here : a + suc d ≡ a + 1 + d = omega arith in
    or_right (nat_eq (f a) (f (a + suc d))) (list_any (λ t. nat_eq t (f (a + suc d))) (map f (range_with_len (a + 1) n))) (rw here (member_at f d n (a + 1) (omega arith)))

-- what stands below a node, mapped
map-flat_map : {X Y : Type 0} → (f : X → Y) (g : ℕ → List X) (h : ℕ → List Y) (bs : List ℕ) → ((b : ℕ) → map f (g b) ≡ h b) → map f (flat_map g bs) ≡ flat_map h bs
map-flat_map f g h [] each = refl
map-flat_map f g h (b ∷ bs) each = map-append f (g b) (flat_map g bs) ∙ (rw (each b, map-flat_map f g h bs each) refl)

map-gather : {X Y : Type 0} → (f : X → Y) (here : ℕ → List X) (down : ℕ → List ℕ) (j b : ℕ) → map f (gather here down j b) ≡ gather (λ c. map f (here c)) down j b
unfolding gather
map-gather f here down zero b = refl
map-gather f here down (suc j) b =
    map-append f (here b) (flat_map (gather here down j) (down b))
    ∙ (rw (map-flat_map f (gather here down j) (gather (λ c. map f (here c)) down j) (down b) (map-gather f here down j)) refl)

module _ (graph : Graph) (image : List (List ℕ)) (role size : ℕ) (at : IsTreeAt graph image role size) where
  -- no node below the block breaks a rule
  abbrev pub IsClean : ℕ → Type 0
  IsClean b = (q : ℕ) → IsUnder graph image (pair b role) q → IsCleanPair graph image q

  -- what holds of each child, and of the nodes below it
  pub each_kid : (P : ℕ → Type 0) (b : ℕ) → IsClean b
      → ((c : ℕ) → list_any (λ t. nat_eq t (pair c role)) (children graph image (pair b role)) ≡ true → IsClean c → P c)
      → AllByRecursion P (node_kids size image b)
  each_kid P b clean each = members P (node_kids size image b) (λ c is_kid.
      let is_child : list_any (λ t. nat_eq t (pair c role)) (children graph image (pair b role)) ≡ true = rw (at.kids b (clean (pair b role) (itself (pair b role)))) (member_pair role c (node_kids size image b) is_kid) in
      each c is_child (λ q under. clean q (below (pair b role) (pair c role) q is_child under)))

  -- no node below a child breaks a rule
  pub clean_kids : (b : ℕ) → IsClean b → AllByRecursion IsClean (node_kids size image b)
  clean_kids b clean = each_kid IsClean b clean (λ c is_child kid_clean. kid_clean)

  module _ {X Y : Type 0} (f : X → Y) (own : ℕ → List X) (here : ℕ → List Y)
      (leaves : (b : ℕ) → is_inner_node (block_at image b) ≡ false → IsCleanPair graph image (pair b role) → map f (own (pair b role)) ≡ here b)
      (inners : (b : ℕ) → is_inner_node (block_at image b) ≡ true → here b ≡ []) where
    -- what is gathered over the pairs is what stands below the blocks
    flat_agree : (j : ℕ) (cs : List ℕ)
        → ((c : ℕ) → IsClean c → map f (gathered (is_inner_pair graph image) (children graph image) own j (pair c role)) ≡ gather here (node_kids size image) j c)
        → AllByRecursion IsClean cs
        → map f (flat_map (gathered (is_inner_pair graph image) (children graph image) own j) (map (λ c. pair c role) cs)) ≡ flat_map (gather here (node_kids size image) j) cs
    flat_agree j [] each all = refl
    flat_agree j (c ∷ cs) each all =
        let g = gathered (is_inner_pair graph image) (children graph image) own j in
        map-append f (g (pair c role)) (flat_map g (map (λ c. pair c role) cs)) ∙ (rw (each c all.0, flat_agree j cs each all.1) refl)

    agree_by : (inner : Bool) (j b : ℕ) → is_inner_node (block_at image b) ≡ inner → IsClean b
        → ((c : ℕ) → IsClean c → map f (gathered (is_inner_pair graph image) (children graph image) own j (pair c role)) ≡ gather here (node_kids size image) j c)
        → map f (gathered (is_inner_pair graph image) (children graph image) own (suc j) (pair b role)) ≡ gather here (node_kids size image) (suc j) b
    unfolding gathered gather
    agree_by true j b inner clean each =
        let own_clean = clean (pair b role) (itself (pair b role)) in
        rw (at.inner b own_clean, inner, at.kids b own_clean, inners b inner) (flat_agree j (node_kids size image b) each (clean_kids b clean))
    agree_by false j b leaf clean each =
        let own_clean = clean (pair b role) (itself (pair b role)) in
        rw (at.inner b own_clean, leaf, kids_leaf size (block_at image b) 0 leaf) (leaves b leaf own_clean ∙ sym (append-nil (here b)))

    last_by : (inner : Bool) (b : ℕ) → is_inner_node (block_at image b) ≡ inner → IsClean b
        → map f (gathered (is_inner_pair graph image) (children graph image) own 0 (pair b role)) ≡ gather here (node_kids size image) 0 b
    unfolding gathered gather
    last_by true b inner clean = rw (at.inner b (clean (pair b role) (itself (pair b role))), inner) (sym (inners b inner))
    last_by false b leaf clean =
        let own_clean = clean (pair b role) (itself (pair b role)) in
        rw (at.inner b own_clean, leaf) (leaves b leaf own_clean)

    pub agree : (j b : ℕ) → IsClean b
        → map f (gathered (is_inner_pair graph image) (children graph image) own j (pair b role)) ≡ gather here (node_kids size image) j b
    agree zero b clean = last_by (is_inner_node (block_at image b)) b refl clean
    agree (suc j) b clean = agree_by (is_inner_node (block_at image b)) j b refl clean (agree j)

  -- so with entries
  pub entries_agree : {X : Type 0} → (decoded : ℕ → X) (j b : ℕ) → IsClean b
      → items_below size decoded image j b
      ≡ map (item_of decoded) (gathered (is_inner_pair graph image) (children graph image) (λ p. leaf_entries size (block_at image (block_of p))) j (pair b role))
  unfolding items_below items_from leaf_entries node_entries_of
  entries_agree {X} decoded j b clean =
      sym (agree (item_of decoded) (λ p. leaf_entries size (block_at image (block_of p))) (λ c. items_from size decoded (block_at image c) 0)
      (λ c leaf clean_pair.
      let whole : entry_count size (block_at image c) - 0 ≡ entry_count size (block_at image c) = omega arith in
      rw (block_pair c role at.few, leaf, whole) (map-map (item_of decoded) (λ (i : ℕ). record { key = key_at (block_at image c) i; value = value_at size (block_at image c) i }) (range_with_len 0 (entry_count size (block_at image c)))))
      (λ c inner. rw inner refl) j b clean)

  -- and with keys
  pub keys_agree : {X : Type 0} → (decoded : ℕ → X) (b : ℕ) → IsClean b
      → keys_below graph image (pair b role) ≡ map (λ (item : ℕ × X). item.0) (items_below size decoded image 63 b)
  unfolding keys_below items_below items_from node_keys
  keys_agree {X} decoded b clean =
      sym (map-id (gathered (is_inner_pair graph image) (children graph image) (own_keys graph image) 63 (pair b role)))
      ∙ (agree (λ (k : ℕ). k) (own_keys graph image) (λ c. map (λ (item : ℕ × X). item.0) (items_from size decoded (block_at image c) 0))
      (λ c leaf clean_pair.
      let whole : entry_count size (block_at image c) - 0 ≡ entry_count size (block_at image c) = omega arith in
      rw (at.keys c clean_pair, leaf, whole)
      (map-id (map (key_at (block_at image c)) (range_with_len 0 (entry_count size (block_at image c))))
      ∙ sym (map-map (λ (item : ℕ × X). item.0) (λ i. (key_at (block_at image c) i, decoded (value_at size (block_at image c) i))) (range_with_len 0 (entry_count size (block_at image c))))))
      (λ c inner. rw inner refl) 63 b clean
      ∙ sym (map-gather (λ (item : ℕ × X). item.0) (λ c. items_from size decoded (block_at image c) 0) (node_kids size image) 63 b))

  -- each inner node below the block is in range
  abbrev pub IsRanged : ℕ → Type 0
  IsRanged b = (q : ℕ) → IsUnder graph image (pair b role) q → is_inner_pair graph image q ≡ true → is_in_range graph image q ≡ true

  -- a child stands under its node
  pub kid_under : (b i : ℕ) → IsClean b → is_inner_node (block_at image b) ≡ true → i < entry_count size (block_at image b)
      → list_any (λ t. nat_eq t (pair (child_at (block_at image b) i) role)) (children graph image (pair b role)) ≡ true
  unfolding kids_from
  kid_under b i clean inner within =
      let whole : entry_count size (block_at image b) - 0 ≡ entry_count size (block_at image b) = omega arith in
      let first : 0 + i ≡ i = omega arith in
      rw (at.kids b (clean (pair b role) (itself (pair b role))), inner, whole, map-map (λ c. pair c role) (child_at (block_at image b)) (range_with_len 0 (entry_count size (block_at image b))))
      (rw first at (member_at (λ i. pair (child_at (block_at image b) i) role) i (entry_count size (block_at image b)) 0 within))

-- What is said of the entries of a tree, over the items that a cursor gives of them.

-- the value at a key
first_value : {X : Type 0} → (decoded : ℕ → X) (same : Bool) (entry : Entry) (found : Option X) (later : Option Entry)
    → found ≡ option_map decoded (option_map (λ (e : Entry). e.value) later)
    → cond same (Some (decoded entry.value)) found ≡ option_map decoded (option_map (λ (e : Entry). e.value) (cond same (Some entry) later))
first_value decoded true entry found later rest = refl
first_value decoded false entry found later rest = rest

-- so it is found among the entries
pub lookup_entries : {X : Type 0} → (decoded : ℕ → X) (key : ℕ) (entries : List Entry)
    → lookup key (map (item_of decoded) entries) ≡ option_map decoded (value_of_key entries key)
unfolding lookup value_of_key
lookup_entries decoded key [] = refl
lookup_entries decoded key (entry ∷ entries) =
    first_value decoded (nat_eq entry.key key) entry (lookup key (map (item_of decoded) entries)) (find (λ (e : Entry). nat_eq e.key key) entries)
    (lookup_entries decoded key entries)

-- the words of the blocks that the entries name
pub words_entries : (size : ℕ) (image : List (List ℕ)) (entries : List Entry) → words_of_items size image (map (item_of root_of) entries) ≡ words_of size image entries
unfolding words_of_items words_of words_from block_words
words_entries size image [] = refl
words_entries size image (entry ∷ entries) =
    let whole : word_count size (block_at image entry.value) - 0 ≡ word_count size (block_at image entry.value) = omega arith in
    rw (whole, words_entries size image entries) refl
