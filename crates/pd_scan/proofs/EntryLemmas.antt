-- The entries of sound trees: their keys, their values, and the roots that they name.
use Rattle.std.proofs.Common.{◌≡◌, ℕ, zero, suc, ◌^◌, ◌<◌, Bool, true, false, cond, List, [], ◌∷◌, length, map, refl, sym, ◌∙◌, ap, subst, arith}
use Rattle.std.specs.List.{list_any, list_all, flat_map, range_with_len, AllByRecursion}
use Rattle.std.proofs.lemmas.Bool.{and_parts, not-true}
use Rattle.std.proofs.lemmas.List.{length-map}
use Rattle.pd_kinds.specs.Rule.{all_rules}
use Rattle.pd_kinds.specs.Graph.{Edge, Graph, block_at, pair, block_of, role_of, edges_of, next as next_of, own_keys, is_inner_pair, children, gathered, keys_below}
use Rattle.pd_kinds.specs.Image.{HasBytes}
use Rattle.pd_kinds.specs.Node.{Entry, entry_count, is_inner_node, key_at, value_at}
use Rattle.pd_kinds.specs.Layout.{Layout, Tree, tree, leaf_entries, node_entries_of, graph_of}
use Rattle.pd_kinds.specs.Lawful.{IsLawful}
use Rattle.pd_kinds.specs.Trees.{entries_below, keys_of}
use Rattle.pd_kinds.proofs.FieldLemmas.{le-lt}
use Rattle.pd_kinds.proofs.ListLemmas.{all_flat_map, all_map}
use Rattle.pd_kinds.proofs.SoundLemmas.{none_broken}
use Rattle.pd_laid.specs.FoundRoots.{is_sound_pair, is_sound_tree}
use Rattle.pd_graph.specs.Format.{IsSound}
use Rattle.pd_settle.proofs.ChainLemmas.{is_among, all_among}
use Rattle.pd_settle.proofs.NodeLemmas.{child_of, role_of_child}
use Rattle.pd_settle.proofs.EntryLemmas.{gathered_map, leaf_keys}
use Rattle.pd_tree.specs.Search.{IsCleanPair, IsTreeRole, IsTreeTo}
use Rattle.pd_tree.proofs.TreeLemmas.{tree_at, leaf_edges_at}
use Rattle.pd_scan.proofs.SoundLemmas.{IsInside, AreSound, next_inside, small_inside, sound_after, sound_here, sound_from_tree, sound_named, inside_at}

module _ (graph : Graph) (image : List (List ℕ)) (lawful : IsLawful graph) (role : ℕ) where
  -- the nodes of a tree of the role, with all that is reached from them
  pub record IsOfTree (p : ℕ) : Type 0 where
    pub inside : IsInside graph p
    pub same : role_of p ≡ role
    pub sound : AreSound graph image lawful p

  pub child_of_tree : (p q : ℕ) → IsOfTree p → is_among q (children graph image p) ≡ true → IsOfTree q
  child_of_tree p q met among =
      let child = child_of graph image lawful p q among in
      record {
        inside = next_inside graph image lawful p q met.inside child.1;
        same = role_of_child graph image lawful p q met.inside.known child.0 child.1 ∙ met.same;
        sound = sound_after graph image lawful p q (small_inside graph image lawful p met.inside) child.1 met.sound;
      }

  pub root_of_tree : role < graph.roles → (b : ℕ) → is_sound_tree graph image role b ≡ true → IsOfTree (pair b role)
  root_of_tree known b sound =
      let inside = inside_at graph image lawful role known b sound in
      record { inside = inside.0; same = inside.1; sound = sound_from_tree graph image lawful role b inside.0 sound }

  pub node_sound : (p : ℕ) → IsOfTree p → IsSound graph (role_of p) (block_of p) (block_at image (block_of p))
  unfolding is_sound_pair
  node_sound p met =
      none_broken (graph.bad (role_of p) (block_of p) (block_at image (block_of p)))
      (not-true (list_any (graph.bad (role_of p) (block_of p) (block_at image (block_of p))) all_rules)
      (and_parts _ _ (sound_here graph image lawful p met.sound)).0)

  -- what such a node names are roots of sound trees
  pub edges_sound : (p : ℕ) → IsOfTree p → list_all (λ (e : Edge). is_sound_tree graph image e.role e.block) (edges_of graph image p) ≡ true
  unfolding next_of
  edges_sound p met =
      sound_named graph image lawful (edges_of graph image p) (lawful.each (role_of p) (block_of p) (block_at image (block_of p)) met.inside.known).within
      (λ t among. sound_after graph image lawful p t (small_inside graph image lawful p met.inside) among met.sound)

-- the keys below a node are those of the entries below it
module _ (roles nr data_blocks : ℕ) (layout : ℕ → Layout) (t : Tree) (image : List (List ℕ)) (role : ℕ)
    (lawful : IsLawful (graph_of roles nr data_blocks layout)) (known : role < (graph_of roles nr data_blocks layout).roles) (is_tree : layout role ≡ tree t) where
  own_of_tree : (p : ℕ) → IsOfTree (graph_of roles nr data_blocks layout) image lawful role p → is_inner_pair (graph_of roles nr data_blocks layout) image p ≡ false
      → own_keys (graph_of roles nr data_blocks layout) image p ≡ map (λ (e : Entry). e.key) (leaf_entries t.size (block_at image (block_of p)))
  own_of_tree p met leaf =
      leaf_keys roles nr data_blocks layout t (role_of p) (block_of p) (block_at image (block_of p)) (ap layout met.same ∙ is_tree)
      (node_sound (graph_of roles nr data_blocks layout) image lawful role p met) leaf

  pub keys_of_sound : (b : ℕ) → is_sound_tree (graph_of roles nr data_blocks layout) image role b ≡ true
      → keys_below (graph_of roles nr data_blocks layout) image (pair b role) ≡ keys_of (entries_below (graph_of roles nr data_blocks layout) image t.size role b)
  unfolding keys_below entries_below
  keys_of_sound b sound =
      let graph = graph_of roles nr data_blocks layout in
      gathered_map (λ (e : Entry). e.key) (is_inner_pair graph image) (children graph image)
      (λ p. leaf_entries t.size (block_at image (block_of p))) (own_keys graph image) (IsOfTree graph image lawful role) (child_of_tree graph image lawful role) own_of_tree
      63 (pair b role) (root_of_tree graph image lawful role known b sound)

-- so their numbers are the same
pub number_of_entries : (graph : Graph) (image : List (List ℕ)) (role size : ℕ) → IsTreeRole graph role size → IsLawful graph → role < graph.roles
    → (b : ℕ) → is_sound_tree graph image role b ≡ true → length (keys_below graph image (pair b role)) ≡ length (entries_below graph image size role b)
number_of_entries graph image role size is lawful known b sound =
    let entries = entries_below graph image size role b in
    let same : keys_below graph image (pair b role) ≡ keys_of entries =
    rw (is.is, ← is.value_size)
    (keys_of_sound is.roles is.nr is.data_blocks is.layout is.nodes image role (rw is.is at lawful) (rw is.is at known) is.at b (rw is.is at sound)) in
    ap (λ (ks : List ℕ). length ks) same ∙ length-map {A = Entry} {B = ℕ} entries (λ e. e.key)

-- what holds of the entries of each leaf holds of all below a node
either_all : {X : Type 0} → (P : X → Type 0) (b : Bool) (xs ys : List X) → (b ≡ true → AllByRecursion P xs) → (b ≡ false → AllByRecursion P ys) → AllByRecursion P (cond b xs ys)
either_all P true xs ys first second = first refl
either_all P false xs ys first second = second refl

gathered_all : {X : Type 0} → (P : X → Type 0) (inner : ℕ → Bool) (down : ℕ → List ℕ) (own : ℕ → List X) (S : ℕ → Type 0)
    → ((p q : ℕ) → S p → is_among q (down p) ≡ true → S q) → ((p : ℕ) → S p → inner p ≡ false → AllByRecursion P (own p))
    → (j p : ℕ) → S p → AllByRecursion P (gathered inner down own j p)
unfolding gathered
gathered_all P inner down own S closed each zero p met = either_all P (inner p) [] (own p) (λ e. tt) (each p met)
gathered_all P inner down own S closed each (suc j) p met =
    either_all P (inner p) (flat_map (gathered inner down own j) (down p)) (own p)
    (λ e. all_flat_map (gathered inner down own j) P (down p)
    (all_among (λ q. AllByRecursion P (gathered inner down own j q)) (down p) (λ q among. gathered_all P inner down own S closed each j q (closed p q met among))))
    (each p met)

-- a value is a number of its bytes
leaf_values : (size : ℕ) (image : List (List ℕ)) → HasBytes image → (b : ℕ) → AllByRecursion (λ (e : Entry). e.value < 256 ^ size) (leaf_entries size (block_at image b))
unfolding leaf_entries node_entries_of
leaf_values size image bytes b =
    let block = block_at image b in
    either_all (λ (e : Entry). e.value < 256 ^ size) (is_inner_node block) [] _ (λ e. tt)
    (λ e. all_map (λ (i : ℕ). record { key = key_at block i; value = value_at size block i }) (λ (e : Entry). e.value < 256 ^ size)
    (λ i. le-lt block _ size (bytes b)) (range_with_len 0 (entry_count size block)))

pub values_fit : (graph : Graph) (image : List (List ℕ)) (role size b : ℕ) → HasBytes image → AllByRecursion (λ (e : Entry). e.value < 256 ^ size) (entries_below graph image size role b)
unfolding entries_below
values_fit graph image role size b bytes =
    gathered_all (λ (e : Entry). e.value < 256 ^ size) (is_inner_pair graph image) (children graph image) (λ p. leaf_entries size (block_at image (block_of p)))
    (λ p. Unit {0}) (λ p q met among. tt) (λ p met leaf. leaf_values size image bytes (block_of p)) 63 (pair b role) tt

-- where the entries of a tree name blocks, those of a sound one name roots of sound trees
module _ (graph : Graph) (image : List (List ℕ)) (role size next : ℕ) (named : ℕ → ℕ) (to : IsTreeTo graph role size next named) (lawful : IsLawful graph) where
  abbrev NamesRoot : Entry → Type 0
  NamesRoot e = is_sound_tree graph image next (named e.value) ≡ true

  each_named : (es : List Entry)
      → list_all (λ (e : Edge). is_sound_tree graph image e.role e.block) (flat_map (λ (e : Entry). record { role = next; block = named e.value } ∷ []) es) ≡ true
      → AllByRecursion NamesRoot es
  each_named [] all = tt
  each_named (e ∷ es) all = let parts = and_parts _ _ all in (parts.0, each_named es parts.1)

  leaf_names : (p : ℕ) → IsOfTree graph image lawful role p → is_inner_pair graph image p ≡ false → AllByRecursion NamesRoot (leaf_entries size (block_at image (block_of p)))
  unfolding leaf_entries
  leaf_names p met leaf =
      let b = block_of p in
      let same = met.same in
      let here : p ≡ pair b role = omega arith in
      let clean = subst (IsCleanPair graph image) here (node_sound graph image lawful role p met) in
      let bare : is_inner_node (block_at image b) ≡ false =
      sym ((tree_at graph image role size to.is_role).inner b clean) ∙ (sym (ap (is_inner_pair graph image) here) ∙ leaf) in
      let edges : edges_of graph image p ≡ _ =
      ap (λ (r : ℕ). graph.edges r b (block_at image b)) same ∙ leaf_edges_at graph image role size next named b to bare clean in
      rw bare
      (each_named (node_entries_of size (block_at image b))
      (sym (ap (list_all (λ (e : Edge). is_sound_tree graph image e.role e.block)) edges) ∙ edges_sound graph image lawful role p met))

  pub entries_name_roots : role < graph.roles → (b : ℕ) → is_sound_tree graph image role b ≡ true → AllByRecursion NamesRoot (entries_below graph image size role b)
  unfolding entries_below
  entries_name_roots known b sound =
      gathered_all NamesRoot (is_inner_pair graph image) (children graph image) (λ p. leaf_entries size (block_at image (block_of p)))
      (IsOfTree graph image lawful role) (child_of_tree graph image lawful role) leaf_names 63 (pair b role) (root_of_tree graph image lawful role known b sound)
