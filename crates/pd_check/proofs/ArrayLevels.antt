-- The blocks of an array that stand below a node of its tree, by what the node names.
-- Nodes that are marked by rising height.
use Rattle.std.proofs.Common.{◌≡◌, ℕ, ◌-◌, ◌<◌, Bool, true, false, ◌++◌, cond, List, [], ◌∷◌, map, refl, sym, ap, ◌∙◌, arith, ◌⊎◌, inl, inr, ◌+◌, ◌≤◌, ◌&&◌, nat_eq, Option, Some, subst, eq-eqb}
use Rattle.std.specs.List.{flat_map, range_with_len, AllByRecursion, slice_get}
use Rattle.std.proofs.lemmas.Simd.{map-map}
use Rattle.std.proofs.lemmas.List.{map-append}
use Rattle.std.specs.Option.{unwrap_or}
use Rattle.std.proofs.lemmas.Bool.{cases_Bool, cases_eq, cases_lt, and_from, both_ways, ne_eqb}
use Rattle.pd_kinds.specs.Array.{word_count}
use Rattle.pd_kinds.specs.Graph.{Edge, edge_of, Graph, block_at, pair, block_of, is_inner_pair, children, gathered, is_deep}
use Rattle.pd_kinds.specs.Layout.{Layout, Tree, graph_of, is_bad, layout_bad, tree_edges, leaf_entries, node_entries_of}
use Rattle.pd_kinds.specs.Layout.Layout.{tree}
use Rattle.pd_kinds.specs.Rule.{all_rules}
use Rattle.pd_kinds.specs.Node.{Entry, entry_count, is_inner_node, child_at}
use Rattle.pd_kinds.specs.Stages.{IsReached}
use Rattle.pd_kinds.specs.Trees.{entries_below}
use Rattle.pd_kinds.proofs.KindsListLemmas.{none_passes}
use Rattle.pd_kinds.specs.Lawful.{IsLawful}
use Rattle.pd_kinds.specs.InOrder.{AreInOrder}
use Rattle.pd_kinds.proofs.ListLemmas.{all_from, all_from_two}
use Rattle.pd_array.specs.Word.{size_of}
use Rattle.pd_graph.specs.declared.audit.Audit.{Audit}
use Rattle.pd_graph.specs.Audit.{note_at, blocks_of, roles_at}
use Rattle.pd_graph.specs.Marks.{has_bit}
use Rattle.pd_graph.specs.Format.{AreContents, Contents, IsSound}
use Rattle.pd_settle.specs.Looking.{blocks_of_edges}
use Rattle.pd_settle.proofs.KeyLemmas.{gathered_step}
use Rattle.pd_tree.specs.Below.{kids_from}
use Rattle.pd_tree.specs.Search.{node_kids, IsCleanPair, IsSoundTree, IsTreeRole}
use Rattle.pd_tree.specs.Search.IsUnder.{itself}
use Rattle.pd_tree.proofs.TreeLemmas.{IsTreeAt, tree_at, leaf_edges_at, block_pair, role_pair, each_kid}
use Rattle.pd_check.specs.declared.array_rules.ArrayRoles.{ArrayRoles}
use Rattle.pd_check.specs.Arrays.{HasArrays, counts_below, counts_of, joined, mark_of, no_mark, mark_at, AreMarked, AreMarkedTo, KeepsBlocks, most_of}
use Rattle.pd_check.specs.declared.array_marks.ArrayMark.{ArrayMark}
use Rattle.pd_check.specs.declared.array_marks.ArrayMarks.{ArrayMarks}
use Rattle.pd_check.proofs.ArrayMarkLemmas.{joined_marks}

-- the blocks of edges in one role
edges_to : ℕ → List ℕ → List Edge
edges_to role cs = map (edge_of role) cs

blocks_named : (role : ℕ) (cs : List ℕ) → blocks_of_edges (edges_to role cs) ≡ cs
unfolding edges_to
blocks_named role [] = refl
blocks_named role (c ∷ cs) = ap (λ (bs : List ℕ). c ∷ bs) (blocks_named role cs)

each_named : (P : ℕ → ℕ → Type 0) (role : ℕ) (cs : List ℕ) → AllByRecursion (λ (e : Edge). P e.block e.role) (edges_to role cs) → AllByRecursion (λ c. P c role) cs
unfolding edges_to
each_named P role [] all = tt
each_named P role (c ∷ cs) all = (all.0, each_named P role cs all.1)

-- the edges of a leaf's entries
leaf_edges : (role : ℕ) (entries : List Entry) → flat_map (λ (e : Entry). record { role = role; block = e.value } ∷ []) entries ≡ edges_to role (map (λ (e : Entry). e.value) entries)
unfolding edges_to
leaf_edges role [] = refl
leaf_edges role (e ∷ entries) = ap (λ (es : List Edge). edge_of role e.value ∷ es) (leaf_edges role entries)

leaf_counts : (f : ℕ → ℕ) (entries : List Entry) → map (λ (e : Entry). f e.value) entries ≡ flat_map (λ c. f c ∷ []) (map (λ (e : Entry). e.value) entries)
leaf_counts f [] = refl
leaf_counts f (e ∷ entries) = ap (λ (ns : List ℕ). f e.value ∷ ns) (leaf_counts f entries)

-- what stands below children, mapped
mapped_below : (f : Entry → ℕ) (g : ℕ → List Entry) (h : ℕ → ℕ) (cs : List ℕ) → map f (flat_map g (map h cs)) ≡ flat_map (λ c. map f (g (h c))) cs
mapped_below f g h [] = refl
mapped_below f g h (c ∷ cs) = map-append f (g (h c)) (flat_map g (map h cs)) ∙ ap (λ (ns : List ℕ). map f (g (h c)) ++ ns) (mapped_below f g h cs)

-- the blocks that an inner node names
inner_edges_are : (roles nr data_blocks : ℕ) (layout : ℕ → Layout) (t : Tree) (role : ℕ) (image : List (List ℕ)) (b : ℕ) → role < 16 → layout role ≡ tree t
    → is_inner_node (block_at image b) ≡ true → IsCleanPair (graph_of roles nr data_blocks layout) image (pair b role)
    → (graph_of roles nr data_blocks layout).edges role b (block_at image b) ≡ edges_to role (node_kids t.size image b)
unfolding graph_of is_bad tree_edges kids_from edges_to
inner_edges_are roles nr data_blocks layout t role image b few is inner clean =
    let good = none_passes (layout_bad nr role (layout role) b (block_at image b)) all_rules (λ rule. rw (role_pair b role few, block_pair b role few) at (clean rule)) in
    let whole : entry_count t.size (block_at image b) - 0 ≡ entry_count t.size (block_at image b) = omega arith in
    rw (good, is, inner, whole) (sym (map-map (edge_of role) (child_at (block_at image b)) (range_with_len 0 (entry_count t.size (block_at image b)))))

inner_edges_at : (graph : Graph) (image : List (List ℕ)) (role size b : ℕ) (is : IsTreeRole graph role size) → is_inner_node (block_at image b) ≡ true
    → IsCleanPair graph image (pair b role) → graph.edges role b (block_at image b) ≡ edges_to role (node_kids size image b)
inner_edges_at graph image role size b is inner clean =
    rw (is.is, ← is.value_size) (inner_edges_are is.roles is.nr is.data_blocks is.layout is.nodes role image b is.few is.at inner (rw is.is at clean))

-- what is known of the blocks that a node names: their role, that each is reached, and that their words are those below
-- the node
pub record Names (graph : Graph) (image : List (List ℕ)) (roles : ArrayRoles) (b role : ℕ) (counts : ℕ → List ℕ) (cs : List ℕ) : Type 0 where
  pub edges : blocks_of_edges (graph.edges roles.nodes b (block_at image b)) ≡ cs
  pub reached : AllByRecursion (λ c. IsReached graph image c role) cs
  pub below : counts_below graph image roles b ≡ flat_map counts cs

module _ (graph : Graph) (image : List (List ℕ)) (audit : Audit) (roles : ArrayRoles) (has : HasArrays graph image audit roles)
    (b : ℕ) (reached : IsReached graph image b roles.nodes) (sound : IsSoundTree graph image (pair b roles.nodes))
    (leads : AllByRecursion (λ (e : Edge). IsReached graph image e.block e.role) (graph.edges roles.nodes b (block_at image b))) where
  tree_is : IsTreeAt graph image roles.nodes 8
  tree_is = tree_at graph image roles.nodes 8 has.tree.is_role

  clean : IsCleanPair graph image (pair b roles.nodes)
  clean = sound.rules (pair b roles.nodes) (itself (pair b roles.nodes))

  -- a leaf names blocks of arrays
  abbrev words_at : ℕ → List ℕ
  words_at c = word_count (size_of roles.word) (block_at image c) ∷ []

  abbrev named : List ℕ
  named = map (λ (e : Entry). e.value) (node_entries_of 8 (block_at image b))

  edges_of_leaf : is_inner_node (block_at image b) ≡ false → graph.edges roles.nodes b (block_at image b) ≡ edges_to roles.blocks named
  edges_of_leaf leaf =
      leaf_edges_at graph image roles.nodes 8 roles.blocks (λ v. v) b has.tree leaf clean ∙ leaf_edges roles.blocks (node_entries_of 8 (block_at image b))

  below_leaf : is_inner_node (block_at image b) ≡ false → counts_below graph image roles b ≡ flat_map words_at named
  unfolding counts_below entries_below gathered leaf_entries
  below_leaf leaf =
      rw (tree_is.inner b clean, leaf, block_pair b roles.nodes reached.within) (rw leaf (leaf_counts (λ c. word_count (size_of roles.word) (block_at image c)) (node_entries_of 8 (block_at image b))))

  pub leaf_names : is_inner_node (block_at image b) ≡ false → Names graph image roles b roles.blocks words_at named
  leaf_names leaf = record {
    edges = ap blocks_of_edges (edges_of_leaf leaf) ∙ blocks_named roles.blocks named;
    reached = each_named (IsReached graph image) roles.blocks named (rw (edges_of_leaf leaf) at leads);
    below = below_leaf leaf;
  }

  -- an inner node names nodes of the tree
  abbrev kids : List ℕ
  kids = node_kids 8 image b

  edges_of_inner : is_inner_node (block_at image b) ≡ true → graph.edges roles.nodes b (block_at image b) ≡ edges_to roles.nodes kids
  edges_of_inner inner = inner_edges_at graph image roles.nodes 8 b has.tree.is_role inner clean

  below_inner : is_inner_node (block_at image b) ≡ true → counts_below graph image roles b ≡ flat_map (counts_below graph image roles) kids
  unfolding counts_below entries_below is_deep
  below_inner inner =
      let own = λ (p : ℕ). leaf_entries 8 (block_at image (block_of p)) in
      let here = gathered (is_inner_pair graph image) (children graph image) own 63 in
      let one : here (pair b roles.nodes) ≡ flat_map here (map (λ c. pair c roles.nodes) kids) =
      gathered_step (is_inner_pair graph image) (children graph image) own 63 (pair b roles.nodes) sound.level
      ∙ (ap (λ (i : Bool). cond i (flat_map here (children graph image (pair b roles.nodes))) (own (pair b roles.nodes))) (tree_is.inner b clean ∙ inner)
      ∙ ap (λ (cs : List ℕ). flat_map here cs) (tree_is.kids b clean)) in
      ap (λ (entries : List Entry). counts_of (size_of roles.word) image entries) one
      ∙ mapped_below (λ (e : Entry). word_count (size_of roles.word) (block_at image e.value)) here (λ c. pair c roles.nodes) kids

  pub inner_names : is_inner_node (block_at image b) ≡ true → Names graph image roles b roles.nodes (counts_below graph image roles) kids
  inner_names inner = record {
    edges = ap blocks_of_edges (edges_of_inner inner) ∙ blocks_named roles.nodes kids;
    reached = each_named (IsReached graph image) roles.nodes kids (rw (edges_of_inner inner) at leads);
    below = below_inner inner;
  }

  -- each of lower height
  pub lower_kids : AllByRecursion (λ c. (note_at audit c).height < (note_at audit b).height) kids
  lower_kids =
      each_kid graph image roles.nodes 8 tree_is (λ c. (note_at audit c).height < (note_at audit b).height) b sound.rules
      (λ c child clean_kid. has.known.above b c roles.nodes 8 has.tree.is_role reached child)

-- the mark of a node, by the marks of the blocks that it names
by_names : (graph : Graph) (image : List (List ℕ)) (roles : ArrayRoles) (b role : ℕ) (counts : ℕ → List ℕ) (cs : List ℕ) (marks : ℕ → ArrayMark) → Names graph image roles b role counts cs
    → AllByRecursion (λ c. marks c ≡ mark_of (most_of roles) (counts c)) cs
    → joined (most_of roles) marks no_mark (blocks_of_edges (graph.edges roles.nodes b (block_at image b))) ≡ mark_of (most_of roles) (counts_below graph image roles b)
by_names graph image roles b role counts cs marks names each =
    ap (joined (most_of roles) marks no_mark) names.edges
    ∙ (joined_marks (most_of roles) marks counts cs [] each ∙ ap (mark_of (most_of roles)) (sym names.below))

-- another mark changes nothing elsewhere
pub other_mark : (c b : ℕ) (mark old new : ArrayMark) → new ≡ cond (nat_eq c b) mark old → (c ≡ b → ⊥) → new ≡ old
other_mark c b mark old new is ne = is ∙ ap (λ (t : Bool). cond t mark old) (ne_eqb c b ne)

pub this_mark : (b : ℕ) (mark old new : ArrayMark) → new ≡ cond (nat_eq b b) mark old → new ≡ mark
this_mark b mark old new is = is ∙ ap (λ (t : Bool). cond t mark old) (eq-eqb b b refl)

-- another mark of a node is none of a block of arrays with nodes in another role
pub blocks_kept : (audit : Audit) (roles : ArrayRoles) (b : ℕ) (mark : ArrayMark) (old new : ArrayMarks) → roles.nodes < 16 → b < blocks_of audit
    → has_bit (roles_at audit b) roles.nodes ≡ true → ((c : ℕ) → mark_at new c ≡ cond (nat_eq c b) mark (mark_at old c)) → KeepsBlocks audit roles old new
blocks_kept audit roles b mark old new few within met sets = λ graph image others known apart counted. record {
  blocks = λ c there. elim (cases_eq c b) [
    | inl same ↦
        let number = known.number in
        let block : c < graph.nr = omega arith in
        let here : has_bit (roles_at audit c) roles.nodes ≡ true = subst (λ (d : ℕ). has_bit (roles_at audit d) roles.nodes ≡ true) (sym same) met in
        let node : IsReached graph image c roles.nodes = record { block = block; within = few; found = sym (known.roles c roles.nodes block few) ∙ here } in
        absurd (apart (known.alone c roles.nodes others.blocks node there))
    | inr ne ↦ other_mark c b mark (mark_at old c) (mark_at new c) (sets c) ne ∙ counted.blocks c there
  ];
}

module _ (graph : Graph) (image : List (List ℕ)) (audit : Audit) (roles : ArrayRoles) (has : HasArrays graph image audit roles) where
  -- a block that was met in a role is reached in it
  pub reached_if_met : (b role : ℕ) → b < graph.nr → role < 16 → has_bit (roles_at audit b) role ≡ true → IsReached graph image b role
  reached_if_met b role within few met = record { block = within; within = few; found = sym (has.known.roles b role within few) ∙ met }

  met_if_reached : (b role : ℕ) → IsReached graph image b role → has_bit (roles_at audit b) role ≡ true
  met_if_reached b role reached = has.known.roles b role reached.block reached.within ∙ reached.found

  -- the mark of a node of this height, where lower ones are marked
  node_mark : (b height before : ℕ) (marks : ArrayMarks) → IsReached graph image b roles.nodes → (note_at audit b).height ≡ height
      → IsSoundTree graph image (pair b roles.nodes)
      → AllByRecursion (λ (e : Edge). IsReached graph image e.block e.role) (graph.edges roles.nodes b (block_at image b))
      → AreMarkedTo graph image audit roles height before marks
      → joined (most_of roles) (mark_at marks) no_mark (blocks_of_edges (graph.edges roles.nodes b (block_at image b)))
      ≡ mark_of (most_of roles) (counts_below graph image roles b)
  node_mark b height before marks reached at_height sound leads marked = elim (cases_Bool (is_inner_node (block_at image b))) [
    | inl inner ↦
        let names = inner_names graph image audit roles has b reached sound leads inner in
        by_names graph image roles b roles.nodes (counts_below graph image roles) _ (mark_at marks) names
        (all_from_two (λ c. IsReached graph image c roles.nodes) (λ c. (note_at audit c).height < (note_at audit b).height)
        (λ c. mark_at marks c ≡ mark_of (most_of roles) (counts_below graph image roles c))
        (λ c there lower. marked.nodes c there (inl (omega arith))) _ names.reached (lower_kids graph image audit roles has b reached sound leads))
    | inr leaf ↦
        let names = leaf_names graph image audit roles has b reached sound leads leaf in
        by_names graph image roles b roles.blocks _ _ (mark_at marks) names
        (all_from (λ c. IsReached graph image c roles.blocks) _ (λ c there. marked.counted.blocks c there) _ names.reached)
  ]

  -- the mark that was put together from what the bytes of such a node name
  pub node_right : (contents : Contents) (b height most : ℕ) (block : List ℕ) (mark : ArrayMark) (marks : ArrayMarks)
      → ((graph : Graph) (image : List (List ℕ)) (b role : ℕ) → IsLawful graph → AreInOrder graph image → IsReached graph image b role → IsSoundTree graph image (pair b role))
      → ((graph : Graph) (image : List (List ℕ)) (b role : ℕ) → IsLawful graph → IsReached graph image b role
      → AllByRecursion (λ (e : Edge). IsReached graph image e.block e.role) (graph.edges role b (block_at image b)))
      → AreContents graph contents → roles.nodes < graph.roles → IsReached graph image b roles.nodes → (note_at audit b).height ≡ height
      → slice_get image b ≡ Some block → most ≡ most_of roles
      → mark ≡ joined most (mark_at marks) no_mark (blocks_of_edges (contents.edges roles.nodes block))
      → AreMarkedTo graph image audit roles height b marks → mark ≡ mark_of (most_of roles) (counts_below graph image roles b)
  node_right contents b height most block mark marks sounds leads told known reached at_height found is_most is before =
      let here : block_at image b ≡ block = ap (λ (o : Option (List ℕ)). unwrap_or o []) found in
      let sound : IsSound graph roles.nodes b block = subst (IsSound graph roles.nodes b) here (has.ordered.well_formed b roles.nodes reached) in
      let same : contents.edges roles.nodes block ≡ graph.edges roles.nodes b (block_at image b) =
      sym (told.edges roles.nodes b block known sound) ∙ ap (graph.edges roles.nodes b) (sym here) in
      is
      ∙ (ap (λ (m : ℕ). joined m (mark_at marks) no_mark (blocks_of_edges (contents.edges roles.nodes block))) is_most
      ∙ (ap (λ (edges : List Edge). joined (most_of roles) (mark_at marks) no_mark (blocks_of_edges edges)) same
      ∙ node_mark b height b marks reached at_height (sounds graph image b roles.nodes has.known.lawful has.ordered reached) (leads graph image b roles.nodes has.known.lawful reached) before))

  -- one node more
  pub marked_more : (b height : ℕ) (mark : ArrayMark) (old new : ArrayMarks) → IsReached graph image b roles.nodes → (note_at audit b).height ≡ height
      → mark ≡ mark_of (most_of roles) (counts_below graph image roles b)
      → ((c : ℕ) → mark_at new c ≡ cond (nat_eq c b) mark (mark_at old c))
      → AreMarkedTo graph image audit roles height b old → AreMarkedTo graph image audit roles height (b + 1) new
  marked_more b height mark old new reached at_height right sets before = record {
    counted =
        blocks_kept audit roles b mark old new reached.within (let number = has.known.number in let block = reached.block in omega arith)
        (met_if_reached b roles.nodes reached) sets graph image roles has.known has.apart before.counted;
    nodes = λ c there at. elim (cases_eq c b) [
      | inl same ↦
          subst (λ (d : ℕ). mark_at new d ≡ mark_of (most_of roles) (counts_below graph image roles d)) (sym same)
          (this_mark b mark (mark_at old b) (mark_at new b) (sets b) ∙ right)
      | inr ne ↦ other_mark c b mark (mark_at old c) (mark_at new c) (sets c) ne ∙ before.nodes c there (earlier c at ne)
    ];
  }
    where
      earlier : (c : ℕ) → ((note_at audit c).height < height) ⊎ (((note_at audit c).height ≡ height) × (c < b + 1)) → (c ≡ b → ⊥)
          → ((note_at audit c).height < height) ⊎ (((note_at audit c).height ≡ height) × (c < b))
      earlier c (inl lower) ne = inl lower
      earlier c (inr at) ne = inr (at.0, let low = at.1 in omega arith)

  -- a block that isn't such a node
  pub marked_still : (b height : ℕ) (marks : ArrayMarks) → (has_bit (roles_at audit b) roles.nodes && nat_eq (note_at audit b).height height) ≡ false
      → AreMarkedTo graph image audit roles height b marks → AreMarkedTo graph image audit roles height (b + 1) marks
  marked_still b height marks other before = record {
    counted = before.counted;
    nodes = λ c there at. before.nodes c there (earlier c there at);
  }
    where
      earlier : (c : ℕ) → IsReached graph image c roles.nodes → ((note_at audit c).height < height) ⊎ (((note_at audit c).height ≡ height) × (c < b + 1))
          → ((note_at audit c).height < height) ⊎ (((note_at audit c).height ≡ height) × (c < b))
      earlier c there (inl lower) = inl lower
      earlier c there (inr at) = elim (cases_eq c b) [
        | inl same ↦
            absurd (both_ways _ other
            (and_from _ _ (subst (λ (d : ℕ). has_bit (roles_at audit d) roles.nodes ≡ true) same (met_if_reached c roles.nodes there))
            (subst (λ (d : ℕ). nat_eq (note_at audit d).height height ≡ true) same (eq-eqb (note_at audit c).height height at.0))))
        | inr ne ↦ inr (at.0, let low = at.1 in omega arith)
      ]

  -- the next height
  pub level_done : (height before : ℕ) (marks : ArrayMarks) → graph.nr ≤ before → AreMarkedTo graph image audit roles height before marks
      → AreMarkedTo graph image audit roles (height + 1) 0 marks
  level_done height before marks all done = record {
    counted = done.counted;
    nodes = λ c there at. done.nodes c there (here c there at);
  }
    where
      here : (c : ℕ) → IsReached graph image c roles.nodes → ((note_at audit c).height < height + 1) ⊎ (((note_at audit c).height ≡ height + 1) × (c < 0))
          → ((note_at audit c).height < height) ⊎ (((note_at audit c).height ≡ height) × (c < before))
      here c there (inl lower) = elim (cases_lt (note_at audit c).height height) [
        | inl less ↦ inl less
        | inr more ↦ inr (omega arith, let block = there.block in omega arith)
      ]
      here c there (inr at) = absurd (let none = at.1 in omega arith)

  -- behind the last height
  pub all_marked : (levels : ℕ) (marks : ArrayMarks)
      → ((b : ℕ) → b < graph.nr → has_bit (roles_at audit b) roles.nodes ≡ true → (note_at audit b).height ≤ 64 → (note_at audit b).height < levels)
      → AreMarkedTo graph image audit roles levels 0 marks → AreMarked graph image roles marks
  all_marked levels marks above done = record {
    nodes = λ c there.
        done.nodes c there (inl (above c there.block (met_if_reached c roles.nodes there) (has.known.low c roles.nodes 8 has.tree.is_role there)));
  }
