-- What the settling of a pool's trees tells of their roots.
use Rattle.std.proofs.Common.{◌≡◌, ◌⊎◌, inl, inr, ℕ, ◌<◌, ◌≤◌, min, Bool, true, false, ◌&&◌, ◌||◌, not, cond, List, [], ◌∷◌, length, refl, sym, ◌∙◌, ap, arith, nat_lt, subst}
use Rattle.std.specs.List.{list_any, list_all, flat_map, AllByRecursion}
use Rattle.std.proofs.lemmas.Bool.{cases_eq, both_ways, or_parts, or_from, and_right, and_parts, lt-ltb, not-true}
use Rattle.pd_kinds.specs.declared.limits.TheConstants.{MAX_META_BLOCKS}
use Rattle.pd_kinds.specs.Rule.{same_rule, Test, failing, alone, all_rules}
use Rattle.pd_kinds.specs.Field.{has_checksum}
use Rattle.pd_kinds.specs.Graph.{Edge, is_outside, block_at, Graph, pair}
use Rattle.pd_kinds.specs.Node.{Entry, node_salt, node_tests, is_inner_node}
use Rattle.pd_kinds.specs.Layout.{Layout, Tree, tree, is_bad, is_tree_layout, layout_bad, layout_edges, tree_bad, tree_tests, tree_edges, node_entries_of, graph_of}
use Rattle.pd_kinds.specs.ThinFormat.{thin_layout}
use Rattle.pd_kinds.specs.Lawful.{IsLawful, IsWithin}
use Rattle.pd_kinds.proofs.SoundLemmas.{none_broken}
use Rattle.pd_kinds.specs.declared.rule.Rule.TheVariants as r
use Rattle.pd_laid.specs.FoundRoots.{lost_graph, is_sound_tree}
use Rattle.pd_graph.specs.declared.notes.Notes.{Notes}
use Rattle.pd_graph.specs.Notes.{size_of, note_in}
use Rattle.pd_graph.specs.Format.{Contents, AreContents, IsSound}
use Rattle.pd_settle.specs.Settled.{is_good_node, is_fit, AreFit, AreSettledIn}
use Rattle.pd_settle.specs.Looking.{blocks_of_edges}
use Rattle.pd_tree.specs.Search.{IsTreeRole, IsTreeTo}
use Rattle.pd_scan.specs.Lost.{is_unbroken, is_fit_root, ShareChecksum, is_between, AreJudged, IsPool, AreRoots, AreSettledTrees}
use Rattle.pd_scan.specs.Partners.{is_noted_good, keeps_roots}
use Rattle.pd_scan.proofs.SoundLemmas.{good_is_sound}

-- Leaves that name no block, leaves that name trees, and the checksum of a node in each of the roles.

none_named : (f : Entry → List Edge) → ((e : Entry) → f e ≡ []) → (es : List Entry) → flat_map f es ≡ []
none_named f none [] = refl
none_named f none (e ∷ es) = rw (none e, none_named f none es) refl

leaf_tests : (test : Edge → Bool) (bad inner : Bool) (named leaf : List Edge) → leaf ≡ []
    → ((true && (not bad && inner)) || list_all test (cond bad [] (cond inner named leaf))) ≡ true
leaf_tests test true inner named leaf none = refl
leaf_tests test false true named leaf none = refl
leaf_tests test false false named leaf none = ap (list_all test) none

-- a node of such a tree is inner, or names nothing
names_nothing : (roles nr data_blocks : ℕ) (layout : ℕ → Layout) (t : Tree) (role b : ℕ) (block : List ℕ) (test : Edge → Bool) → layout role ≡ tree t
    → ((e : Entry) → t.leaf_edges e ≡ [])
    → ((graph_of roles nr data_blocks layout).is_inner role b block || list_all test ((graph_of roles nr data_blocks layout).edges role b block)) ≡ true
unfolding graph_of tree_edges
names_nothing roles nr data_blocks layout t role b block test is_tree none =
    ap (λ (l : Layout). (is_tree_layout l && (not (is_bad nr role l b block) && is_inner_node block)) || list_all test (cond (is_bad nr role l b block) [] (layout_edges nr role l block))) is_tree
    ∙ leaf_tests test (is_bad nr role (tree t) b block) (is_inner_node block) _ (flat_map t.leaf_edges (node_entries_of t.size block))
    (none_named t.leaf_edges none (node_entries_of t.size block))

and_more : (a b c : Bool) → c ≡ true → (a && (b && c)) ≡ (a && b)
and_more a true c e = ap (λ (x : Bool). a && x) e
and_more a false c e = refl

pub leads_nowhere_in : (nr data_blocks : ℕ) (image : List (List ℕ)) (role b : ℕ) → (role ≡ 3) ⊎ (role ≡ 4)
    → is_fit_root (graph_of 11 nr data_blocks (thin_layout nr data_blocks)) image role b
    ≡ (not (is_outside (graph_of 11 nr data_blocks (thin_layout nr data_blocks)).nr b)
    && is_unbroken (graph_of 11 nr data_blocks (thin_layout nr data_blocks)) role b (block_at image b))
unfolding is_fit_root thin_layout
leads_nowhere_in nr data_blocks image role b (inl same) =
    and_more _ _ _
    (names_nothing 11 nr data_blocks (thin_layout nr data_blocks) _ role b (block_at image b)
    (λ (e : Edge). is_sound_tree (graph_of 11 nr data_blocks (thin_layout nr data_blocks)) image e.role e.block)
    (ap (thin_layout nr data_blocks) same) (λ e. refl))
leads_nowhere_in nr data_blocks image role b (inr same) =
    and_more _ _ _
    (names_nothing 11 nr data_blocks (thin_layout nr data_blocks) _ role b (block_at image b)
    (λ (e : Edge). is_sound_tree (graph_of 11 nr data_blocks (thin_layout nr data_blocks)) image e.role e.block)
    (ap (thin_layout nr data_blocks) same) (λ e. refl))

pub leads_nowhere : (image : List (List ℕ)) (data_blocks role b : ℕ) → (role ≡ 3) ⊎ (role ≡ 4)
    → is_fit_root (lost_graph image data_blocks) image role b
    ≡ (not (is_outside (lost_graph image data_blocks).nr b) && is_unbroken (lost_graph image data_blocks) role b (block_at image b))
unfolding lost_graph
leads_nowhere image data_blocks role b which = leads_nowhere_in (min (length image) MAX_META_BLOCKS) data_blocks image role b which

-- a leaf of a top names only trees of devices
leaf_list : (P : Edge → Type 0) (bad inner : Bool) (named leaf : List Edge) → (true && (not bad && inner)) ≡ false → AllByRecursion P leaf
    → AllByRecursion P (cond bad [] (cond inner named leaf))
leaf_list P true inner named leaf e all = tt
leaf_list P false true named leaf e all = absurd (both_ways true e refl)
leaf_list P false false named leaf e all = all

named_devices : (es : List Entry) → AllByRecursion (λ (e : Edge). e.role ≡ 3) (flat_map (λ (x : Entry). record { role = 3; block = x.value } ∷ []) es)
named_devices [] = tt
named_devices (x ∷ xs) = (refl, named_devices xs)

pub leaf_names_devices : (nr data_blocks b : ℕ) (block : List ℕ) → (graph_of 11 nr data_blocks (thin_layout nr data_blocks)).is_inner 2 b block ≡ false
    → AllByRecursion (λ (e : Edge). e.role ≡ 3) ((graph_of 11 nr data_blocks (thin_layout nr data_blocks)).edges 2 b block)
unfolding graph_of thin_layout tree_edges
leaf_names_devices nr data_blocks b block leaf =
    leaf_list (λ (e : Edge). e.role ≡ 3) (is_bad nr 2 (thin_layout nr data_blocks 2) b block) (is_inner_node block) _ _ leaf (named_devices (node_entries_of 8 block))

-- a wrong checksum is the same in each tree
no_checksum : (tests : List Test) → list_any (λ (t : Test). same_rule t.rule r.Checksum) tests ≡ false → failing tests r.Checksum ≡ false
unfolding failing
no_checksum [] none = refl
no_checksum (test ∷ tests) none =
    let parts = or_parts (same_rule test.rule r.Checksum) _ none in
    or_from (test.fails && same_rule test.rule r.Checksum) (failing tests r.Checksum)
    (ap (λ (x : Bool). test.fails && x) parts.0 ∙ and_right test.fails false refl) (no_checksum tests parts.1)

picked : (f o : Bool) → o ≡ false → cond f true o ≡ f
picked true o e = refl
picked false o e = e

tree_checksum : (nr role place : ℕ) (t : Tree) (block : List ℕ) → tree_bad nr role t place block r.Checksum ≡ not (has_checksum block node_salt)
unfolding tree_bad tree_tests node_tests alone
tree_checksum nr role place t block = picked (not (has_checksum block node_salt)) _ (no_checksum (tree_tests nr role t place block) refl)

checksum_at : (nr data_blocks role place : ℕ) (block : List ℕ) → 2 ≤ role → role < 5
    → (graph_of 11 nr data_blocks (thin_layout nr data_blocks)).bad role place block r.Checksum ≡ not (has_checksum block node_salt)
unfolding graph_of thin_layout
checksum_at nr data_blocks role place block low high = elim (cases_eq role 2) [
  | inl e ↦ ap (λ (s : ℕ). layout_bad nr s (thin_layout nr data_blocks s) place block r.Checksum) e ∙ tree_checksum nr 2 place _ block
  | inr other ↦ elim (cases_eq role 3) [
    | inl e ↦ ap (λ (s : ℕ). layout_bad nr s (thin_layout nr data_blocks s) place block r.Checksum) e ∙ tree_checksum nr 3 place _ block
    | inr ne ↦
        ap (λ (s : ℕ). layout_bad nr s (thin_layout nr data_blocks s) place block r.Checksum) (let e : role ≡ 4 = omega arith in e)
        ∙ tree_checksum nr 4 place _ block
  ]
]

pub shares : (nr data_blocks : ℕ) → ShareChecksum (graph_of 11 nr data_blocks (thin_layout nr data_blocks)) 2 5
shares nr data_blocks = record {
  same = λ role place block low high.
      checksum_at nr data_blocks role place block low high ∙ sym (checksum_at nr data_blocks 2 place block (omega arith) (omega arith));
}

-- what holds of each pool's format
pub pool_shares : (roles : ℕ) (graph : Graph) → IsPool roles graph → ShareChecksum graph 2 5
pool_shares roles graph is = subst (λ (g : Graph). ShareChecksum g 2 5) (sym is.format) (shares graph.nr graph.data_blocks)

pool_nowhere : (roles : ℕ) (graph : Graph) (image : List (List ℕ)) (role b : ℕ) → IsPool roles graph → (role ≡ 3) ⊎ (role ≡ 4)
    → is_fit_root graph image role b ≡ (not (is_outside graph.nr b) && is_unbroken graph role b (block_at image b))
pool_nowhere roles graph image role b is which =
    subst (λ (g : Graph). is_fit_root g image role b ≡ (not (is_outside g.nr b) && is_unbroken g role b (block_at image b))) (sym is.format)
    (leads_nowhere_in graph.nr graph.data_blocks image role b which)

pool_leaf : (roles : ℕ) (graph : Graph) (b : ℕ) (block : List ℕ) → IsPool roles graph → graph.is_inner 2 b block ≡ false
    → AllByRecursion (λ (e : Edge). e.role ≡ 3) (graph.edges 2 b block)
pool_leaf roles graph b block is =
    subst (λ (g : Graph). g.is_inner 2 b block ≡ false → AllByRecursion (λ (e : Edge). e.role ≡ 3) (g.edges 2 b block)) (sym is.format)
    (leaf_names_devices graph.nr graph.data_blocks b block)

sound_of : (graph : Graph) (role b : ℕ) (block : List ℕ) → is_unbroken graph role b block ≡ true → IsSound graph role b block
unfolding is_unbroken
sound_of graph role b block unbroken = none_broken (graph.bad role b block) (not-true (list_any (graph.bad role b block) all_rules) unbroken)

-- the trees of a pool
pool_role : {t : Tree} → (roles role : ℕ) (graph : Graph) → IsPool roles graph → thin_layout graph.nr graph.data_blocks role ≡ tree t → role < 16 → IsTreeRole graph role t.size
pool_role {t} roles role graph is at few =
    record { roles = 11; nr = graph.nr; data_blocks = graph.data_blocks; layout = thin_layout graph.nr graph.data_blocks; nodes = t; is = is.format; at = at; value_size = refl; few = few }

pub tops_role : (roles : ℕ) (graph : Graph) → IsPool roles graph → IsTreeTo graph 2 8 3 (λ v. v)
unfolding thin_layout pool_role
tops_role roles graph is = record { is_role = pool_role roles 2 graph is refl (omega arith); leads = refl }

pub devices_role : (roles : ℕ) (graph : Graph) → IsPool roles graph → IsTreeRole graph 3 8
unfolding thin_layout
devices_role roles graph is = pool_role roles 3 graph is refl (omega arith)

pub details_role : (roles : ℕ) (graph : Graph) → IsPool roles graph → IsTreeRole graph 4 24
unfolding thin_layout
details_role roles graph is = pool_role roles 4 graph is refl (omega arith)

-- notes that were settled by a table are settled by what a root must be
module _ (graph : Graph) (image : List (List ℕ)) (role size : ℕ) (fit : ℕ → Bool) (notes : Notes) (lawful : IsLawful graph) (known : role < graph.roles)
    (told : (b : ℕ) → b < graph.nr → fit b ≡ is_fit_root graph image role b) where
  by_roots : (b : ℕ) → b < graph.nr → is_good_node graph image (is_fit_root graph image role) true (pair b role) ≡ is_sound_tree graph image role b
  by_roots b small = good_is_sound graph image lawful role (is_fit_root graph image role) known (λ c less. refl) b small

  same_good : (b : ℕ) → b < graph.nr → is_good_node graph image fit true (pair b role) ≡ is_good_node graph image (is_fit_root graph image role) true (pair b role)
  same_good b small = good_is_sound graph image lawful role fit known told b small ∙ sym (by_roots b small)

  roots_fit : AreFit graph image role (is_fit_root graph image role)
  unfolding is_fit_root
  roots_fit = record { sound = λ b small e. sound_of graph role b (block_at image b) (and_parts _ _ (and_parts _ _ e).1).0 }

  settled_by_roots : AreSettledIn graph image role fit notes → AreSettledIn graph image role (is_fit_root graph image role) notes
  settled_by_roots settled = record {
    known = settled.known;
    height = λ b small. settled.height b small ∙ same_good b small;
    least = λ b small good. settled.least b small (same_good b small ∙ good);
    greatest = λ b small good. settled.greatest b small (same_good b small ∙ good);
    below = λ b small good. settled.below b small (same_good b small ∙ good);
    few = λ b small good. settled.few b small (same_good b small ∙ good);
    above = λ b p small good leads. settled.above b p small (same_good b small ∙ good) leads;
  }

  -- and they tell of the roots
  roots_by : AreSettledIn graph image role (is_fit_root graph image role) notes → AreRoots graph image role notes
  roots_by settled = record {
    known = settled.known;
    sound = λ b small. settled.height b small ∙ by_roots b small;
    least = λ b small sound. settled.least b small (by_roots b small ∙ sound);
    greatest = λ b small sound. settled.greatest b small (by_roots b small ∙ sound);
    below = λ b small sound. settled.below b small (by_roots b small ∙ sound);
  }

  pub settled_trees : IsTreeRole graph role size → size_of notes ≡ graph.nr → AreSettledIn graph image role fit notes → AreSettledTrees graph image role size notes
  settled_trees is number settled = record {
    trees = record { lawful = lawful; known = known; tree = is; number = number; sound = roots_fit; settled = settled_by_roots settled };
    roots = roots_by (settled_by_roots settled);
  }

-- the table of the blocks that are fit by themselves
between_at : (role : ℕ) → (role ≡ 3) ⊎ (role ≡ 4) → is_between 2 5 role ≡ true
between_at role (inl e) = ap (is_between 2 5) e
between_at role (inr e) = ap (is_between 2 5) e

small_role : (role : ℕ) → (role ≡ 3) ⊎ (role ≡ 4) → role < 16
small_role role (inl e) = omega arith
small_role role (inr e) = omega arith

module _ (graph : Graph) (image : List (List ℕ)) (fit : List ℕ) (judged : AreJudged graph image 2 5 fit) where
  judged_is : (role b : ℕ) → (role ≡ 3) ⊎ (role ≡ 4) → b < graph.nr → is_fit fit role b ≡ (not (is_outside graph.nr b) && is_unbroken graph role b (block_at image b))
  judged_is role b which small =
      judged.fits role b (small_role role which) small
      ∙ ap (λ (x : Bool). x && (not (is_outside graph.nr b) && is_unbroken graph role b (block_at image b))) (between_at role which)

  pub judged_fit : (role : ℕ) → (role ≡ 3) ⊎ (role ≡ 4) → AreFit graph image role (is_fit fit role)
  judged_fit role which = record {
    sound = λ b small e.
        sound_of graph role b (block_at image b)
        (and_parts (not (is_outside graph.nr b)) (is_unbroken graph role b (block_at image b)) (sym (judged_is role b which small) ∙ e)).1;
  }

  pub judged_root : (roles role : ℕ) → IsPool roles graph → (role ≡ 3) ⊎ (role ≡ 4) → (b : ℕ) → b < graph.nr → is_fit fit role b ≡ is_fit_root graph image role b
  judged_root roles role is which b small = judged_is role b which small ∙ sym (pool_nowhere roles graph image role b is which)

  judged_top : (b : ℕ) → b < graph.nr → is_fit fit 2 b ≡ (not (is_outside graph.nr b) && is_unbroken graph 2 b (block_at image b))
  judged_top b small = judged.fits 2 b (omega arith) small

  -- of a top also the roots that it names
  module _ (roles : ℕ) (is : IsPool roles graph) (lawful : IsLawful graph) (known : 2 < graph.roles) (contents : Contents) (told : AreContents graph contents)
      (devices : Notes) (number : size_of devices ≡ graph.nr) (are : AreRoots graph image 3 devices) where
    good_named : (es : List Edge) → AllByRecursion (IsWithin graph) es → AllByRecursion (λ (e : Edge). e.role ≡ 3) es
        → list_all (is_noted_good devices) (blocks_of_edges es) ≡ list_all (λ (e : Edge). is_sound_tree graph image e.role e.block) es
    good_named [] all named = refl
    good_named (x ∷ xs) all named =
        let first = all.0 in
        let below = first.below in
        let one : is_noted_good devices x.block ≡ is_sound_tree graph image x.role x.block =
        ap (λ (y : Bool). y && nat_lt (note_in devices x.block).height 65) (lt-ltb x.block (size_of devices) (omega arith))
        ∙ (are.sound x.block below ∙ ap (λ (role : ℕ). is_sound_tree graph image role x.block) (sym named.0)) in
        ap (λ (y : Bool). y && list_all (is_noted_good devices) (blocks_of_edges xs)) one
        ∙ ap (λ (y : Bool). is_sound_tree graph image x.role x.block && y) (good_named xs all.1 named.1)

    named_by : (b : ℕ) (inner : Bool) → graph.is_inner 2 b (block_at image b) ≡ inner
        → (inner || list_all (is_noted_good devices) (blocks_of_edges (graph.edges 2 b (block_at image b))))
        ≡ (inner || list_all (λ (e : Edge). is_sound_tree graph image e.role e.block) (graph.edges 2 b (block_at image b)))
    named_by b true e = refl
    named_by b false e =
        good_named (graph.edges 2 b (block_at image b)) (lawful.each 2 b (block_at image b) known).within (pool_leaf roles graph b (block_at image b) is e)

    keeps_told : (b : ℕ) → is_unbroken graph 2 b (block_at image b) ≡ true
        → keeps_roots contents devices 2 (block_at image b)
        ≡ (graph.is_inner 2 b (block_at image b) || list_all (λ (e : Edge). is_sound_tree graph image e.role e.block) (graph.edges 2 b (block_at image b)))
    keeps_told b unbroken =
        let sound = sound_of graph 2 b (block_at image b) unbroken in
        ap (λ (x : Bool). x || list_all (is_noted_good devices) (blocks_of_edges (contents.edges 2 (block_at image b)))) (sym (told.is_inner 2 b (block_at image b) known sound))
        ∙ (ap (λ (es : List Edge). graph.is_inner 2 b (block_at image b) || list_all (is_noted_good devices) (blocks_of_edges es)) (sym (told.edges 2 b (block_at image b) known sound))
        ∙ named_by b (graph.is_inner 2 b (block_at image b)) refl)

    join : (a b k x : Bool) → (b ≡ true → k ≡ x) → ((a && b) && k) ≡ (a && (b && x))
    join true true k x same = same refl
    join true false k x same = refl
    join false b k x same = refl

    pub top_root : (b : ℕ) → b < graph.nr → (is_fit fit 2 b && keeps_roots contents devices 2 (block_at image b)) ≡ is_fit_root graph image 2 b
    unfolding is_fit_root
    top_root b small =
        ap (λ (x : Bool). x && keeps_roots contents devices 2 (block_at image b)) (judged_top b small)
        ∙ join (not (is_outside graph.nr b)) (is_unbroken graph 2 b (block_at image b)) (keeps_roots contents devices 2 (block_at image b)) _ (keeps_told b)

  pub top_fit : (later : List ℕ) (keeps : ℕ → Bool) → ((b : ℕ) → b < graph.nr → is_fit later 2 b ≡ (is_fit fit 2 b && keeps b)) → AreFit graph image 2 (is_fit later 2)
  top_fit later keeps same = record {
    sound = λ b small e.
        let before = (and_parts (is_fit fit 2 b) (keeps b) (sym (same b small) ∙ e)).0 in
        sound_of graph 2 b (block_at image b)
        (and_parts (not (is_outside graph.nr b)) (is_unbroken graph 2 b (block_at image b)) (sym (judged_top b small) ∙ before)).1;
  }
