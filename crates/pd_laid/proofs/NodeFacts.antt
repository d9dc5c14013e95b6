-- What is known of a reached node of a tree where no reached pair breaks a rule: it isn't damaged, and its children
-- are reached nodes of the tree.
use Rattle.std.proofs.Common.{◌≡◌, inl, inr, ℕ, zero, suc, ◌+◌, ◌*◌, ◌<◌, ◌≤◌, Bool, true, false, not, nat_eq, List, [], ◌∷◌, map, refl, sym, ◌∙◌, ap, subst, eq-eqb, zero-add, zero-le, max, min, ◌^◌, arith}
use Rattle.std.specs.List.{AllByRecursion, list_any, flat_map, range_with_len}
use Rattle.std.proofs.lemmas.List.{append-nil}
use Rattle.std.proofs.lemmas.List.Folds.{flat_map-map}
use Rattle.std.proofs.Math.Path.{fun_ext}
use Rattle.std.proofs.lemmas.Bool.{cases_Bool, cases_lt, eqb-false, or_parts, or_left, or_right}
use Rattle.pd_kinds.specs.declared.rule.Rule.{Rule}
use Rattle.pd_kinds.specs.Rule.{all_rules, Test, failing, alone}
use Rattle.pd_kinds.specs.Field.{has_checksum}
use Rattle.pd_kinds.specs.Graph.{Edge, is_outside, has_edge_outside, Graph, block_at, pair, block_of, role_of, next, own_keys, is_inner_pair, is_reached, children, has_chain, gathered, keys_below, are_children_in_range, is_in_range, is_deep}
use Rattle.pd_kinds.specs.Node.{Entry, node_salt, node_tests, node_bad, node_keys, entry_count, key_at, value_at, child_at, is_inner_node}
use Rattle.pd_kinds.specs.Layout.{Layout, Tree, graph_of, is_bad, layout_bad, is_tree_layout, tree_edges, tree_tests, tree_bad, node_entries_of, leaf_entries}
use Rattle.pd_kinds.specs.Layout.Layout.{tree}
use Rattle.pd_kinds.specs.Paths.{edge}
use Rattle.pd_kinds.specs.Stages.{IsReached}
use Rattle.pd_kinds.specs.InOrder.{AreInOrder}
use Rattle.pd_kinds.proofs.ListLemmas.{all_from, all_from_two, all_map, all_of, none_passes}
use Rattle.pd_kinds.proofs.SoundLemmas.{IsSound, tests_after_one, inside_from}
use Rattle.pd_kinds.proofs.PathLemmas.{path_from_reached, reached_from_path, passes_below}
use Rattle.pd_kinds.specs.Trees.{entries_below}
use Rattle.pd_kinds.proofs.FieldLemmas.{le-lt}
use Rattle.pd_kinds.specs.Image.{HasBytes}
use Rattle.pd_kinds.proofs.KindsListLemmas.{all_first, all_last, any-map}
use Rattle.pd_kinds.proofs.NumberLemmas.{both_hold}
use Rattle.pd_kinds.specs.declared.rule.Rule.TheVariants as r
use Rattle.pd_laid.specs.Salvage.{is_damaged, child_low, child_high, salvaged_entries, Visit, entries_of_visit, visited, visits}
use Rattle.pd_laid.proofs.GatherLemmas.{AreFrom, AreBelow, from_test, below_test, kept_in_range, all_at, all_joined, same_joined, same_each, map_joined, gathered_flat, gathered_leaf, gathered_inner, stable, child_range, visits_give}

-- no element passes
pub none_pass : {X : Type 0} → (p : X → Bool) (xs : List X) → ((x : X) → p x ≡ false) → list_any p xs ≡ false
none_pass p [] fails = refl
none_pass p (x ∷ xs) fails = rw (fails x, none_pass p xs fails) refl

-- a number below n doesn't pass where none does
pub none_at : (p : ℕ → Bool) (a n k : ℕ) → list_any p (range_with_len a n) ≡ false → a ≤ k → k < a + n → p k ≡ false
none_at p a zero k none from below = absurd (omega arith)
none_at p a (suc n) k none from below =
    let parts = or_parts (p a) (list_any p (range_with_len (a + 1) n)) none in
    elim (cases_lt a k) [
      | inl later ↦ none_at p (a + 1) n k parts.1 (omega arith) (omega arith)
      | inr here ↦ let same : a ≡ k = omega arith in rw same at parts.0
    ]

pub map-map : {X Y Z : Type 0} → (f : Y → Z) (g : X → Y) (xs : List X) → map f (map g xs) ≡ map (λ x. f (g x)) xs
map-map f g [] = refl
map-map f g (x ∷ xs) = rw (map-map f g xs) refl

-- a table of rules holds where it does with two more before it
fewer_tests : (fails : Bool) (one other : Test) (tests : List Test) (wanted : Rule)
    → alone r.Checksum fails (failing (one ∷ other ∷ tests)) wanted ≡ false → alone r.Checksum fails (failing tests) wanted ≡ false
unfolding alone failing
fewer_tests true one other tests wanted holds = holds
fewer_tests false one other tests wanted holds = (or_parts _ _ (or_parts _ _ holds).1).1

-- so a node of a tree that breaks no rule isn't damaged
pub undamaged : (nr role : ℕ) (t : Tree) (place : ℕ) (block : List ℕ) → IsSound (tree_bad nr role t place block) → is_damaged t.size place block ≡ false
unfolding tree_bad tree_tests node_bad is_damaged
undamaged nr role t place block sound =
    none_pass (alone r.Checksum (not (has_checksum block node_salt)) (failing (node_tests t.size place block))) all_rules (λ rule.
    fewer_tests (not (has_checksum block node_salt)) _ _ (node_tests t.size place block) rule (sound rule))

-- each element is among those that a list has, mapped
pub among_mapped : {X : Type 0} (f : X → ℕ) (xs : List X) → AllByRecursion (λ x. list_any (λ q. nat_eq q (f x)) (map f xs) ≡ true) xs
among_mapped f [] = tt
among_mapped f (x ∷ xs) = (
  or_left (nat_eq (f x) (f x)) _ (eq-eqb (f x) (f x) refl),
  all_from (λ y. list_any (λ q. nat_eq q (f y)) (map f xs) ≡ true) (λ y. list_any (λ q. nat_eq q (f y)) (f x ∷ map f xs) ≡ true)
      (λ y among. or_right (nat_eq (f x) (f y)) _ among) xs (among_mapped f xs),
)

-- lists that are joined, one for each element
pub all_parts : {X Y : Type 0} (P : Y → Type 0) (f : X → List Y) (xs : List X) → AllByRecursion P (flat_map f xs) → AllByRecursion (λ x. AllByRecursion P (f x)) xs
all_parts P f [] all = tt
all_parts P f (x ∷ xs) all = (all_first P (f x) (flat_map f xs) all, all_parts P f xs (all_last P (f x) (flat_map f xs) all))

-- keys from two numbers on, and below two
from_both : (low other : ℕ) (keys : List ℕ) → AreFrom low keys → AreFrom other keys → AreFrom (max low other) keys
from_both low other keys = all_from_two (λ k. low ≤ k) (λ k. other ≤ k) (λ k. max low other ≤ k) (λ k from also. omega arith) keys

below_both : (high other : ℕ) (keys : List ℕ) → AreBelow high keys → AreBelow other keys → AreBelow (min high other) keys
below_both high other keys = all_from_two (λ k. k < high) (λ k. k < other) (λ k. k < min high other) (λ k below also. omega arith) keys

-- lists of nothing
joined_none : {X : Type 0} (f : ℕ → List X) (a n : ℕ) → ((k : ℕ) → f k ≡ []) → flat_map f (range_with_len a n) ≡ []
joined_none f a zero none = refl
joined_none f a (suc n) none = rw (none a, joined_none f (a + 1) n none) refl

pub role_pair : (b role : ℕ) → role < 16 → role_of (pair b role) ≡ role
role_pair b role few = omega arith

pub block_pair : (b role : ℕ) → role < 16 → block_of (pair b role) ≡ b
block_pair b role few = omega arith

-- the entries below a node are those of its leaves
pub leaves_entries : (size : ℕ) (graph : Graph) (image : List (List ℕ)) (role b : ℕ)
    → entries_below graph image size role b
    ≡ flat_map (λ c. leaf_entries size (block_at image c)) (gathered (is_inner_pair graph image) (children graph image) (λ p. block_of p ∷ []) 63 (pair b role))
unfolding entries_below
leaves_entries size graph image role b =
    ap (λ (own : ℕ → List Entry). gathered (is_inner_pair graph image) (children graph image) own 63 (pair b role))
    (fun_ext (λ p. sym (append-nil (leaf_entries size (block_at image (block_of p))))))
    ∙ gathered_flat (λ c. leaf_entries size (block_at image c)) (is_inner_pair graph image) (children graph image) (λ p. block_of p ∷ []) 63 (pair b role)

module _ (roles nr data_blocks : ℕ) (layout : ℕ → Layout) (image : List (List ℕ)) (ordered : AreInOrder (graph_of roles nr data_blocks layout) image) where
  abbrev graph : Graph
  graph = graph_of roles nr data_blocks layout

  -- a pair that is named by a reached pair is reached
  pub reached_next : (b role c other : ℕ) → b < nr → role < 16 → c < nr → other < 16 → is_reached graph image (pair b role) ≡ true
      → list_any (λ q. nat_eq q (pair c other)) (next graph image (pair b role)) ≡ true → IsReached graph image c other
  unfolding is_reached graph_of
  reached_next b role c other inside few within known found leads = record {
    block = within;
    within = known;
    found =
        reached_from_path (16 * nr) (next graph image) (pair c other)
        (edge (pair b role) (pair c other) (omega arith) (path_from_reached (16 * nr) (next graph image) (16 * nr) (pair b role) found) leads);
  }

  module _ (t : Tree) (role : ℕ) (few : role < 16) (is : layout role ≡ tree t) where
    abbrev Reached : ℕ → Type 0
    Reached b = IsReached graph image b role

    pub sound_at : (b : ℕ) → Reached b → IsSound (tree_bad nr role t b (block_at image b))
    unfolding graph_of
    sound_at b reached rule = rw is at (ordered.well_formed b role reached rule)

    -- the tests of its rules hold
    pub tests_at : (b : ℕ) → Reached b → AllByRecursion (λ (test : Test). test.fails ≡ false) (tree_tests nr role t b (block_at image b))
    unfolding tree_bad
    tests_at b reached =
        tests_after_one r.Checksum (not (has_checksum (block_at image b) node_salt)) (tree_tests nr role t b (block_at image b)) (sound_at b reached)

    pub inside_at : (b : ℕ) → Reached b → has_edge_outside nr (tree_edges role t (block_at image b)) ≡ false
    unfolding tree_tests
    inside_at b reached = (tests_at b reached).1.0

    pub within_at : (b : ℕ) → Reached b → list_any t.is_beyond (leaf_entries t.size (block_at image b)) ≡ false
    unfolding tree_tests
    within_at b reached = (tests_at b reached).0

    pub not_bad : (b : ℕ) → Reached b → is_bad nr role (layout role) b (block_at image b) ≡ false
    unfolding is_bad graph_of
    not_bad b reached = none_pass (layout_bad nr role (layout role) b (block_at image b)) all_rules (ordered.well_formed b role reached)

    pub inner_is : (b : ℕ) → Reached b → is_inner_pair graph image (pair b role) ≡ is_inner_node (block_at image b)
    unfolding graph_of
    inner_is b reached =
        rw (role_pair b role few, block_pair b role few)
        (both_hold (is_tree_layout (layout role)) (is_bad nr role (layout role) b (block_at image b)) (is_inner_node (block_at image b)) (rw is refl) (not_bad b reached))

    -- what a node names, and its keys
    pub next_is : (b : ℕ) → Reached b
        → next graph image (pair b role) ≡ map (λ (e : Edge). pair e.block e.role) (tree_edges role t (block_at image b))
    unfolding graph_of next
    next_is b reached = rw (role_pair b role few, block_pair b role few, not_bad b reached, is) refl

    pub keys_are : (b : ℕ) → Reached b → own_keys graph image (pair b role) ≡ node_keys t.size (block_at image b)
    unfolding graph_of
    keys_are b reached = rw (role_pair b role few, block_pair b role few, not_bad b reached, is) refl

    -- the children of an inner node are its values
    pub children_are : (b : ℕ) → Reached b → is_inner_node (block_at image b) ≡ true
        → children graph image (pair b role)
        ≡ map (λ (i : ℕ). pair (child_at (block_at image b) i) role) (range_with_len 0 (entry_count t.size (block_at image b)))
    unfolding children tree_edges
    children_are b reached inner =
        let kinds = inner_is b reached in
        let named = next_is b reached in
        rw (kinds, inner) (rw inner at named
        ∙ map-map (λ (e : Edge). pair e.block e.role) (λ (i : ℕ). record { role = role; block = child_at (block_at image b) i }) (range_with_len 0 (entry_count t.size (block_at image b))))

    -- and they are reached
    pub child_inside : (b : ℕ) → Reached b → is_inner_node (block_at image b) ≡ true → (i : ℕ) → i < entry_count t.size (block_at image b)
        → is_outside nr (child_at (block_at image b) i) ≡ false
    unfolding has_edge_outside tree_edges
    child_inside b reached inner i small =
        let block = block_at image b in
        let none = rw inner at (inside_at b reached) in
        let spread = any-map (λ (e : Edge). is_outside nr e.block) (λ (i : ℕ). record { role = role; block = child_at block i }) (range_with_len 0 (entry_count t.size block)) in
        none_at (λ i. is_outside nr (child_at block i)) 0 (entry_count t.size block) i (sym spread ∙ none) (omega arith) (omega arith)

    pub child_reached : (b : ℕ) → Reached b → is_inner_node (block_at image b) ≡ true → (i : ℕ) → i < entry_count t.size (block_at image b)
        → Reached (child_at (block_at image b) i)
    unfolding tree_edges graph_of
    child_reached b reached inner i small =
        let block = block_at image b in
        let c = child_at block i in
        let inside = inside_from nr c (child_inside b reached inner i small) in
        let edges_are = map-map (λ (e : Edge). pair e.block e.role) (λ (i : ℕ). record { role = role; block = child_at block i }) (range_with_len 0 (entry_count t.size block)) in
        let named = rw inner at (next_is b reached) ∙ edges_are in
        let found = any-map (λ q. nat_eq q (pair c role)) (λ (i : ℕ). pair (child_at block i) role) (range_with_len 0 (entry_count t.size block)) in
        let here = passes_below (λ i. nat_eq (pair (child_at block i) role) (pair c role)) (entry_count t.size block) i small (eq-eqb (pair c role) (pair c role) refl) in
        reached_next b role c role reached.block few inside.1 few reached.found (ap (list_any (λ q. nat_eq q (pair c role))) named ∙ (found ∙ here))

    -- the keys and the entries below a node, and the chains of children that start at it
    abbrev pub keys_under : ℕ → ℕ → List ℕ
    keys_under j b = gathered (is_inner_pair graph image) (children graph image) (own_keys graph image) j (pair b role)

    abbrev pub HasNoChain : ℕ → ℕ → Type 0
    HasNoChain j b = has_chain (children graph image) j (pair b role) ≡ false

    -- the keys of a leaf are those of its entries
    leaf_keys : (b : ℕ) → Reached b → is_inner_node (block_at image b) ≡ false
        → own_keys graph image (pair b role) ≡ map (λ (e : Entry). e.key) (leaf_entries t.size (block_at image b))
    unfolding leaf_entries node_entries_of node_keys
    leaf_keys b reached leaf =
        keys_are b reached
        ∙ rw leaf (sym (map-map (λ (e : Entry). e.key) (λ (i : ℕ). record { key = key_at (block_at image b) i; value = value_at t.size (block_at image b) i }) (range_with_len 0 (entry_count t.size (block_at image b)))))

    -- what stands below an inner node stands below its children
    under_inner : {X : Type 0} (own : ℕ → List X) (j b : ℕ) → Reached b → is_inner_node (block_at image b) ≡ true
        → gathered (is_inner_pair graph image) (children graph image) own (suc j) (pair b role)
        ≡ flat_map (λ i. gathered (is_inner_pair graph image) (children graph image) own j (pair (child_at (block_at image b) i) role))
        (range_with_len 0 (entry_count t.size (block_at image b)))
    under_inner own j b reached inner =
        let below = gathered (is_inner_pair graph image) (children graph image) own j in
        gathered_inner (is_inner_pair graph image) (children graph image) own j (pair b role) (inner_is b reached ∙ inner)
        ∙ (ap (flat_map below) (children_are b reached inner)
        ∙ flat_map-map below (λ (i : ℕ). pair (child_at (block_at image b) i) role) (range_with_len 0 (entry_count t.size (block_at image b))))

    -- shorter chains start at the children
    child_chain : (j b : ℕ) → Reached b → is_inner_node (block_at image b) ≡ true → HasNoChain (suc j) b
        → (i : ℕ) → i < entry_count t.size (block_at image b) → HasNoChain j (child_at (block_at image b) i)
    unfolding has_chain
    child_chain j b reached inner none i small =
        let test = has_chain (children graph image) j in
        let named = ap (list_any test) (sym (children_are b reached inner)) ∙ none in
        let along = any-map test (λ (i : ℕ). pair (child_at (block_at image b) i) role) (range_with_len 0 (entry_count t.size (block_at image b))) in
        none_at (λ i. test (pair (child_at (block_at image b) i) role)) 0 (entry_count t.size (block_at image b)) i (sym along ∙ named) (omega arith) (omega arith)

    -- the keys below a child lie in its range
    pub record IsInRange (j b i : ℕ) : Type 0 where
      pub from : AreFrom (key_at (block_at image b) i) (keys_under j (child_at (block_at image b) i))
      pub below : i + 1 < entry_count t.size (block_at image b) → AreBelow (key_at (block_at image b) (i + 1)) (keys_under j (child_at (block_at image b) i))

    child_keys : (j b : ℕ) → j ≤ 63 → Reached b → is_inner_node (block_at image b) ≡ true → HasNoChain (suc (suc j)) b
        → (i : ℕ) → i < entry_count t.size (block_at image b) → IsInRange j b i
    unfolding is_in_range keys_below node_keys
    child_keys j b within reached inner none i small =
        let block = block_at image b in
        let n = entry_count t.size block in
        let all = λ (k : ℕ). keys_under 63 (child_at block k) in
        let fits = ordered.in_range b role reached (inner_is b reached ∙ inner) in
        let below_all = ap (map (gathered (is_inner_pair graph image) (children graph image) (own_keys graph image) 63)) (children_are b reached inner)
        ∙ map-map (gathered (is_inner_pair graph image) (children graph image) (own_keys graph image) 63) (λ (k : ℕ). pair (child_at block k) role) (range_with_len 0 n) in
        let ranges : are_children_in_range (map (key_at block) (range_with_len 0 n)) (map all (range_with_len 0 n)) ≡ true = rw (keys_are b reached, below_all) at fits in
        let found = child_range (key_at block) all i n 0 small ranges in
        let ends = stable (is_inner_pair graph image) (children graph image) (own_keys graph image) j 63 (pair (child_at block i) role) within
        (child_chain (suc j) b reached inner none i small) in
        record {
          from = rw ends at (from_test (key_at block i) (all i) (rw (zero-add i) at found.0));
          below = λ more. rw ends at (below_test (key_at block (i + 1)) (all i) (rw (zero-add i) at (found.1 more)));
        }

    -- the leaves below a node, from first to last
    abbrev pub leaves_under : ℕ → ℕ → List ℕ
    leaves_under j b = gathered (is_inner_pair graph image) (children graph image) (λ p. block_of p ∷ []) j (pair b role)

    -- a visit that has all entries of its leaf
    abbrev pub HasAll : Visit → Type 0
    HasAll v = entries_of_visit t.size image v ≡ leaf_entries t.size (block_at image v.leaf)

    -- visits of these leaves, each with all entries
    pub record AreVisits (vs : List Visit) (bs : List ℕ) : Type 0 where
      pub leaves : map (λ (v : Visit). v.leaf) vs ≡ bs
      pub whole : AllByRecursion HasAll vs

    -- what is visited below a node
    module _ (b low high : ℕ) (reached : Reached b) (inside : is_outside nr b ≡ false) where
      visits_leaf : (j : ℕ) → is_inner_node (block_at image b) ≡ false → AreFrom low (keys_under j b) → AreBelow high (keys_under j b)
          → AreVisits (visits t.size nr image (suc j) b low high) (leaves_under j b)
      unfolding visits
      visits_leaf j leaf from below =
          let sound = undamaged nr role t b (block_at image b) (sound_at b reached) in
          let ends : is_inner_pair graph image (pair b role) ≡ false = inner_is b reached ∙ leaf in
          let keys = gathered_leaf (is_inner_pair graph image) (children graph image) (own_keys graph image) j (pair b role) ends ∙ leaf_keys b reached leaf in
          let own = gathered_leaf (is_inner_pair graph image) (children graph image) (λ p. block_of p ∷ []) j (pair b role) ends in
          let kept = kept_in_range low high (leaf_entries t.size (block_at image b)) (rw keys at from) (rw keys at below) in
          rw (inside, sound, leaf) (record { leaves = sym (rw (block_pair b role few) at own); whole = (kept, tt) })

      visits_inner : (j : ℕ) → is_inner_node (block_at image b) ≡ true
          → visits t.size nr image (suc j) b low high
          ≡ flat_map (λ i. visits t.size nr image j (child_at (block_at image b) i) (child_low (block_at image b) low i) (child_high t.size (block_at image b) high i))
          (range_with_len 0 (entry_count t.size (block_at image b)))
      unfolding visits
      visits_inner j inner =
          let sound = undamaged nr role t b (block_at image b) (sound_at b reached) in
          rw (inside, sound, inner) refl

      -- the range of a child holds its keys
      child_from : (j i : ℕ) → IsInRange j b i → AreFrom low (keys_under j (child_at (block_at image b) i))
          → AreFrom (child_low (block_at image b) low i) (keys_under j (child_at (block_at image b) i))
      child_from j i fits from = from_both (key_at (block_at image b) i) low _ fits.from from

      child_below : (j i : ℕ) → i < entry_count t.size (block_at image b) → IsInRange j b i → AreBelow high (keys_under j (child_at (block_at image b) i))
          → AreBelow (child_high t.size (block_at image b) high i) (keys_under j (child_at (block_at image b) i))
      child_below j i small fits below = elim (cases_Bool (nat_eq (i + 1) (entry_count t.size (block_at image b)))) [
        | inl last ↦ rw last below
        | inr more ↦
            let differs = eqb-false (i + 1) (entry_count t.size (block_at image b)) more in
            rw more (below_both (key_at (block_at image b) (i + 1)) high _ (fits.below (less (i + 1) (entry_count t.size (block_at image b)) (omega arith) differs)) below)
      ]
        where
          less : (m n : ℕ) → m ≤ n → (m ≡ n → ⊥) → m < n
          less m n within differs = elim (cases_lt m n) [
            | inl below ↦ below
            | inr above ↦ absurd (differs (omega arith))
          ]

    -- visits that are joined along a range
    visits_joined : (f : ℕ → List Visit) (g : ℕ → List ℕ) (n : ℕ) → ((i : ℕ) → i < n → AreVisits (f i) (g i))
        → AreVisits (flat_map f (range_with_len 0 n)) (flat_map g (range_with_len 0 n))
    visits_joined f g n each = record {
      leaves =
          map_joined (λ (v : Visit). v.leaf) f (range_with_len 0 n)
          ∙ same_joined (λ i. map (λ (v : Visit). v.leaf) (f i)) g 0 n (λ i start small. (each i (omega arith)).leaves);
      whole = all_joined HasAll f 0 n (λ i start small. (each i (omega arith)).whole);
    }

    -- each leaf below a node is visited with all entries, where no chain is too long and the range holds all keys
    pub visits_under : (j b low high : ℕ) → j ≤ 63 → Reached b → is_outside nr b ≡ false → HasNoChain (suc j) b
        → AreFrom low (keys_under j b) → AreBelow high (keys_under j b) → AreVisits (visits t.size nr image (suc j) b low high) (leaves_under j b)
    unfolding visits gathered
    visits_under zero b low high within reached inside none from below = elim (cases_Bool (is_inner_node (block_at image b))) [
      | inl inner ↦
          let nothing = visits_inner b low high reached inside 0 inner
          ∙ joined_none (λ i. visits t.size nr image 0 (child_at (block_at image b) i) (child_low (block_at image b) low i) (child_high t.size (block_at image b) high i)) 0 (entry_count t.size (block_at image b)) (λ k. refl) in
          let ends = inner_is b reached ∙ inner in
          subst (λ (vs : List Visit). AreVisits vs (leaves_under 0 b)) (sym nothing) (rw ends (record { leaves = refl; whole = tt }))
      | inr leaf ↦ visits_leaf b low high reached inside 0 leaf from below
    ]
    visits_under (suc j) b low high within reached inside none from below = elim (cases_Bool (is_inner_node (block_at image b))) [
      | inl inner ↦
          let n = entry_count t.size (block_at image b) in
          let keys = under_inner (own_keys graph image) j b reached inner in
          let child = λ (i : ℕ). child_at (block_at image b) i in
          let below_child = λ (i : ℕ). visits t.size nr image (suc j) (child i) (child_low (block_at image b) low i) (child_high t.size (block_at image b) high i) in
          let all = visits_joined below_child (λ i. leaves_under j (child i)) n
          (λ i small.
          let fits = child_keys j b (omega arith) reached inner none i small in
          visits_under j (child i) (child_low (block_at image b) low i) (child_high t.size (block_at image b) high i) (omega arith)
          (child_reached b reached inner i small) (child_inside b reached inner i small) (child_chain (suc j) b reached inner none i small)
          (child_from b low high reached inside j i fits (all_at (λ k. low ≤ k) (λ i. keys_under j (child i)) 0 n i (rw keys at from) (omega arith) (omega arith)))
          (child_below b low high reached inside j i small fits (all_at (λ k. k < high) (λ i. keys_under j (child i)) 0 n i (rw keys at below) (omega arith) (omega arith)))) in
          record {
            leaves =
                ap (map (λ (v : Visit). v.leaf)) (visits_inner b low high reached inside (suc j) inner)
                ∙ (all.leaves ∙ sym (under_inner (λ p. block_of p ∷ []) j b reached inner));
            whole = subst (AllByRecursion HasAll) (sym (visits_inner b low high reached inside (suc j) inner)) all.whole;
          }
      | inr leaf ↦ visits_leaf b low high reached inside (suc j) leaf from below
    ]

    -- the entries of such visits are those of the leaves
    visits_entries : (vs : List Visit) (bs : List ℕ) → AreVisits vs bs
        → flat_map (entries_of_visit t.size image) vs ≡ flat_map (λ c. leaf_entries t.size (block_at image c)) bs
    visits_entries vs bs are =
        same_each (entries_of_visit t.size image) (λ (v : Visit). leaf_entries t.size (block_at image v.leaf)) vs are.whole
        ∙ (sym (flat_map-map (λ c. leaf_entries t.size (block_at image c)) (λ (v : Visit). v.leaf) vs)
        ∙ ap (flat_map (λ c. leaf_entries t.size (block_at image c))) are.leaves)

    -- what each leaf has holds of all that stands below a node
    pub under_all : {X : Type 0} (P : X → Type 0) (own : ℕ → List X)
        → ((c : ℕ) → Reached c → is_inner_node (block_at image c) ≡ false → AllByRecursion P (own (pair c role)))
        → (j b : ℕ) → Reached b → AllByRecursion P (gathered (is_inner_pair graph image) (children graph image) own j (pair b role))
    unfolding gathered
    under_all P own leaves zero b reached = elim (cases_Bool (is_inner_node (block_at image b))) [
      | inl inner ↦ rw (inner_is b reached ∙ inner) tt
      | inr leaf ↦ rw (inner_is b reached ∙ leaf) (leaves b reached leaf)
    ]
    under_all P own leaves (suc j) b reached = elim (cases_Bool (is_inner_node (block_at image b))) [
      | inl inner ↦
          rw (under_inner own j b reached inner)
          (all_joined P (λ i. gathered (is_inner_pair graph image) (children graph image) own j (pair (child_at (block_at image b) i) role)) 0 (entry_count t.size (block_at image b))
          (λ i start small. under_all P own leaves j (child_at (block_at image b) i) (child_reached b reached inner i (omega arith))))
      | inr leaf ↦ rw (inner_is b reached ∙ leaf) (leaves b reached leaf)
    ]

    -- each leaf below a reached root is visited with all entries
    pub visited_root : HasBytes image → (b : ℕ) → Reached b → is_outside nr b ≡ false → AreVisits (visited t.size nr image b) (leaves_under 63 b)
    unfolding is_deep visited node_keys
    visited_root bytes b reached inside =
        visits_under 63 b 0 (2 ^ 64) (omega arith) reached inside (ordered.not_deep b role reached)
        (all_of (λ k. 0 ≤ k) (λ k. zero-le) (keys_under 63 b))
        (under_all (λ k. k < 2 ^ 64) (own_keys graph image) (λ c found leaf.
        rw (keys_are c found) (all_map (key_at (block_at image c)) (λ k. k < 2 ^ 64) (λ i. le-lt (block_at image c) (32 + 8 * i) 8 (bytes c)) (range_with_len 0 (entry_count t.size (block_at image c)))))
        63 b reached)

    -- so all entries below it are given
    pub given_root : HasBytes image → (b : ℕ) → Reached b → is_outside nr b ≡ false → salvaged_entries t.size nr image b ≡ entries_below graph image t.size role b
    unfolding salvaged_entries visited entries_below
    given_root bytes b reached inside =
        sym (visits_give t.size nr image 64 b 0 (2 ^ 64))
        ∙ (visits_entries (visited t.size nr image b) (leaves_under 63 b) (visited_root bytes b reached inside)
        ∙ sym (leaves_entries t.size graph image role b))

    -- a block that a node names is inside, and is reached in its role
    abbrev pub IsNamed : Edge → Type 0
    IsNamed e = (is_outside nr e.block ≡ false) × (e.role < 16 → IsReached graph image e.block e.role)

    pub named_reached : (b : ℕ) → Reached b → AllByRecursion IsNamed (tree_edges role t (block_at image b))
    unfolding has_edge_outside graph_of
    named_reached b reached =
        let edges = tree_edges role t (block_at image b) in
        all_from_two (λ (e : Edge). is_outside nr e.block ≡ false) (λ (e : Edge). list_any (λ q. nat_eq q (pair e.block e.role)) (map (λ (e : Edge). pair e.block e.role) edges) ≡ true) IsNamed
        (λ e inside among. (
          inside,
          λ known.
              reached_next b role e.block e.role reached.block few (inside_from nr e.block inside).1 known reached.found
              (ap (list_any (λ q. nat_eq q (pair e.block e.role))) (next_is b reached) ∙ among),
        ))
        edges (none_passes (λ (e : Edge). is_outside nr e.block) edges (inside_at b reached)) (among_mapped (λ (e : Edge). pair e.block e.role) edges)

    -- of a leaf, what its entries name
    pub leaf_named : (b : ℕ) → Reached b → is_inner_node (block_at image b) ≡ false
        → AllByRecursion (λ (e : Entry). AllByRecursion IsNamed (t.leaf_edges e)) (leaf_entries t.size (block_at image b))
    unfolding tree_edges leaf_entries
    leaf_named b reached leaf = rw leaf (all_parts IsNamed t.leaf_edges (node_entries_of t.size (block_at image b)) (rw leaf at (named_reached b reached)))
