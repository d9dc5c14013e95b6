-- A row of leaves, the inner nodes above it, and a whole tree, where they are laid.
use Rattle.std.proofs.Common.{◌≡◌, inl, inr, ℕ, suc, ◌+◌, ◌-◌, ◌*◌, ◌^◌, ◌<◌, ◌≤◌, true, false, max, List, [], ◌∷◌, ◌++◌, length, map, refl, ◌∙◌, arith}
use Rattle.std.specs.List.{AllByRecursion, flat_map, range_with_len}
use Rattle.std.proofs.Math.Nat.{div-mul-le_self, lt-div-mul-add, mul-le-mul_left, mul-le-mul_right, suc-mul}
use Rattle.std.proofs.lemmas.Bool.{cases_lt, both_ways}
use Rattle.std.proofs.lemmas.List.{length-append, length-map, map-append}
use Rattle.pd_kinds.specs.Graph.{Edge, edge_of, Graph, block_of, pair, is_inner_pair, children, gathered, is_deep}
use Rattle.pd_kinds.specs.Node.{Entry, is_ascending, max_entries}
use Rattle.pd_kinds.specs.Layout.{Tree, Layout, tree, graph_of}
use Rattle.pd_kinds.specs.Trees.{keys_of}
use Rattle.pd_kinds.proofs.KindLemmas.{room_some, values_of}
use Rattle.pd_kinds.proofs.KindsListLemmas.{all_first, all_last}
use Rattle.pd_kinds.proofs.ListLemmas.{all_from, all_from_two, all_append, all_flat_map, all_mapped}
use Rattle.pd_grammar.specs.Need.{nodes_for}
use Rattle.pd_laid.specs.Laid.{LaidBlock, laid_leaf, laid_inner, laid_tree, heads, inners_above, root_above, tree_leaves, tree_root}
use Rattle.pd_laid.proofs.NeedLemmas.{length-heads}
use Rattle.pd_laid.proofs.LaidLemmas.{length-spread, joined_spread, spread_most, spread_some}
use Rattle.pd_laid.proofs.Rows.{row_named, levels_one}
use Rattle.pd_laid.proofs.NodeFacts as facts
use Rattle.pd_laws_laid.specs.LaidOut.{AllFrom, role_at, IsFitting, IsInPlace, IsNamed, LeadsBelow, AreItems, IsRoot, IsTreeSeen}
use Rattle.pd_laws_laid.proofs.ListLemmas.{from_front, from_back, from_both}
use Rattle.pd_laws_laid.proofs.Ascending.{firsts_ascend, firsts_keep, parts_ascend}
use Rattle.pd_laws_laid.proofs.Roots.{leaves_under, root_under, row_blocks, AreLeavesAt, IsOrdered, all_above, leaves_keys, leaves_least, leaves_settled}
use Rattle.pd_laws_laid.proofs.Levels.{IsInnerAt, no_chain}
use Rattle.pd_laws_laid.proofs.Nodes.{IsSeenInner, IsSeenLeaf, inner_seen, leaf_seen}
use Rattle.pd_laws_laid.proofs.Rows.{IsInnerNode, all_parts, by_keys, by_values, heads_inside, inners_are, row_few}

-- the leaves of a tree
pub record AreLeaves (size : ℕ) (items : List Entry) (leaves : List (List Entry)) : Type 0 where
  pub joined_is : flat_map (λ (g : List Entry). g) leaves ≡ items
  pub some : 1 ≤ length leaves
  pub filled : 1 ≤ length items → AllByRecursion (λ (g : List Entry). 1 ≤ length g) leaves
  pub one : length items ≡ 0 → length leaves ≡ 1
  pub most : AllByRecursion (λ (g : List Entry). length g ≤ max_entries size) leaves

-- how many leaves so many items take
record IsLeafNumber (most n count : ℕ) : Type 0 where
  some : 1 ≤ count
  fewer : 1 ≤ n → count ≤ n
  one : n ≡ 0 → count ≡ 1
  enough : n ≤ count * most

leaf_number : (most n : ℕ) → 1 ≤ most → IsLeafNumber most n (max 1 (nodes_for most n))
leaf_number most n some =
    let wanted = nodes_for most n in
    let count = max 1 wanted in
    let above : n + (most - 1) < wanted * most + most = lt-div-mul-add some in
    let below : wanted * most ≤ n + (most - 1) = div-mul-le_self (n + (most - 1)) most in
    let fewer : wanted ≤ n = elim (cases_lt n wanted) [
      | inr fewer ↦ fewer
      | inl more ↦
          let scaled : suc n * most ≤ wanted * most = mul-le-mul_right most more in
          let split : suc n * most ≡ n * most + most = suc-mul n most in
          let least : n * 1 ≤ n * most = mul-le-mul_left n some in
          absurd (omega arith)
    ] in
    let larger : wanted * most ≤ count * most = mul-le-mul_right most (omega arith) in
    record {
      some = omega arith;
      fewer = λ many. omega arith;
      one = λ none. omega arith;
      enough = omega arith;
    }

pub leaves_are : (size : ℕ) (items : List Entry) → size ≤ 24 → AreLeaves size items (tree_leaves size items)
unfolding tree_leaves
leaves_are size items wide =
    let most = max_entries size in
    let n = length items in
    let count = max 1 (nodes_for most n) in
    let number = leaf_number most n (room_some size wide) in
    let e : suc (count - 1) ≡ count = omega (arith, number.some) in
    let size_is = length-spread count items in
    record {
      joined_is = rw e at (joined_spread (count - 1) items);
      some = rw size_is number.some;
      filled = λ many. spread_some count items (number.fewer many);
      one = λ none. size_is ∙ number.one none;
      most = spread_most most count items number.enough;
    }

-- what holds at the places of nodes holds of what their heads name, and the other way round
pub heads_from : (P : ℕ → Type 0) (place : ℕ) (nodes : List (List Entry)) → AllFrom (λ q g. P q) place nodes → AllByRecursion (λ (e : Entry). P e.value) (heads place nodes)
unfolding heads
heads_from P place [] all = tt
heads_from P place (g ∷ nodes) all = (all.0, heads_from P (place + 1) nodes all.1)

pub from_heads : (P : ℕ → Type 0) (place : ℕ) (nodes : List (List Entry)) → AllByRecursion (λ (e : Entry). P e.value) (heads place nodes) → AllFrom (λ q g. P q) place nodes
unfolding heads
from_heads P place [] all = tt
from_heads P place (g ∷ nodes) all = (all.0, from_heads P (place + 1) nodes all.1)

-- what holds of a range of places
from_range : {X : Type 0} (P : ℕ → Type 0) (place : ℕ) (xs : List X) → AllByRecursion P (range_with_len place (length xs)) → AllFrom (λ q x. P q) place xs
from_range P place [] all = tt
from_range P place (x ∷ xs) all = (all.0, from_range P (place + 1) xs all.1)

range_from : {X : Type 0} (P : ℕ → Type 0) (place : ℕ) (xs : List X) → AllFrom (λ q x. P q) place xs → AllByRecursion P (range_with_len place (length xs))
range_from P place [] all = tt
range_from P place (x ∷ xs) all = (all.0, range_from P (place + 1) xs all.1)

-- items that are spread over leaves
pub parts_items : (blocks : List LaidBlock) (limit : ℕ) (t : Tree) (groups : List (List Entry)) → AreItems blocks limit t (flat_map (λ (g : List Entry). g) groups)
    → AllByRecursion (AreItems blocks limit t) groups
parts_items blocks limit t groups items =
    each groups (parts_ascend groups items.ascending) (all_parts (λ (e : Entry). e.key < 2 ^ 64) groups items.keys_fit)
    (all_parts (λ (e : Entry). e.value < 256 ^ t.size) groups items.values_fit) (all_parts (λ (e : Entry). t.is_beyond e ≡ false) groups items.in_range)
    (all_parts (λ (e : Entry). AllByRecursion (LeadsBelow blocks limit) (t.leaf_edges e)) groups items.leads)
  where
    each : (groups : List (List Entry)) → AllByRecursion (λ (g : List Entry). is_ascending (keys_of g) ≡ true) groups
        → AllByRecursion (AllByRecursion (λ (e : Entry). e.key < 2 ^ 64)) groups
        → AllByRecursion (AllByRecursion (λ (e : Entry). e.value < 256 ^ t.size)) groups
        → AllByRecursion (AllByRecursion (λ (e : Entry). t.is_beyond e ≡ false)) groups
        → AllByRecursion (AllByRecursion (λ (e : Entry). AllByRecursion (LeadsBelow blocks limit) (t.leaf_edges e))) groups
        → AllByRecursion (AreItems blocks limit t) groups
    each [] asc ks vs ranges leads = tt
    each (g ∷ groups) asc ks vs ranges leads =
        (record { ascending = asc.0; keys_fit = ks.0; values_fit = vs.0; in_range = ranges.0; leads = leads.0 }, each groups asc.1 ks.1 vs.1 ranges.1 leads.1)

module _ (roles nr data_blocks : ℕ) (table : ℕ → Layout) (image : List (List ℕ)) (blocks : List LaidBlock) (limit role : ℕ) (t : Tree)
    (is : table role ≡ tree t) (known : role < roles) (few_roles : roles ≤ 16) (wide : t.size ≤ 24) (few : nr ≤ 4161600) (within : limit ≤ nr) where
  abbrev pub this : Graph
  this = graph_of roles nr data_blocks table

  pub small : role < 16
  small = omega arith

  abbrev pub SeenLeaf : ℕ → List Entry → Type 0
  SeenLeaf q g = IsSeenLeaf roles nr data_blocks table image role t is small q g

  abbrev SeenInner : ℕ → List Entry → Type 0
  SeenInner q g = IsSeenInner roles nr data_blocks table image role t is small q g

  -- leaves that stand from a place on
  leaf_leads : (g : List Entry) → AreItems blocks limit t g → AllByRecursion (LeadsBelow blocks limit) (flat_map t.leaf_edges g)
  leaf_leads g items = all_flat_map t.leaf_edges (LeadsBelow blocks limit) g items.leads

  pub leaves_seen : (place : ℕ) (groups : List (List Entry)) → place + length groups ≤ limit
      → AllByRecursion (λ (g : List Entry). length g ≤ max_entries t.size) groups → AllByRecursion (AreItems blocks limit t) groups
      → AllFrom (IsInPlace image blocks) place (map (laid_leaf role t) groups) → AllFrom SeenLeaf place groups
  leaves_seen place [] room most items stand = tt
  leaves_seen place (g ∷ groups) room most items stand = (
    leaf_seen roles nr data_blocks table image role t is small place g (omega arith) (omega arith) wide stand.0.stands blocks limit within most.0 items.0
        (leaf_leads g items.0),
    leaves_seen (place + 1) groups (omega arith) most.1 items.1 stand.1,
  )

  pub seen_at : (place : ℕ) (groups : List (List Entry)) → AllFrom SeenLeaf place groups → AreLeavesAt this image t.size role (heads place groups) groups
  unfolding heads
  seen_at place [] seen = tt
  seen_at place (g ∷ groups) seen = ((refl, seen.0.at), seen_at (place + 1) groups seen.1)

  pub leaves_fit : (place : ℕ) (groups : List (List Entry)) → AllFrom SeenLeaf place groups → AllByRecursion (AreItems blocks limit t) groups
      → AllFrom (λ q g. IsNamed blocks q) place groups → AllFrom (IsFitting this image blocks limit) place (map (laid_leaf role t) groups)
  unfolding is_deep graph_of
  leaves_fit place [] seen items named = tt
  leaves_fit place (g ∷ groups) seen items named =
      let leaf = seen.0.at.leaf in (
        record {
          seen = record {
            known = known;
            sound = seen.0.sound;
            shallow = no_chain this image (pair place role) 64 leaf (omega arith);
            in_range = λ inner. absurd (both_ways (is_inner_pair this image (pair place role)) leaf inner);
            earlier = λ inner. absurd (both_ways (is_inner_pair this image (pair place role)) leaf inner);
            edges_are = seen.0.edges_are;
            data_are = seen.0.data_are;
          };
          leads = leaf_leads g items.0;
          named = λ from. named.0;
        },
        leaves_fit (place + 1) groups seen.1 items.1 named.1,
      )

  -- inner nodes that stand from a place on
  inners_seen : (place : ℕ) (inners : List (List Entry)) → place + length inners ≤ limit → AllFrom (IsInPlace image blocks) place (map (laid_inner role) inners)
      → AllFrom IsInnerNode place inners → AllFrom SeenInner place inners
  inners_seen place [] room stand nodes = tt
  inners_seen place (g ∷ inners) room stand nodes = (
    inner_seen roles nr data_blocks table image role t is small place g (omega arith) (omega arith) stand.0.stands nodes.0,
    inners_seen (place + 1) inners (omega arith) stand.1 nodes.1,
  )

  inners_at : (place : ℕ) (inners : List (List Entry)) → AllFrom SeenInner place inners → AllFrom (IsInnerAt this image role) place inners
  inners_at place [] seen = tt
  inners_at place (g ∷ inners) seen = (seen.0.at, inners_at (place + 1) inners seen.1)

  inner_leads : (place : ℕ) (g : List Entry) → place < limit → AllByRecursion (λ (e : Entry). (1 ≤ e.value) × (e.value < place)) g
      → AllByRecursion (λ (e : Entry). role_at blocks e.value ≡ role) g → AllByRecursion (LeadsBelow blocks limit) (map (λ (e : Entry). edge_of role e.value) g)
  inner_leads place g room inside roles_are =
      all_mapped (λ (e : Entry). edge_of role e.value) (LeadsBelow blocks limit) g
      (all_from_two (λ (e : Entry). (1 ≤ e.value) × (e.value < place)) (λ (e : Entry). role_at blocks e.value ≡ role)
      (λ (e : Entry). LeadsBelow blocks limit (edge_of role e.value)) (λ e low same. record { from_one = low.0; below = omega arith; role_is = same }) g inside roles_are)

  inners_fit : (place : ℕ) (inners : List (List Entry)) → place + length inners ≤ limit → AllFrom SeenInner place inners
      → AllFrom (λ q g. IsOrdered this image role q) place inners → AllFrom IsInnerNode place inners
      → AllByRecursion (AllByRecursion (λ (e : Entry). role_at blocks e.value ≡ role)) inners
      → AllFrom (λ q g. IsNamed blocks q) place inners → AllFrom (IsFitting this image blocks limit) place (map (laid_inner role) inners)
  unfolding graph_of
  inners_fit place [] room seen ordered nodes roles_are named = tt
  inners_fit place (g ∷ inners) room seen ordered nodes roles_are named =
      let edge = λ (e : Entry). edge_of role e.value in (
        record {
          seen = record {
            known = known;
            sound = seen.0.sound;
            shallow = ordered.0.shallow;
            in_range = ordered.0.in_range;
            earlier = λ inner. all_mapped edge (λ (e : Edge). e.block < place) g
                (all_from (λ (e : Entry). (1 ≤ e.value) × (e.value < place)) (λ (e : Entry). e.value < place) (λ e inside. inside.1) g nodes.0.inside);
            edges_are = seen.0.edges_are;
            data_are = seen.0.data_are;
          };
          leads = inner_leads place g (omega arith) nodes.0.inside roles_are.0;
          named = λ from. named.0;
        },
        inners_fit (place + 1) inners (omega arith) seen.1 ordered.1 nodes.1 roles_are.1 named.1,
      )

  -- what inner nodes name
  these_name : (place : ℕ) (inners : List (List Entry)) → AllFrom (IsInPlace image blocks) place (map (laid_inner role) inners)
      → AllByRecursion (IsNamed blocks) (values_of (flat_map (λ (g : List Entry). g) inners))
  these_name place [] stand = tt
  these_name place (g ∷ inners) stand =
      let value = λ (e : Entry). e.value in
      rw (map-append value g (flat_map (λ (g : List Entry). g) inners))
      (all_append (IsNamed blocks) (values_of g) (values_of (flat_map (λ (g : List Entry). g) inners))
      (unmapped g stand.0.names) (these_name (place + 1) inners stand.1))
    where
      unmapped : (g : List Entry) → AllByRecursion (λ (edge : Edge). IsNamed blocks edge.block) (map (λ (e : Entry). edge_of role e.value) g) → AllByRecursion (IsNamed blocks) (values_of g)
      unmapped [] all = tt
      unmapped (e ∷ g) all = (all.0, unmapped g all.1)

  -- A row of leaves that stand before the inner nodes above it: they hold the items, all of which fit
  pub record IsRow (place : ℕ) (row : List Entry) (groups : List (List Entry)) (items : List Entry) : Type 0 where
    pub leaves : AreLeavesAt this image t.size role row groups
    pub joined_is : flat_map (λ (g : List Entry). g) groups ≡ items
    pub some : 1 ≤ length row
    pub filled : 1 < length row → AllByRecursion (λ (g : List Entry). 1 ≤ length g) groups
    pub ascending : is_ascending (keys_of items) ≡ true
    pub keys_fit : AllByRecursion (λ (e : Entry). e.key < 2 ^ 64) items
    pub inside : AllByRecursion (λ (e : Entry). (1 ≤ e.value) × (e.value < place)) row
    pub roles_are : AllByRecursion (λ (e : Entry). role_at blocks e.value ≡ role) row

  -- the root of such a row, the nodes above it, and what it names
  pub record IsAboveRow (place : ℕ) (row items : List Entry) : Type 0 where
    pub root : IsRoot this image t.size role (root_above place row) items
    pub fitting : AllFrom (IsFitting this image blocks limit) place (map (laid_inner role) (inners_above place row))
    pub named : AllByRecursion (λ (e : Entry). IsNamed blocks e.value) row
    -- the leaves below the root are those of the row
    pub leaves_are : gathered (is_inner_pair this image) (children this image) (λ p. block_of p ∷ []) 63 (pair (root_above place row) role) ≡ values_of row

  pub row_above : (place : ℕ) (row : List Entry) (groups : List (List Entry)) (items : List Entry) → 1 ≤ place → place + length (inners_above place row) ≤ limit
      → IsRow place row groups items → AllFrom (IsInPlace image blocks) place (map (laid_inner role) (inners_above place row))
      → IsNamed blocks (root_above place row) → IsAboveRow place row items
  unfolding root_above
  row_above place row groups items from room row_is stand root_named =
      let inners = inners_above place row in
      let keys = leaves_keys this image t.size role row groups row_is.leaves in
      let whole = row_is.joined_is in
      let short : length row ≤ 252 ^ 10 = omega (arith, row_few 9 place row) in
      let nodes : AllFrom IsInnerNode place inners = elim (cases_lt 1 (length row)) [
        | inr single ↦ rw (levels_one 10 place row single) tt
        | inl many ↦
            let filled = row_is.filled many in
            inners_are 10 place row short (rw keys (firsts_ascend groups filled (rw whole row_is.ascending)))
            (by_keys (λ key. key < 2 ^ 64) row (rw keys (firsts_keep (λ key. key < 2 ^ 64) groups filled (rw whole row_is.keys_fit)))) row_is.inside from
      ] in
      let names = row_named 10 place row row_is.some short in
      let seen = inners_seen place inners room stand nodes in
      let settled = leaves_settled this image t.size role row groups row_is.leaves in
      let stable = leaves_under this image role (λ p. block_of p ∷ []) t.size row groups row_is.leaves in
      let all_is = settled.1 ∙ whole in
      let above = all_above this image t.size role 10 0 place row row_is.some short (omega arith) settled.0
      (λ many. leaves_least this image t.size role row groups row_is.leaves (row_is.filled many)) (rw all_is row_is.ascending) (inners_at place inners seen) in
      let root_is = above.root_is in
      let placed_roles : AllByRecursion (λ q. role_at blocks q ≡ role) (range_with_len place (length inners)) =
      range_from (λ q. role_at blocks q ≡ role) place inners (inner_roles place inners stand) in
      let all_roles : AllByRecursion (λ q. role_at blocks q ≡ role) (values_of (flat_map (λ (g : List Entry). g) inners) ++ (root_above place row ∷ [])) =
      rw names (all_append (λ q. role_at blocks q ≡ role) (values_of row) (range_with_len place (length inners))
      (all_mapped (λ (e : Entry). e.value) (λ q. role_at blocks q ≡ role) row row_is.roles_are) placed_roles) in
      let each_roles : AllByRecursion (AllByRecursion (λ (e : Entry). role_at blocks e.value ≡ role)) inners =
      all_parts (λ (e : Entry). role_at blocks e.value ≡ role) inners
      (by_values (λ q. role_at blocks q ≡ role) (flat_map (λ (g : List Entry). g) inners)
      (all_first (λ q. role_at blocks q ≡ role) (values_of (flat_map (λ (g : List Entry). g) inners)) (root_above place row ∷ []) all_roles)) in
      let all_named : AllByRecursion (IsNamed blocks) (values_of row ++ range_with_len place (length inners)) =
      rw names at (all_append (IsNamed blocks) (values_of (flat_map (λ (g : List Entry). g) inners)) (root_above place row ∷ []) (these_name place inners stand) (root_named, tt)) in
      record {
        root = rw all_is at root_is;
        fitting = inners_fit place inners room seen above.ordered nodes each_roles
            (from_range (IsNamed blocks) place inners (all_last (IsNamed blocks) (values_of row) (range_with_len place (length inners)) all_named));
        named = by_values (IsNamed blocks) row (all_first (IsNamed blocks) (values_of row) (range_with_len place (length inners)) all_named);
        leaves_are = root_under this image role (λ p. block_of p ∷ []) 10 0 place row row_is.some short (omega arith) stable.0 (inners_at place inners seen)
            ∙ (stable.1 ∙ row_blocks role small row);
      }
    where
      inner_roles : (place : ℕ) (inners : List (List Entry)) → AllFrom (IsInPlace image blocks) place (map (laid_inner role) inners) → AllFrom (λ q g. role_at blocks q ≡ role) place inners
      inner_roles place [] stand = tt
      inner_roles place (g ∷ inners) stand = (stand.0.role_is, inner_roles (place + 1) inners stand.1)

  -- what leaves that stand in their places give
  pub leaf_roles : (place : ℕ) (groups : List (List Entry)) → AllFrom (IsInPlace image blocks) place (map (laid_leaf role t) groups) → AllFrom (λ q g. role_at blocks q ≡ role) place groups
  leaf_roles place [] stand = tt
  leaf_roles place (g ∷ groups) stand = (stand.0.role_is, leaf_roles (place + 1) groups stand.1)

  abbrev AreNamed : List Entry → Type 0
  AreNamed g = AllByRecursion (λ (e : Entry). AllByRecursion (λ (edge : Edge). IsNamed blocks edge.block) (t.leaf_edges e)) g

  leaves_name : (place : ℕ) (groups : List (List Entry)) → AllFrom (IsInPlace image blocks) place (map (laid_leaf role t) groups) → AllByRecursion AreNamed groups
  leaves_name place [] stand = tt
  leaves_name place (g ∷ groups) stand =
      (facts.all_parts (λ (edge : Edge). IsNamed blocks edge.block) t.leaf_edges g stand.0.names, leaves_name (place + 1) groups stand.1)

  pub tree_seen : (place : ℕ) (items : List Entry) → 1 ≤ place → place + length (laid_tree role t place items) ≤ limit → AreItems blocks limit t items
      → AllFrom (IsInPlace image blocks) place (laid_tree role t place items) → IsNamed blocks (tree_root t.size place items)
      → IsTreeSeen this image blocks limit role t place items
  unfolding laid_tree
  tree_seen place items from room items_are stand root_named =
      let leaves = tree_leaves t.size items in
      let n = length leaves in
      let behind = place + n in
      let row = heads place leaves in
      let inners = inners_above behind row in
      let are = leaves_are t.size items wide in
      let whole = are.joined_is in
      let laid_leaves = map (laid_leaf role t) leaves in
      let leaf_count = length-map leaves (laid_leaf role t) in
      let inner_count = length-map inners (laid_inner role) in
      let both = length-append laid_leaves (map (laid_inner role) inners) in
      let front = from_front (IsInPlace image blocks) place laid_leaves (map (laid_inner role) inners) stand in
      let back : AllFrom (IsInPlace image blocks) behind (map (laid_inner role) inners) =
      rw leaf_count at (from_back (IsInPlace image blocks) place laid_leaves (map (laid_inner role) inners) stand) in
      let parts = parts_items blocks limit t leaves (rw whole items_are) in
      let seen = leaves_seen place leaves (omega arith) are.most parts front in
      let size = length-heads place leaves in
      let row_is : IsRow behind row leaves items = record {
        leaves = seen_at place leaves seen;
        joined_is = whole;
        some = rw size are.some;
        filled = λ many. are.filled (filled_from items are many size);
        ascending = items_are.ascending;
        keys_fit = items_are.keys_fit;
        inside = heads_inside place behind leaves from (omega arith);
        roles_are = heads_from (λ q. role_at blocks q ≡ role) place leaves (leaf_roles place leaves front);
      } in
      let above = row_above behind row leaves items (omega arith) (omega arith) row_is back root_named in
      record {
        root = above.root;
        fitting = from_both (IsFitting this image blocks limit) place laid_leaves (map (laid_inner role) inners)
            (leaves_fit place leaves seen parts (from_heads (IsNamed blocks) place leaves above.named)) (rw leaf_count above.fitting);
        named = rw whole at (all_flat_map (λ (g : List Entry). g) (λ (e : Entry). AllByRecursion (λ (edge : Edge). IsNamed blocks edge.block) (t.leaf_edges e)) leaves
            (leaves_name place leaves front));
      }
    where
      filled_from : (items : List Entry) → AreLeaves t.size items (tree_leaves t.size items) → 1 < length (heads place (tree_leaves t.size items))
          → length (heads place (tree_leaves t.size items)) ≡ length (tree_leaves t.size items) → 1 ≤ length items
      filled_from [] are many size = absurd (let one = are.one refl in omega arith)
      filled_from (e ∷ items) are many size = omega arith
