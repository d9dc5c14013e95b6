-- All that is under the root of a sound tree is reached from it, and so it is sound.
use Rattle.std.proofs.Common.{◌≡◌, ◌↔◌, inl, inr, ℕ, zero, suc, ◌+◌, ◌*◌, ◌<◌, ◌≤◌, Bool, true, false, ◌||◌, not, cond, nat_eq, nat_lt, List, [], ◌∷◌, filter, length, map, min, refl, sym, ◌∙◌, ap, arith}
use Rattle.std.specs.List.{list_any, list_all, range_with_len, AllByRecursion}
use Rattle.std.proofs.lemmas.Bool.{cases_eq, or_cases, and_parts, eqb-true, ltb-true, both_ways, not-true}
use Rattle.pd_kinds.specs.Rule.{all_rules}
use Rattle.pd_kinds.specs.Graph.{Edge, is_outside, Graph, block_at, pair, block_of, role_of, edges_of, next, is_inner_pair, is_reached_from, nodes_from, children, is_deep, is_in_range}
use Rattle.pd_kinds.specs.Lawful.{IsLawful, IsWithin}
use Rattle.pd_kinds.specs.Paths.{IsOnPathFrom, start, edge}
use Rattle.pd_kinds.proofs.SoundLemmas.{none_broken}
use Rattle.pd_kinds.specs.declared.limits.TheConstants.{MAX_META_BLOCKS}
use Rattle.pd_kinds.specs.Layout.{Layout, Tree, tree, graph_of}
use Rattle.pd_kinds.specs.ThinFormat.{thin_layout}
use Rattle.pd_laid.specs.FoundRoots.{is_sound_pair, is_sound_tree, lost_graph}
use Rattle.pd_tree.specs.Search.{IsTreeRole, IsUnder, IsSoundTree}
use Rattle.pd_tree.specs.Search.IsUnder.{itself, below}

-- what is kept of a range passes
rest_all : (f : ℕ → Bool) (b : Bool) (x : ℕ) (kept : List ℕ) → list_all f (cond b (x ∷ kept) kept) ≡ true → list_all f kept ≡ true
rest_all f true x kept all = (and_parts (f x) (list_all f kept) all).1
rest_all f false x kept all = all

first_all : (f : ℕ → Bool) (b : Bool) (x : ℕ) (kept : List ℕ) → b ≡ true → list_all f (cond b (x ∷ kept) kept) ≡ true → f x ≡ true
first_all f true x kept e all = (and_parts (f x) (list_all f kept) all).0
first_all f false x kept e all = absurd (both_ways false refl e)

pub kept_from : (f g : ℕ → Bool) (a n q : ℕ) → a ≤ q → q < a + n → g q ≡ true → list_all f (filter g (range_with_len a n)) ≡ true → f q ≡ true
kept_from f g a zero q low high passes all = absurd (omega arith)
kept_from f g a (suc n) q low high passes all = elim (cases_eq a q) [
  | inl same ↦ ap f (sym same) ∙ first_all f (g a) a (filter g (range_with_len (a + 1) n)) (ap g same ∙ passes) all
  | inr ne ↦ kept_from f g (a + 1) n q (omega arith) (omega arith) passes (rest_all f (g a) a (filter g (range_with_len (a + 1) n)) all)
]

-- what leads to a pair lies within
pub leads_small : (graph : Graph) (es : List Edge) (t : ℕ) → graph.roles ≤ 16 → AllByRecursion (IsWithin graph) es
    → list_any (λ x. nat_eq x t) (map (λ (e : Edge). pair e.block e.role) es) ≡ true → (role_of t < graph.roles) × (t < 16 * graph.nr)
leads_small graph [] t few all leads = absurd (both_ways _ refl leads)
leads_small graph (x ∷ xs) t few all leads = elim (or_cases (nat_eq (pair x.block x.role) t) _ leads) [
  | inl same ↦
      let first = all.0 in
      let e = eqb-true (pair x.block x.role) t same in
      let known = first.known in
      let less = first.below in
      (omega arith, omega arith)
  | inr later ↦ leads_small graph xs t few all.1 later
]

-- a role of a table
table_role : {t : Tree} → (role roles nr data_blocks : ℕ) (layout : ℕ → Layout) → layout role ≡ tree t → role < 16
    → IsTreeRole (graph_of roles nr data_blocks layout) role t.size
table_role {t} role roles nr data_blocks layout at few =
    record { roles = roles; nr = nr; data_blocks = data_blocks; layout = layout; nodes = t; is = refl; at = at; value_size = refl; few = few }

-- the trees of a pool whose superblock is lost
pub lost_tops : (image : List (List ℕ)) (data_blocks : ℕ) → IsTreeRole (lost_graph image data_blocks) 2 8
unfolding lost_graph thin_layout
lost_tops image data_blocks =
    let nr = min (length image) MAX_META_BLOCKS in
    table_role 2 11 nr data_blocks (thin_layout nr data_blocks) refl (omega arith)

pub lost_details : (image : List (List ℕ)) (data_blocks : ℕ) → IsTreeRole (lost_graph image data_blocks) 4 24
unfolding lost_graph thin_layout
lost_details image data_blocks =
    let nr = min (length image) MAX_META_BLOCKS in
    table_role 4 11 nr data_blocks (thin_layout nr data_blocks) refl (omega arith)

pub lost_roles : (image : List (List ℕ)) (data_blocks : ℕ) → (lost_graph image data_blocks).roles ≡ 11
unfolding lost_graph graph_of
lost_roles image data_blocks = refl

pub less_of : (zero less : Bool) → not (zero || not less) ≡ true → (zero ≡ false) × (less ≡ true)
less_of true less e = absurd (both_ways false refl e)
less_of false true e = (refl, refl)
less_of false false e = absurd (both_ways false refl e)

-- a sound tree is that of a block which there is
pub root_inside : (graph : Graph) (image : List (List ℕ)) (role root : ℕ) → is_sound_tree graph image role root ≡ true → root < graph.nr
unfolding is_sound_tree
root_inside graph image role root sound =
    ltb-true root graph.nr (less_of (nat_eq root 0) (nat_lt root graph.nr) (and_parts (not (is_outside graph.nr root)) _ sound).0).1

-- where there is one, the format keeps the laws
pub lost_lawful : ((nr data_blocks : ℕ) → 1 ≤ nr → nr ≤ MAX_META_BLOCKS → IsLawful (graph_of 11 nr data_blocks (thin_layout nr data_blocks)))
    → (image : List (List ℕ)) (data_blocks root : ℕ) → root < (lost_graph image data_blocks).nr → IsLawful (lost_graph image data_blocks)
unfolding lost_graph graph_of
lost_lawful lawful image data_blocks root small = lawful (min (length image) MAX_META_BLOCKS) data_blocks (omega arith) (omega arith)

module _ (graph : Graph) (image : List (List ℕ)) (lawful : IsLawful graph)
    (paths : (first p : ℕ) → (is_reached_from graph image first p ≡ true) ↔ IsOnPathFrom (16 * graph.nr) (next graph image) first p) where
  child_next : (inner : Bool) (xs : List ℕ) (c : ℕ) → list_any (λ t. nat_eq t c) (cond inner xs []) ≡ true → list_any (λ t. nat_eq t c) xs ≡ true
  child_next true xs c any = any
  child_next false xs c any = absurd (cc)

  leads_on : (q t : ℕ) → role_of q < graph.roles → list_any (λ x. nat_eq x t) (next graph image q) ≡ true → (role_of t < graph.roles) × (t < 16 * graph.nr)
  unfolding next
  leads_on q t known leads =
      leads_small graph (edges_of graph image q) t lawful.few_roles (lawful.each (role_of q) (block_of q) (block_at image (block_of q)) known).within leads

  -- a pair on a path, that lies within
  record IsOnWay (first q : ℕ) : Type 0 where
    path : IsOnPathFrom (16 * graph.nr) (next graph image) first q
    known : role_of q < graph.roles
    small : q < 16 * graph.nr

  way_child : (first p c : ℕ) → IsOnWay first p → list_any (λ t. nat_eq t c) (children graph image p) ≡ true → IsOnWay first c
  unfolding children
  way_child first p c way leads =
      let on = child_next (is_inner_pair graph image p) (next graph image p) c leads in
      let lies = leads_on p c way.known on in
      record { path = edge p c way.small way.path on; known = lies.0; small = lies.1 }

  way_under : (first p q : ℕ) → IsUnder graph image p q → IsOnWay first p → IsOnWay first q
  way_under first p q (itself t) way = way
  way_under first p q (below p' c q' leads under) way = way_under first c q' under (way_child first p' c way leads)

  module _ (role root : ℕ) (known : role < graph.roles) (sound : is_sound_tree graph image role root ≡ true) where
    at_root : IsOnWay (pair root role) (pair root role)
    at_root =
        let few = lawful.few_roles in
        let small = root_inside graph image role root sound in
        record { path = start; known = omega arith; small = omega arith }

    sound_on_way : (q : ℕ) → IsOnWay (pair root role) q → is_sound_pair graph image q ≡ true
    unfolding is_sound_tree
    sound_on_way q way =
        let small = way.small in
        kept_from (is_sound_pair graph image) (is_reached_from graph image (pair root role)) 0 (16 * graph.nr) q (omega arith) (omega arith)
        ((paths (pair root role) q).1 way.path)
        (and_parts (not (is_outside graph.nr root)) (list_all (is_sound_pair graph image) (nodes_from graph image (pair root role))) sound).1

    pub sound_tree_is : IsSoundTree graph image (pair root role)
    unfolding is_sound_pair
    sound_tree_is = record {
      rules = λ q under rule.
          let parts = and_parts _ _ (sound_on_way q (way_under (pair root role) (pair root role) q under at_root)) in
          none_broken (graph.bad (role_of q) (block_of q) (block_at image (block_of q))) (not-true (list_any (graph.bad (role_of q) (block_of q) (block_at image (block_of q))) all_rules) parts.0) rule;
      level =
          let parts = and_parts _ _ (sound_on_way (pair root role) at_root) in
          not-true (is_deep graph image (pair root role)) (and_parts _ _ parts.1).0;
      range = λ q under inner.
          let parts = and_parts _ _ (sound_on_way q (way_under (pair root role) (pair root role) q under at_root)) in
          range_by (is_inner_pair graph image q) (is_in_range graph image q) (and_parts _ _ parts.1).1 inner;
    }
      where
        range_by : (inner ranged : Bool) → (not inner || ranged) ≡ true → inner ≡ true → ranged ≡ true
        range_by true ranged e f = e
        range_by false ranged e f = absurd (both_ways false refl f)
