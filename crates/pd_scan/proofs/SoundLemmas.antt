-- Good nodes are the roots of sound trees.
use Rattle.std.proofs.Common.{◌≡◌, ℕ, ◌<◌, Bool, true, false, cond, List, [], ◌∷◌, filter, refl, arith, ◌⊎◌, inl, inr, zero, suc, ◌*◌, ◌≤◌, ◌||◌, not, nat_eq, nat_lt, map, sym, ◌∙◌, ap, subst, eq-eqb}
use Rattle.std.specs.List.{list_all, range_with_len, AllByRecursion}
use Rattle.std.proofs.lemmas.Bool.{and_from, cases_Bool, or_cases, or_left, or_right, and_parts, eqb-true, eqb-false, both_ways, ne_eqb, lt-ltb, ltb-true, not-true}
use Rattle.pd_kinds.specs.Paths.{IsOnPathFrom, start, edge}
use Rattle.pd_kinds.specs.Graph.{Edge, is_outside, Graph, block_at, pair, block_of, role_of, edges_of, next, is_inner_pair, is_reached_from, nodes_from, children, has_chain, is_deep, is_in_range}
use Rattle.pd_kinds.specs.Lawful.{IsLawful, IsWithin}
use Rattle.pd_kinds.proofs.NumberLemmas.{same_test}
use Rattle.pd_kinds.proofs.PathLemmas.{path_from_reached, reached_from_path}
use Rattle.pd_laid.specs.FoundRoots.{is_sound_pair, is_sound_tree}
use Rattle.pd_graph.proofs.BitLemmas.{pair_block, pair_role}
use Rattle.pd_settle.specs.Settled.{is_good, is_well, is_good_node}
use Rattle.pd_settle.proofs.ChainLemmas.{is_among, ends_below}
use Rattle.pd_settle.proofs.GoodLemmas.{good_well, good_child, good_ends, good_from, chain_none}
use Rattle.pd_settle.proofs.NodeLemmas.{child_of, role_of_child}
use Rattle.pd_measures.proofs.SoundLemmas.{kept_from, less_of}
use Rattle.pd_scan.specs.Lost.{is_unbroken, is_fit_root}

-- Paths that go on, and what is reached by them.

-- a path after a path
pub path_after : (n : ℕ) (step : ℕ → List ℕ) (a b c : ℕ) → IsOnPathFrom n step a b → IsOnPathFrom n step b c → IsOnPathFrom n step a c
path_after n step a b c first start = first
path_after n step a b c first (edge q c' small path leads) = edge q c' small (path_after n step a b q first path) leads

-- what is kept of a range passes
kept_first : (f : ℕ → Bool) (b : Bool) (x : ℕ) (kept : List ℕ) → (b ≡ true → f x ≡ true) → list_all f kept ≡ true → list_all f (cond b (x ∷ kept) kept) ≡ true
kept_first f true x kept one all = and_from (f x) (list_all f kept) (one refl) all
kept_first f false x kept one all = all

pub all_kept : (f g : ℕ → Bool) (xs : List ℕ) → ((x : ℕ) → g x ≡ true → f x ≡ true) → list_all f (filter g xs) ≡ true
all_kept f g [] each = refl
all_kept f g (x ∷ xs) each = kept_first f (g x) x (filter g xs) (each x) (all_kept f g xs each)

pub kept_passes : (f g : ℕ → Bool) (n q : ℕ) → q < n → g q ≡ true → list_all f (filter g (range_with_len 0 n)) ≡ true → f q ≡ true
kept_passes f g n q small passes all = kept_from f g 0 n q (omega arith) (omega arith) passes all

pub inside_by : (nr b : ℕ) → 1 ≤ b → b < nr → not (is_outside nr b) ≡ true
inside_by nr b low small = rw (ne_eqb b 0 (λ e. absurd (omega arith)), lt-ltb b nr small) refl

inside_parts : (nr b : ℕ) → not (is_outside nr b) ≡ true → (1 ≤ b) × (b < nr)
inside_parts nr b e =
    let tests = less_of (nat_eq b 0) (nat_lt b nr) e in
    let some = eqb-false b 0 tests.0 in
    (omega arith, ltb-true b nr tests.1)

leaf_alone : (inner all : Bool) → (inner || all) ≡ true → inner ≡ false → all ≡ true
leaf_alone true all e f = absurd (both_ways true f refl)
leaf_alone false all e f = e

-- a pair inside: a role that there is, and a block past the first
pub record IsInside (graph : Graph) (p : ℕ) : Type 0 where
  pub known : role_of p < graph.roles
  pub some : 1 ≤ block_of p
  pub below : block_of p < graph.nr

module _ (graph : Graph) (image : List (List ℕ)) (lawful : IsLawful graph) where
  edges_inside : (es : List Edge) (t : ℕ) → AllByRecursion (IsWithin graph) es → is_among t (map (λ (e : Edge). pair e.block e.role) es) ≡ true → IsInside graph t
  edges_inside [] t all leads = absurd (both_ways _ refl leads)
  edges_inside (x ∷ xs) t all leads = elim (or_cases (nat_eq (pair x.block x.role) t) _ leads) [
    | inl same ↦
        let first = all.0 in
        let few = lawful.few_roles in
        let known = first.known in
        let one = first.from_one in
        let less = first.below in
        let role = pair_role x.block x.role (omega arith) in
        let block = pair_block x.block x.role (omega arith) in
        subst (IsInside graph) (eqb-true (pair x.block x.role) t same) (record { known = omega arith; some = omega arith; below = omega arith })
    | inr later ↦ edges_inside xs t all.1 later
  ]

  pub next_inside : (q t : ℕ) → IsInside graph q → is_among t (next graph image q) ≡ true → IsInside graph t
  unfolding next
  next_inside q t inside leads =
      edges_inside (edges_of graph image q) t (lawful.each (role_of q) (block_of q) (block_at image (block_of q)) inside.known).within leads

  pub small_inside : (q : ℕ) → IsInside graph q → q < 16 * graph.nr
  small_inside q inside = let below = inside.below in omega arith

  path_inside : (first t : ℕ) → IsInside graph first → IsOnPathFrom (16 * graph.nr) (next graph image) first t → IsInside graph t
  path_inside first t inside start = inside
  path_inside first t inside (edge q t' small path leads) = next_inside q t' (path_inside first q inside path) leads

  -- all that is reached from a pair is sound
  pub AreSound : ℕ → Type 0
  AreSound first = (t : ℕ) → IsOnPathFrom (16 * graph.nr) (next graph image) first t → is_sound_pair graph image t ≡ true

  pub sound_from_tree : (role root : ℕ) → IsInside graph (pair root role) → is_sound_tree graph image role root ≡ true → AreSound (pair root role)
  unfolding is_sound_tree AreSound
  sound_from_tree role root inside sound t path =
      kept_passes (is_sound_pair graph image) (is_reached_from graph image (pair root role)) (16 * graph.nr) t
      (small_inside t (path_inside (pair root role) t inside path)) (reached_from_path (16 * graph.nr) (next graph image) t path)
      (and_parts (not (is_outside graph.nr root)) (list_all (is_sound_pair graph image) (nodes_from graph image (pair root role))) sound).1

  tree_from_sound : (role root : ℕ) → 1 ≤ root → root < graph.nr → AreSound (pair root role) → is_sound_tree graph image role root ≡ true
  unfolding is_sound_tree AreSound
  tree_from_sound role root low small all =
      and_from (not (is_outside graph.nr root)) (list_all (is_sound_pair graph image) (nodes_from graph image (pair root role)))
      (inside_by graph.nr root low small)
      (all_kept (is_sound_pair graph image) (is_reached_from graph image (pair root role)) (range_with_len 0 (16 * graph.nr))
      (λ q e. all q (path_from_reached (16 * graph.nr) (next graph image) (16 * graph.nr) q e)))

  pub sound_after : (q p : ℕ) → q < 16 * graph.nr → is_among p (next graph image q) ≡ true → AreSound q → AreSound p
  unfolding AreSound
  sound_after q p small leads all t path = all t (path_after (16 * graph.nr) (next graph image) q p t (edge q p small start leads) path)

  pub sound_here : (q : ℕ) → AreSound q → is_sound_pair graph image q ≡ true
  unfolding AreSound
  sound_here q all = all q start

  -- what a leaf names, where each is the root of a sound tree
  named_sound : (es : List Edge) (p : ℕ) → AllByRecursion (IsWithin graph) es → list_all (λ (e : Edge). is_sound_tree graph image e.role e.block) es ≡ true
      → is_among p (map (λ (e : Edge). pair e.block e.role) es) ≡ true → AreSound p
  named_sound [] p all sound leads = absurd (both_ways _ refl leads)
  named_sound (x ∷ xs) p all sound leads =
      let parts = and_parts (is_sound_tree graph image x.role x.block) (list_all (λ (e : Edge). is_sound_tree graph image e.role e.block) xs) sound in
      elim (or_cases (nat_eq (pair x.block x.role) p) _ leads) [
        | inl same ↦
            let here = edges_inside (x ∷ []) (pair x.block x.role) (all.0, tt) (or_left (nat_eq (pair x.block x.role) (pair x.block x.role)) _ (eq-eqb (pair x.block x.role) (pair x.block x.role) refl)) in
            subst AreSound (eqb-true (pair x.block x.role) p same) (sound_from_tree x.role x.block here parts.0)
        | inr later ↦ named_sound xs p all.1 parts.1 later
      ]

  pub sound_named : (es : List Edge) → AllByRecursion (IsWithin graph) es → ((t : ℕ) → is_among t (map (λ (e : Edge). pair e.block e.role) es) ≡ true → AreSound t)
      → list_all (λ (e : Edge). is_sound_tree graph image e.role e.block) es ≡ true
  sound_named [] all each = refl
  sound_named (x ∷ xs) all each =
      let first = all.0 in
      and_from (is_sound_tree graph image x.role x.block) (list_all (λ (e : Edge). is_sound_tree graph image e.role e.block) xs)
      (tree_from_sound x.role x.block first.from_one first.below
      (each (pair x.block x.role) (or_left (nat_eq (pair x.block x.role) (pair x.block x.role)) _ (eq-eqb (pair x.block x.role) (pair x.block x.role) refl))))
      (sound_named xs all.1 (λ t among. each t (or_right (nat_eq (pair x.block x.role) t) _ among)))

  -- the root of a sound tree is inside
  pub inside_at : (role : ℕ) → role < graph.roles → (b : ℕ) → is_sound_tree graph image role b ≡ true → IsInside graph (pair b role) × (role_of (pair b role) ≡ role)
  unfolding is_sound_tree
  inside_at role known b sound =
      let parts = inside_parts graph.nr b (and_parts _ _ sound).0 in
      let some = parts.0 in
      let below = parts.1 in
      let few = lawful.few_roles in
      let same = pair_role b role (omega arith) in
      let place = pair_block b role (omega arith) in
      (record { known = omega arith; some = omega arith; below = omega arith }, same)

  module _ (role : ℕ) (fit : ℕ → Bool) (known : role < graph.roles) (told : (b : ℕ) → b < graph.nr → fit b ≡ is_fit_root graph image role b) where
    fit_told : (q : ℕ) → IsInside graph q → role_of q ≡ role → fit (block_of q) ≡ is_fit_root graph image (role_of q) (block_of q)
    fit_told q inside same = told (block_of q) inside.below ∙ ap (λ (r : ℕ). is_fit_root graph image r (block_of q)) (sym same)

    -- what a good node's block is by itself
    good_fit : (q : ℕ) → IsInside graph q → role_of q ≡ role → is_good_node graph image fit true q ≡ true → is_fit_root graph image (role_of q) (block_of q) ≡ true
    unfolding is_good_node
    good_fit q inside same good =
        sym (fit_told q inside same)
        ∙ (and_parts (fit (block_of q)) _ (good_well (is_well graph image fit true) (children graph image) 63 q good)).0

    good_sound : (q : ℕ) → IsInside graph q → role_of q ≡ role → is_good_node graph image fit true q ≡ true → is_sound_pair graph image q ≡ true
    unfolding is_good_node is_sound_pair is_fit_root is_unbroken is_deep
    good_sound q inside same good =
        and_from _ _ (and_parts _ _ (and_parts _ _ (good_fit q inside same good)).1).0
        (and_from (not (has_chain (children graph image) 64 q)) (not (is_inner_pair graph image q) || is_in_range graph image q)
        (ap not (good_ends (is_well graph image fit true) (children graph image) 64 q good))
        (and_parts (fit (block_of q)) (not (is_inner_pair graph image q) || is_in_range graph image q)
        (good_well (is_well graph image fit true) (children graph image) 63 q good)).1)

    -- what is reached from a good node is a good node of the role, or sound with all that it reaches
    IsWayOn : ℕ → Type 0
    IsWayOn q = (IsInside graph q × (role_of q ≡ role) × (is_good_node graph image fit true q ≡ true)) ⊎ AreSound q

    child_on : (q p : ℕ) → is_inner_pair graph image q ≡ true → is_among p (next graph image q) ≡ true → is_among p (children graph image q) ≡ true
    unfolding children
    child_on q p e leads = ap (λ (x : Bool). is_among p (cond x (next graph image q) [])) e ∙ leads

    child_good : (q p : ℕ) → is_good_node graph image fit true q ≡ true → is_among p (children graph image q) ≡ true → is_good_node graph image fit true p ≡ true
    unfolding is_good_node
    child_good q p good among = good_child (is_well graph image fit true) (children graph image) 63 q p good among

    leaf_on : (q p : ℕ) → IsInside graph q → role_of q ≡ role → is_good_node graph image fit true q ≡ true → is_inner_pair graph image q ≡ false
        → is_among p (next graph image q) ≡ true → AreSound p
    unfolding is_fit_root next
    leaf_on q p inside same good leaf leads =
        named_sound (edges_of graph image q) p (lawful.each (role_of q) (block_of q) (block_at image (block_of q)) inside.known).within
        (leaf_alone (is_inner_pair graph image q) (list_all (λ (e : Edge). is_sound_tree graph image e.role e.block) (edges_of graph image q))
        (and_parts _ _ (and_parts _ _ (good_fit q inside same good)).1).1 leaf) leads

    way_on : (q p : ℕ) → q < 16 * graph.nr → is_among p (next graph image q) ≡ true → IsWayOn q → IsWayOn p
    unfolding IsWayOn
    way_on q p small leads (inl here) = elim (cases_Bool (is_inner_pair graph image q)) [
      | inl e ↦
          inl (
            next_inside q p here.0 leads,
            role_of_child graph image lawful q p here.0.known e leads ∙ here.1,
            child_good q p here.2 (child_on q p e leads),
          )
      | inr leaf ↦ inr (leaf_on q p here.0 here.1 here.2 leaf leads)
    ]
    way_on q p small leads (inr all) = inr (sound_after q p small leads all)

    way_from : (first t : ℕ) → IsWayOn first → IsOnPathFrom (16 * graph.nr) (next graph image) first t → IsWayOn t
    way_from first t here start = here
    way_from first t here (edge q t' small path leads) = way_on q t' small leads (way_from first q here path)

    way_sound : (q : ℕ) → IsWayOn q → is_sound_pair graph image q ≡ true
    unfolding IsWayOn
    way_sound q (inl here) = good_sound q here.0 here.1 here.2
    way_sound q (inr all) = sound_here q all

    way_start : (first : ℕ) → IsInside graph first → role_of first ≡ role → is_good_node graph image fit true first ≡ true → IsWayOn first
    unfolding IsWayOn
    way_start first inside same good = inl (inside, same, good)

    all_from_good : (first : ℕ) → IsInside graph first → role_of first ≡ role → is_good_node graph image fit true first ≡ true → AreSound first
    unfolding AreSound
    all_from_good first inside same good t path = way_sound t (way_from first t (way_start first inside same good) path)

    -- and the other way round
    well_by : (q : ℕ) → IsInside graph q → role_of q ≡ role → AreSound q → is_well graph image fit true q ≡ true
    unfolding is_sound_pair is_fit_root is_unbroken next
    well_by q inside same all =
        let parts = and_parts _ _ (sound_here q all) in
        let range = (and_parts (not (is_deep graph image q)) (not (is_inner_pair graph image q) || is_in_range graph image q) parts.1).1 in
        and_from (fit (block_of q)) (not (is_inner_pair graph image q) || is_in_range graph image q)
        (fit_told q inside same
        ∙ and_from _ _ (inside_by graph.nr (block_of q) inside.some inside.below)
        (and_from _ _ parts.0
        (or_right (is_inner_pair graph image q) (list_all (λ (e : Edge). is_sound_tree graph image e.role e.block) (edges_of graph image q))
        (sound_named (edges_of graph image q) (lawful.each (role_of q) (block_of q) (block_at image (block_of q)) inside.known).within
        (λ t among. sound_after q t (small_inside q inside) among all))))) range

    good_by : (j q : ℕ) → IsInside graph q → role_of q ≡ role → AreSound q → has_chain (children graph image) j q ≡ false
        → is_good (is_well graph image fit true) (children graph image) j q ≡ true
    good_by zero q inside same all ends = absurd (both_ways _ ends (chain_none (children graph image) q))
    good_by (suc j) q inside same all ends =
        good_from (is_well graph image fit true) (children graph image) j q (well_by q inside same all)
        (λ c among.
        let child = child_of graph image lawful q c among in
        good_by j c (next_inside q c inside child.1) (role_of_child graph image lawful q c inside.known child.0 child.1 ∙ same)
        (sound_after q c (small_inside q inside) child.1 all) (ends_below (children graph image) j q c ends among))

    good_from_all : (q : ℕ) → IsInside graph q → role_of q ≡ role → AreSound q → is_good_node graph image fit true q ≡ true
    unfolding is_good_node is_sound_pair is_deep
    good_from_all q inside same all =
        good_by 64 q inside same all
        (not-true (has_chain (children graph image) 64 q)
        (and_parts (not (has_chain (children graph image) 64 q)) (not (is_inner_pair graph image q) || is_in_range graph image q) (and_parts _ _ (sound_here q all)).1).0)

    at_root : (b : ℕ) → 1 ≤ b → b < graph.nr → IsInside graph (pair b role)
    at_root b some small =
        let few = lawful.few_roles in
        let r = pair_role b role (omega arith) in
        let place = pair_block b role (omega arith) in
        record { known = omega arith; some = omega arith; below = omega arith }

    within : role < 16
    within = let few = lawful.few_roles in omega arith

    good_is_inside : (b : ℕ) → b < graph.nr → is_good_node graph image fit true (pair b role) ≡ true → 1 ≤ b
    unfolding is_good_node is_fit_root
    good_is_inside b small good =
        let is_fit = ap fit (sym (pair_block b role within))
        ∙ (and_parts (fit (block_of (pair b role))) _ (good_well (is_well graph image fit true) (children graph image) 63 (pair b role) good)).0 in
        (inside_parts graph.nr b (and_parts _ _ (sym (told b small) ∙ is_fit)).0).0

    pub good_is_sound : (b : ℕ) → b < graph.nr → is_good_node graph image fit true (pair b role) ≡ is_sound_tree graph image role b
    good_is_sound b small =
        same_test (is_good_node graph image fit true (pair b role)) (is_sound_tree graph image role b)
        (λ good.
        let some = good_is_inside b small good in
        tree_from_sound role b some small (all_from_good (pair b role) (at_root b some small) (pair_role b role within) good))
        (λ sound.
        let inside = inside_at role known b sound in
        good_from_all (pair b role) inside.0 inside.1 (sound_from_tree role b inside.0 sound))
