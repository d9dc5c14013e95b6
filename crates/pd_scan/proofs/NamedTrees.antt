-- Sound trees as those of an image whose block 0 names them: what is known of reached trees holds of found ones.
use Rattle.std.proofs.Common.{◌≡◌, ◌⊎◌, inl, inr, ℕ, zero, suc, ◌*◌, ◌<◌, ◌≤◌, Bool, true, false, not, ◌||◌, nat_eq, List, map, refl, ap, ◌∙◌, arith}
use Rattle.std.specs.List.{AllByRecursion, list_any}
use Rattle.std.proofs.lemmas.Bool.{and_parts, both_ways, cases_Bool, not-true}
use Rattle.pd_kinds.specs.declared.rule.Rule.{Rule}
use Rattle.pd_kinds.specs.Graph.{Edge, Graph, block_at, pair, block_of, role_of, edges_of, is_inner_pair, is_reached, next, own_keys, children, has_chain, is_deep, is_in_range}
use Rattle.pd_kinds.specs.Lawful.{IsLawful, IsWithin}
use Rattle.pd_kinds.specs.Layout.{Layout, copy, graph_of, is_bad}
use Rattle.pd_kinds.specs.Paths.{IsOnPathFrom, start, edge}
use Rattle.pd_kinds.specs.Rule.{all_rules}
use Rattle.pd_kinds.specs.Stages.{IsReached}
use Rattle.pd_kinds.specs.Trees.{entries_below}
use Rattle.pd_kinds.proofs.KindsListLemmas.{holds_among}
use Rattle.pd_kinds.specs.InOrder.{AreInOrder}
use Rattle.pd_kinds.proofs.ListLemmas.{all_from, all_from_two, all_mapped}
use Rattle.pd_kinds.proofs.PathLemmas.{path_from_reached, reached_from_path}
use Rattle.pd_kinds.proofs.SoundLemmas.{none_broken}
use Rattle.pd_laid.specs.FoundRoots.{is_sound_pair}
use Rattle.pd_laid.proofs.NodeFacts.{among_mapped, block_pair, role_pair}
use Rattle.pd_scan.proofs.SameBelow.{chain_same, entries_same, range_same}
use Rattle.pd_scan.proofs.SoundLemmas.{IsInside, AreSound, next_inside, small_inside, sound_after, sound_here}

-- a table of layouts, but that block 0 names these blocks and breaks no rule
abbrev pub with_roots : (ℕ → Layout) → List Edge → ℕ → Layout
with_roots layout roots zero = copy (λ place block broken. false) (λ block. roots)
with_roots layout roots (suc role) = layout (suc role)

layout_same : (layout : ℕ → Layout) (roots : List Edge) (role : ℕ) → 1 ≤ role → with_roots layout roots role ≡ layout role
layout_same layout roots zero some = absurd (omega arith)
layout_same layout roots (suc role) some = refl

range_by : (inner ranged : Bool) → (not inner || ranged) ≡ true → inner ≡ true → ranged ≡ true
range_by inner ranged e f = rw f at e

module _ (roles nr data_blocks : ℕ) (layout : ℕ → Layout) (image : List (List ℕ)) (lawful : IsLawful (graph_of roles nr data_blocks layout)) where
  abbrev graph : Graph
  graph = graph_of roles nr data_blocks layout

  -- a pair that is inside and no superblock, and sound with all that is reached from it
  pub record IsPart (p : ℕ) : Type 0 where
    pub inside : IsInside graph p
    pub sound : AreSound graph image lawful p
    pub role : 1 ≤ role_of p

  -- its edges lead to such pairs
  roles_up : (p : ℕ) → IsPart p → AllByRecursion (λ (e : Edge). 1 ≤ e.role) (edges_of graph image p)
  roles_up p part =
      let some = part.role in
      let laws = lawful.each (role_of p) (block_of p) (block_at image (block_of p)) part.inside.known in
      elim (cases_Bool (is_inner_pair graph image p)) [
        | inl inner ↦ all_from (λ (e : Edge). e.role ≡ role_of p) (λ (e : Edge). 1 ≤ e.role) (λ e same. omega arith) (edges_of graph image p) (laws.inner_edges inner)
        | inr other ↦ all_from (λ (e : Edge). role_of p < e.role) (λ (e : Edge). 1 ≤ e.role) (λ e above. omega arith) (edges_of graph image p) (laws.other_edges other)
      ]

  each : (p : ℕ) → IsPart p → AllByRecursion IsPart (next graph image p)
  unfolding next
  each p part =
      let edges = edges_of graph image p in
      let few = lawful.few_roles in
      all_mapped (λ (e : Edge). pair e.block e.role) IsPart edges
      (all_from_two (λ (e : Edge). (e.role < 16) × (1 ≤ e.role)) (λ (e : Edge). list_any (λ q. nat_eq q (pair e.block e.role)) (map (λ (e : Edge). pair e.block e.role) edges) ≡ true)
      (λ (e : Edge). IsPart (pair e.block e.role))
      (λ e role leads.
      let small = role.0 in
      let some = role.1 in
      record {
        inside = next_inside graph image lawful p (pair e.block e.role) part.inside leads;
        sound = sound_after graph image lawful p (pair e.block e.role) (small_inside graph image lawful p part.inside) leads part.sound;
        role = omega arith;
      })
      edges
      (all_from_two (IsWithin graph) (λ (e : Edge). 1 ≤ e.role) (λ (e : Edge). (e.role < 16) × (1 ≤ e.role))
      (λ e within some. let known = within.known in (omega arith, some)) edges
      (lawful.each (role_of p) (block_of p) (block_at image (block_of p)) part.inside.known).within (roles_up p part))
      (among_mapped (λ (e : Edge). pair e.block e.role) edges))

  -- an edge that leads to such a pair
  abbrev pub IsNamed : Edge → Type 0
  IsNamed e = (e.role < 16) × IsPart (pair e.block e.role)

  module _ (roots : List Edge) (are_named : AllByRecursion IsNamed roots) where
    abbrev pub named : Graph
    named = graph_of roles nr data_blocks (with_roots layout roots)

    -- both formats see the same in such a pair
    inner_same : (p : ℕ) → IsPart p → is_inner_pair named image p ≡ is_inner_pair graph image p
    unfolding graph_of
    inner_same p part = rw (layout_same layout roots (role_of p) part.role) refl

    next_same : (p : ℕ) → IsPart p → next named image p ≡ next graph image p
    unfolding next graph_of
    next_same p part = rw (layout_same layout roots (role_of p) part.role) refl

    keys_same : (p : ℕ) → IsPart p → own_keys named image p ≡ own_keys graph image p
    unfolding graph_of
    keys_same p part = rw (layout_same layout roots (role_of p) part.role) refl

    -- and nothing else is reached but block 0
    first_next : next named image 0 ≡ map (λ (e : Edge). pair e.block e.role) roots
    unfolding next graph_of is_bad all_rules
    first_next = refl

    parts : AllByRecursion IsPart (map (λ (e : Edge). pair e.block e.role) roots)
    parts =
        all_mapped (λ (e : Edge). pair e.block e.role) IsPart roots
        (all_from IsNamed (λ (e : Edge). IsPart (pair e.block e.role)) (λ e is. is.1) roots are_named)

    on_path : (p : ℕ) → IsOnPathFrom (16 * named.nr) (next named image) 0 p → (p ≡ 0) ⊎ IsPart p
    on_path p start = inl refl
    on_path p (edge q p' small path leads) = elim (on_path q path) [
      | inl first ↦
          inr (holds_among IsPart (map (λ (e : Edge). pair e.block e.role) roots) p parts (rw (first, first_next) at leads))
      | inr part ↦ inr (holds_among IsPart (next graph image q) p (each q part) (rw (next_same q part) at leads))
    ]

    met : (b role : ℕ) → IsReached named image b role → (pair b role ≡ 0) ⊎ IsPart (pair b role)
    unfolding is_reached
    met b role found = on_path (pair b role) (path_from_reached (16 * named.nr) (next named image) (16 * named.nr) (pair b role) found.found)

    pub part_is : (b role : ℕ) → 1 ≤ role → IsReached named image b role → IsPart (pair b role)
    part_is b role some found = elim (met b role found) [
      | inl first ↦ absurd (omega arith)
      | inr part ↦ part
    ]

    -- the order of what is reached
    unbroken : (b role : ℕ) → role < 16 → IsPart (pair b role) → (broken : Rule) → named.bad role b (block_at image b) broken ≡ false
    unfolding is_sound_pair graph_of
    unbroken b role few part broken =
        let role_is = role_pair b role few in
        let block_is = block_pair b role few in
        let some = part.role in
        rw (layout_same layout roots role (omega arith))
        (rw (role_is, block_is) at
        (none_broken (graph.bad (role_of (pair b role)) (block_of (pair b role)) (block_at image (block_of (pair b role))))
        (not-true (list_any (graph.bad (role_of (pair b role)) (block_of (pair b role)) (block_at image (block_of (pair b role)))) all_rules)
        (and_parts _ _ (sound_here graph image lawful (pair b role) part.sound)).0) broken))

    first_unbroken : (b role : ℕ) → pair b role ≡ 0 → (broken : Rule) → named.bad role b (block_at image b) broken ≡ false
    unfolding graph_of
    first_unbroken b role first broken = let zero_role : role ≡ 0 = omega arith in rw zero_role refl

    first_leaf : is_inner_pair named image 0 ≡ false
    unfolding graph_of
    first_leaf = refl

    first_level : is_deep named image 0 ≡ false
    unfolding is_deep has_chain children graph_of
    first_level = refl

    pub ordered : AreInOrder named image
    unfolding is_deep is_sound_pair
    ordered = record {
      well_formed = λ b role found. elim (met b role found) [
        | inl first ↦ first_unbroken b role first
        | inr part ↦ unbroken b role found.within part
      ];
      not_deep = λ b role found. elim (met b role found) [
        | inl first ↦ rw first first_level
        | inr part ↦
            chain_same graph named image image IsPart (λ p is. refl) inner_same next_same keys_same each 64 (pair b role) part
            ∙ not-true (is_deep graph image (pair b role)) (and_parts _ _ (and_parts _ _ (sound_here graph image lawful (pair b role) part.sound)).1).0
      ];
      in_range = λ b role found inner. elim (met b role found) [
        | inl first ↦ absurd (both_ways _ first_leaf (rw first at inner))
        | inr part ↦
            range_same graph named image image IsPart (λ p is. refl) inner_same next_same keys_same each (pair b role) part
            ∙ range_by (is_inner_pair graph image (pair b role)) (is_in_range graph image (pair b role))
            (and_parts _ _ (and_parts _ _ (sound_here graph image lawful (pair b role) part.sound)).1).1 (rw (inner_same (pair b role) part) at inner)
      ];
    }

    -- the entries below such a pair are the same
    pub entries_named : (size b role : ℕ) → IsPart (pair b role) → entries_below named image size role b ≡ entries_below graph image size role b
    entries_named size b role part =
        entries_same graph named image image IsPart (λ p is. refl) inner_same next_same keys_same each size role b part

    -- and the roots are reached
    pub roots_reached : AllByRecursion (λ (e : Edge). IsReached named image e.block e.role) roots
    unfolding is_reached graph_of
    roots_reached =
        let blocks = lawful.some_block in
        all_from_two IsNamed (λ (e : Edge). list_any (λ q. nat_eq q (pair e.block e.role)) (map (λ (e : Edge). pair e.block e.role) roots) ≡ true)
        (λ (e : Edge). IsReached named image e.block e.role)
        (λ e is leads.
        let few = is.0 in
        let below = is.1.inside.below in
        record {
          block = omega arith;
          within = few;
          found =
              reached_from_path (16 * nr) (next named image) (pair e.block e.role)
              (edge 0 (pair e.block e.role) (omega arith) start (ap (list_any (λ q. nat_eq q (pair e.block e.role))) first_next ∙ leads));
        })
        roots are_named (among_mapped (λ (e : Edge). pair e.block e.role) roots)
