-- What is reached from a reached pair.
use Rattle.std.proofs.Common.{◌≡◌, ◌↔◌, inl, inr, ℕ, ◌*◌, ◌<◌, true, nat_eq, List, [], ◌∷◌, map, refl, arith, eq-eqb}
use Rattle.std.specs.List.{list_any, AllByRecursion}
use Rattle.std.proofs.lemmas.Bool.{or_cases, or_right, eqb-true}
use Rattle.pd_kinds.specs.Graph.{Edge, Graph, block_at, pair, block_of, role_of, edges_of, next, is_reached}
use Rattle.pd_kinds.specs.Lawful.{IsWithin, IsLawful}
use Rattle.pd_kinds.specs.Paths.{IsOnPath, start, edge}
use Rattle.pd_kinds.specs.Stages.{IsReached}
use Rattle.pd_kinds.proofs.ListLemmas.{all_from_two}

-- what holds of each edge's pair holds of a pair that the edges lead to
led_to : (P : ℕ → Type 0) (Q : Edge → Type 0) (c : ℕ) (edges : List Edge) → ((e : Edge) → Q e → P (pair e.block e.role)) → AllByRecursion Q edges
    → list_any (λ t. nat_eq t c) (map (λ (e : Edge). pair e.block e.role) edges) ≡ true → P c
led_to P Q c [] each all any = absurd (cc)
led_to P Q c (e ∷ edges) each all any = elim (or_cases (nat_eq (pair e.block e.role) c) _ any) [
  | inl here ↦ rw (eqb-true (pair e.block e.role) c here) at (each e all.0)
  | inr later ↦ led_to P Q c edges each all.1 later
]

-- what holds of each element whose number is among those of all
numbered : {X : Type 0} → (P : X → Type 0) (f : X → ℕ) (xs : List X) → ((x : X) → list_any (λ t. nat_eq t (f x)) (map f xs) ≡ true → P x) → AllByRecursion P xs
numbered P f [] each = tt
numbered P f (x ∷ xs) each = (
  each x (rw (eq-eqb (f x) (f x) refl) refl),
  numbered P f xs (λ y is. each y (or_right (nat_eq (f x) (f y)) (list_any (λ t. nat_eq t (f y)) (map f xs)) is)),
)

module _ (graph : Graph) (image : List (List ℕ)) (lawful : IsLawful graph) where
  -- a pair of the format that a path leads to
  pub record IsMet (p : ℕ) : Type 0 where
    pub block : block_of p < graph.nr
    pub known : role_of p < graph.roles
    pub path : IsOnPath (16 * graph.nr) (next graph image) p

  -- what a met pair leads to is met
  pub met_next : (p c : ℕ) → IsMet p → list_any (λ t. nat_eq t c) (next graph image p) ≡ true → IsMet c
  unfolding next
  met_next p c met leads =
      let within = (lawful.each (role_of p) (block_of p) (block_at image (block_of p)) met.known).within in
      let few = lawful.few_roles in
      let in_block = met.block in
      let below : p < 16 * graph.nr = omega arith in
      let bounds = led_to (λ q. (block_of q < graph.nr) × (role_of q < graph.roles)) (IsWithin graph) c (edges_of graph image p)
      (λ e is. let block = is.below in let role = is.known in (omega arith, omega arith)) within leads in
      record { block = bounds.0; known = bounds.1; path = edge p c below met.path leads }

  -- all that paths lead to is met
  met_on_path : (p : ℕ) → IsOnPath (16 * graph.nr) (next graph image) p → IsMet p
  met_on_path p start = let block = lawful.some_block in let role = lawful.some_role in record { block = omega arith; known = omega arith; path = start }
  met_on_path p (edge q p' below path leads) = met_next q p' (met_on_path q path) leads

  module _ (paths : (q : ℕ) → (is_reached graph image q ≡ true) ↔ IsOnPath (16 * graph.nr) (next graph image) q) where
    -- a reached pair is met
    pub met : (b role : ℕ) → IsReached graph image b role → IsMet (pair b role)
    met b role reached = met_on_path (pair b role) ((paths (pair b role)).0 reached.found)

    -- the superblock is reached
    pub start_reached : IsReached graph image 0 0
    start_reached = let some = lawful.some_block in record { block = omega arith; within = omega arith; found = (paths 0).1 start }

    -- what the edges of a met pair lead to is reached
    pub edges_reached : (b role : ℕ) → role < 16 → IsMet (pair b role) → AllByRecursion (λ (e : Edge). IsReached graph image e.block e.role) (graph.edges role b (block_at image b))
    unfolding next
    edges_reached b role within there =
        let few = lawful.few_roles in
        let same_role : role_of (pair b role) ≡ role = omega arith in
        let same_block : block_of (pair b role) ≡ b = omega arith in
        let in_block = there.block in
        let below : pair b role < 16 * graph.nr = omega arith in
        let known : role < graph.roles = rw same_role at there.known in
        let edges = graph.edges role b (block_at image b) in
        let same : edges_of graph image (pair b role) ≡ edges = rw (edges_of, same_role, same_block) refl in
        all_from_two (IsWithin graph) (λ (e : Edge). list_any (λ t. nat_eq t (pair e.block e.role)) (map (λ (e : Edge). pair e.block e.role) edges) ≡ true) (λ (e : Edge). IsReached graph image e.block e.role)
        (λ e is leads.
        let known_role = is.known in
        record { block = is.below; within = omega arith; found = (paths (pair e.block e.role)).1 (edge (pair b role) (pair e.block e.role) below there.path (rw same leads)) })
        edges (lawful.each role b (block_at image b) known).within
        (numbered (λ (e : Edge). list_any (λ t. nat_eq t (pair e.block e.role)) (map (λ (e : Edge). pair e.block e.role) edges) ≡ true) (λ (e : Edge). pair e.block e.role) edges (λ e is. is))
