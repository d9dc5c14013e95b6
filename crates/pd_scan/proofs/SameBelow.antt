-- Two formats over two images that see the same in each pair of a set which no edge leads out of: they have the same trees there.
use Rattle.std.proofs.Common.{◌≡◌, inl, inr, ℕ, zero, suc, ◌*◌, Bool, true, false, not, ◌||◌, List, [], ◌∷◌, map, refl, ap, ap₂, ◌∙◌}
use Rattle.std.specs.List.{AllByRecursion, flat_map, list_any, list_all, range_with_len}
use Rattle.std.proofs.lemmas.Bool.{and_from, cases_Bool, cond_both, not_from_false}
use Rattle.pd_kinds.specs.Graph.{is_outside, Graph, block_at, pair, block_of, role_of, is_inner_pair, is_reached_from, next, nodes_from, own_keys, are_children_in_range, children, gathered, has_chain, is_deep, is_in_range, keys_below}
use Rattle.pd_kinds.specs.Layout.{leaf_entries}
use Rattle.pd_kinds.specs.Paths.{IsOnPathFrom, start, edge}
use Rattle.pd_kinds.specs.Rule.{all_rules}
use Rattle.pd_kinds.specs.Trees.{entries_below}
use Rattle.pd_kinds.proofs.KindsListLemmas.{holds_among}
use Rattle.pd_kinds.proofs.ListLemmas.{all_from}
use Rattle.pd_kinds.proofs.PathLemmas.{path_from_reached}
use Rattle.pd_laid.specs.FoundRoots.{is_sound_pair, is_sound_tree}
use Rattle.pd_laid.proofs.GatherLemmas.{same_each}
use Rattle.pd_scan.proofs.SoundLemmas.{all_kept}

-- lists are made of others in two ways that are the same for each element
pub map_same : {X Y : Type 0} → (f g : X → Y) (xs : List X) → AllByRecursion (λ x. f x ≡ g x) xs → map f xs ≡ map g xs
map_same f g [] same = refl
map_same f g (x ∷ xs) same = rw (same.0, map_same f g xs same.1) refl

any_same : (f g : ℕ → Bool) (xs : List ℕ) → AllByRecursion (λ x. f x ≡ g x) xs → list_any f xs ≡ list_any g xs
any_same f g [] same = refl
any_same f g (x ∷ xs) same = rw (same.0, any_same f g xs same.1) refl

module _ (graph other : Graph) (image lost : List (List ℕ)) (P : ℕ → Type 0)
    (block_same : (p : ℕ) → P p → block_at lost (block_of p) ≡ block_at image (block_of p))
    (inner_same : (p : ℕ) → P p → is_inner_pair other lost p ≡ is_inner_pair graph image p)
    (next_same : (p : ℕ) → P p → next other lost p ≡ next graph image p)
    (keys_same : (p : ℕ) → P p → own_keys other lost p ≡ own_keys graph image p)
    (each : (p : ℕ) → P p → AllByRecursion P (next graph image p)) where
  children_same : (p : ℕ) → P p → children other lost p ≡ children graph image p
  unfolding children
  children_same p is = rw (inner_same p is, next_same p is) refl

  child_each : (p : ℕ) → P p → AllByRecursion P (children graph image p)
  unfolding children
  child_each p is = cond_both (is_inner_pair graph image p) (next graph image p) [] (AllByRecursion P) (λ _. each p is) (λ _. tt)

  pub chain_same : (j p : ℕ) → P p → has_chain (children other lost) j p ≡ has_chain (children graph image) j p
  unfolding has_chain
  chain_same zero p is = refl
  chain_same (suc j) p is =
      ap (list_any (has_chain (children other lost) j)) (children_same p is)
      ∙ any_same (has_chain (children other lost) j) (has_chain (children graph image) j) (children graph image p)
      (all_from P (λ q. has_chain (children other lost) j q ≡ has_chain (children graph image) j q) (chain_same j) (children graph image p) (child_each p is))

  gathered_same : {X : Type 0} (own there : ℕ → List X) → ((p : ℕ) → P p → there p ≡ own p) → (j p : ℕ) → P p
      → gathered (is_inner_pair other lost) (children other lost) there j p ≡ gathered (is_inner_pair graph image) (children graph image) own j p
  unfolding gathered
  gathered_same own there same zero p is = rw (inner_same p is, same p is) refl
  gathered_same own there same (suc j) p is =
      let here = gathered (is_inner_pair graph image) (children graph image) own j in
      let other_way = gathered (is_inner_pair other lost) (children other lost) there j in
      let below = ap (flat_map other_way) (children_same p is)
      ∙ same_each other_way here (children graph image p)
      (all_from P (λ q. other_way q ≡ here q) (gathered_same own there same j) (children graph image p) (child_each p is)) in
      rw (inner_same p is, same p is, below) refl

  pub range_same : (p : ℕ) → P p → is_in_range other lost p ≡ is_in_range graph image p
  unfolding is_in_range keys_below
  range_same p is =
      ap₂ are_children_in_range (keys_same p is)
      (ap (map (keys_below other lost)) (children_same p is)
      ∙ map_same (keys_below other lost) (keys_below graph image) (children graph image p)
      (all_from P (λ q. keys_below other lost q ≡ keys_below graph image q) (gathered_same (own_keys graph image) (own_keys other lost) keys_same 63)
      (children graph image p) (child_each p is)))

  -- so the same entries stand below
  pub entries_same : (size role b : ℕ) → P (pair b role) → entries_below other lost size role b ≡ entries_below graph image size role b
  unfolding entries_below
  entries_same size role b is =
      gathered_same (λ p. leaf_entries size (block_at image (block_of p))) (λ p. leaf_entries size (block_at lost (block_of p)))
      (λ p is. ap (leaf_entries size) (block_same p is)) 63 (pair b role) is

  module _ (unbroken : (p : ℕ) → P p → list_any (other.bad (role_of p) (block_of p) (block_at lost (block_of p))) all_rules ≡ false)
      (level : (p : ℕ) → P p → is_deep graph image p ≡ false)
      (range : (p : ℕ) → P p → is_inner_pair graph image p ≡ true → is_in_range graph image p ≡ true) where
    in_range : (p : ℕ) → P p → (not (is_inner_pair other lost p) || is_in_range other lost p) ≡ true
    in_range p is = elim (cases_Bool (is_inner_pair graph image p)) [
      | inl inner ↦ rw (inner_same p is, inner) (range_same p is ∙ range p is inner)
      | inr leaf ↦ rw (inner_same p is, leaf) refl
    ]

    pair_sound : (p : ℕ) → P p → is_sound_pair other lost p ≡ true
    unfolding is_sound_pair is_deep
    pair_sound p is =
        and_from _ _ (not_from_false _ (unbroken p is)) (and_from _ _ (ap not (chain_same 64 p is ∙ level p is)) (in_range p is))

    on_path : (first q : ℕ) → P first → IsOnPathFrom (16 * other.nr) (next other lost) first q → P q
    on_path first q is start = is
    on_path first q is (edge t q' small path leads) =
        let met = on_path first t is path in
        holds_among P (next graph image t) q (each t met) (rw (next_same t met) at leads)

    -- and a tree that the set has is sound
    pub tree_sound : (role root : ℕ) → is_outside other.nr root ≡ false → P (pair root role) → is_sound_tree other lost role root ≡ true
    unfolding is_sound_tree
    tree_sound role root inside is =
        and_from (not (is_outside other.nr root)) (list_all (is_sound_pair other lost) (nodes_from other lost (pair root role)))
        (not_from_false (is_outside other.nr root) inside)
        (all_kept (is_sound_pair other lost) (is_reached_from other lost (pair root role)) (range_with_len 0 (16 * other.nr))
        (λ q e. pair_sound q (on_path (pair root role) q is (path_from_reached (16 * other.nr) (next other lost) (16 * other.nr) q e))))
