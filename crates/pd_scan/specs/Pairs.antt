-- Pairs of a mapping tree and a details tree, by what is measured of them, and the best of some pairs.
-- The roots that a search finds, and the superblock that they are given.
-- The states of a pool without its superblock to choose from, and how they are found among all trees that were measured.
use Rattle.std.specs.Prelude.{◌≡◌, ℕ, max, Bool, true, false, ◌&&◌, if◌then◌else◌, List, Option, Some, None, ◌<◌, replicate, not, [], ◌∷◌, length, map, filter, take}
use Rattle.std.specs.Option.{option_map}
use Rattle.std.specs.List.{AllByRecursion, filter_map, prefix_len, range_with_len}
use Rattle.pd_kinds.specs.ThinFormat.{ThinFields}
use Rattle.pd_kinds.specs.Graph.{Graph}
use Rattle.pd_laid.specs.FoundRoots.{FoundRoots, is_better, lost_graph, are_fitting, devices_below, roots_at}
use Rattle.pd_answers.specs.FoundStates.{best_of, in_order, states}
use Rattle.pd_graph.specs.Notes.{size_of, note_in}
use Rattle.pd_measures.specs.Measured.{measure_at}
use Rattle.pd_scan.specs.declared.trees.LostTrees.{LostTrees}
use Rattle.pd_scan.specs.Partners.{is_partner, sum_of, time_at, is_noted_good}
use Rattle.pd_scan.specs.Lost.{AreLostTrees}
use Rattle.pd_scan.specs.declared.roots.Roots.{Roots}
use Rattle.pd_scan.specs.declared.states.State.{State}
use Rattle.pd_scan.specs.declared.states.FoundStates.{FoundStates}

-- a details tree is sound, and what is measured of it has the sum of a mapping tree
abbrev pub is_partner_of : LostTrees → ℕ → ℕ → Bool
is_partner_of trees top = is_partner trees.details trees.details_measures (sum_of (measure_at trees.top_measures top))

-- two trees may fit each other: both are sound, and what is measured of them has one sum
unfoldable pub may_fit : LostTrees → ℕ → ℕ → Bool
may_fit trees top details = is_noted_good trees.tops top && is_partner_of trees top details

-- the roots of two trees that fit each other, by what is measured of them
unfoldable pub pair_of_trees : LostTrees → ℕ → ℕ → FoundRoots
pair_of_trees trees top details = record {
  top = top;
  details = details;
  mappings = (measure_at trees.top_measures top).total;
  time = max (time_at trees.top_measures top) (time_at trees.details_measures details);
  transaction = (measure_at trees.details_measures details).transaction;
  times = (measure_at trees.top_measures top).times;
}

-- some roots are better than the best ones so far, if there are any
abbrev pub improves : FoundRoots → Option FoundRoots → Bool
improves roots None = true
improves roots (Some best) = is_better roots best

-- the better ones of the best so far and others, where there are some
abbrev pub better_of : Option FoundRoots → Option FoundRoots → Option FoundRoots
better_of best None = best
better_of best (Some roots) = if improves roots best then Some roots else best

-- the best of these pairs of trees, of which some fit: it fits, and none of them that fits is better
pub record IsBest (fits : ℕ → ℕ → Bool) (pair : ℕ → ℕ → FoundRoots) (IsAmong : ℕ → ℕ → Type 0) (best : FoundRoots) : Type 0 where
  pub fitting : fits best.top best.details ≡ true
  pub numbers : best ≡ pair best.top best.details
  pub none_better : (top details : ℕ) → IsAmong top details → fits top details ≡ true → is_better (pair top details) best ≡ false

-- the same, where some fit, and else there is none
abbrev pub IsBestOf : (ℕ → ℕ → Bool) → (ℕ → ℕ → FoundRoots) → (ℕ → ℕ → Type 0) → Option FoundRoots → Type 0
IsBestOf fits pair IsAmong None = (top details : ℕ) → IsAmong top details → fits top details ≡ false
IsBestOf fits pair IsAmong (Some best) = IsBest fits pair IsAmong best

-- the trees are those of an image, with so many data blocks
pub record AreTreesOf (image : List (List ℕ)) (data_blocks : ℕ) (trees : LostTrees) : Type 0 where
  pub number : (lost_graph image data_blocks).nr ≡ size_of trees.tops
  pub places : size_of trees.details ≡ size_of trees.tops
  pub told : AreLostTrees (lost_graph image data_blocks) image trees

-- the roots, in the terms of what is best
abbrev pub roots_of : Roots → FoundRoots
roots_of roots = record {
  top = roots.top;
  details = roots.details;
  mappings = roots.mappings;
  time = roots.time;
  transaction = roots.transaction;
  times = roots.times;
}

abbrev pub found_of : Option Roots → Option FoundRoots
found_of found = option_map roots_of found

-- both roots are among so many blocks
pub record AreInside (nr : ℕ) (roots : Roots) : Type 0 where
  pub top : roots.top < nr
  pub details : roots.details < nr

-- the superblock of found roots: its uuid is zeros, its time the latest one below them, and what isn't given is 0
abbrev pub lost_fields : FoundRoots → ℕ → ℕ → ℕ → ℕ → ThinFields
lost_fields roots transaction block_size meta_blocks data_blocks = record {
  flags = 0;
  uuid = replicate 16 0;
  version = 2;
  time = roots.time;
  transaction = transaction;
  held_root = 0;
  data_map = record { blocks = data_blocks; allocated = 0; bitmap_root = 0; overflow_root = 0 };
  meta_map = record { blocks = meta_blocks; allocated = 0; bitmap_root = 0; overflow_root = 0 };
  mapping_root = roots.top;
  details_root = roots.details;
  block_size = block_size;
  meta_block_size = 0;
  meta_blocks = 0;
  compat = 0;
  compat_ro = 0;
  incompat = 0;
}

-- the roots of a state, in the terms of what is best
abbrev pub state_roots : State → FoundRoots
state_roots s = roots_of s.roots

-- it says how many devices stand below its roots
abbrev pub HasDevices : Graph → List (List ℕ) → State → Type 0
HasDevices graph image s = s.devices ≡ length (devices_below graph image s.roots.top s.roots.details)

-- the first of some roots, where there are some
abbrev pub first_of : List FoundRoots → Option FoundRoots
first_of [] = None
first_of (roots ∷ others) = Some roots

-- two roots fit each other, and are told by what stands below them
abbrev pub IsFitting : Graph → List (List ℕ) → FoundRoots → Type 0
IsFitting graph image roots = (are_fitting graph image roots.top roots.details ≡ true) × (roots ≡ roots_at graph image roots.top roots.details)

-- the place of a state among others that are in order: before the first one that it is better than
abbrev pub place_among : State → List State → ℕ
place_among s others = prefix_len (λ (other : State). not (is_better (state_roots s) (state_roots other))) others

-- the best of the pairs that fit of a mapping tree with one of so many details trees
abbrev pub best_among : (ℕ → ℕ → Bool) → (ℕ → ℕ → FoundRoots) → ℕ → ℕ → Option FoundRoots
best_among fits pair nr top = best_of (map (pair top) (filter (fits top) (range_with_len 0 nr)))

-- these of some mapping trees, in order
abbrev pub best_states : (ℕ → ℕ → Bool) → (ℕ → ℕ → FoundRoots) → ℕ → List ℕ → List FoundRoots
best_states fits pair nr tops = in_order (filter_map (best_among fits pair nr) tops)

-- a state is that of two trees that may fit
pub record IsStateOf (trees : LostTrees) (s : State) : Type 0 where
  pub fitting : may_fit trees s.roots.top s.roots.details ≡ true
  pub devices : s.devices ≡ (note_in trees.tops s.roots.top).below

-- the states are those of trees that may fit, of some mapping trees
pub record AreStatesOf (trees : LostTrees) (tops : List ℕ) (found : FoundStates) : Type 0 where
  pub best : map state_roots found.best.items ≡ take 100 (best_states (may_fit trees) (pair_of_trees trees) (size_of trees.details) tops)
  pub number : found.number ≡ length (best_states (may_fit trees) (pair_of_trees trees) (size_of trees.details) tops)
  pub each : AllByRecursion (IsStateOf trees) found.best.items

-- the states are those of an image
pub record AreFoundStates (graph : Graph) (image : List (List ℕ)) (found : FoundStates) : Type 0 where
  pub best : map state_roots found.best.items ≡ take 100 (states graph image)
  pub number : found.number ≡ length (states graph image)
  pub devices : AllByRecursion (HasDevices graph image) found.best.items
