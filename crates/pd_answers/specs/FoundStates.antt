-- Trusted base.
-- The states of a pool whose superblock is lost: for each mapping tree that has one, the best details tree that fits it; in order.
-- The superblock that the roots of a state are given.
use Rattle.std.specs.Prelude.{ℕ, if◌then◌else◌, List, [], ◌∷◌, map, filter, Option, Some, None, replicate}
use Rattle.std.specs.List.{filter_map, range_with_len}
use Rattle.pd_kinds.specs.ThinFormat.{ThinFields}
use Rattle.pd_kinds.specs.Graph.{Graph}
use Rattle.pd_laid.specs.FoundRoots.{FoundRoots, are_fitting, is_better, roots_at}

-- the superblock of found roots: its uuid is zeros, its time the latest one below them, and what isn't given is 0
abbrev pub found_fields : Graph → ℕ → ℕ → FoundRoots → ThinFields
found_fields graph transaction block_size roots = record {
  flags = 0;
  uuid = replicate 16 0;
  version = 2;
  time = roots.time;
  transaction = transaction;
  held_root = 0;
  data_map = record { blocks = graph.data_blocks; allocated = 0; bitmap_root = 0; overflow_root = 0 };
  meta_map = record { blocks = graph.nr; allocated = 0; bitmap_root = 0; overflow_root = 0 };
  mapping_root = roots.top;
  details_root = roots.details;
  block_size = block_size;
  meta_block_size = 0;
  meta_blocks = 0;
  compat = 0;
  compat_ro = 0;
  incompat = 0;
}

-- the better ones of some roots and of the best of others, if there are any
abbrev pub better_of_two : FoundRoots → Option FoundRoots → FoundRoots
better_of_two roots None = roots
better_of_two roots (Some best) = if is_better best roots then best else roots

-- the best of some roots
abbrev pub best_of : List FoundRoots → Option FoundRoots
best_of [] = None
best_of (roots ∷ others) = Some (better_of_two roots (best_of others))

-- the best of the roots whose mapping tree is this one, among all details trees that fit it
unfoldable pub best_for : Graph → List (List ℕ) → ℕ → Option FoundRoots
best_for graph image top = best_of (map (roots_at graph image top) (filter (are_fitting graph image top) (range_with_len 0 graph.nr)))

-- some roots in their place among others, the better ones first
abbrev pub placed : FoundRoots → List FoundRoots → List FoundRoots
placed roots [] = roots ∷ []
placed roots (first ∷ others) = if is_better roots first then roots ∷ first ∷ others else first ∷ placed roots others

-- roots in order, the best first
abbrev pub in_order : List FoundRoots → List FoundRoots
in_order [] = []
in_order (roots ∷ others) = placed roots (in_order others)

-- the states to choose from, in order, the best first
unfoldable pub states : Graph → List (List ℕ) → List FoundRoots
states graph image = in_order (filter_map (best_for graph image) (range_with_len 0 graph.nr))
