-- Trusted base.
-- How many mappings the leaves have that stand in the trees of devices twice or more.
-- How often the shared leaves of a shape are used.
use Rattle.std.specs.Prelude.{ℕ, ◌<◌, ◌≤◌, List, length, ◌==◌, count_by}
use Rattle.std.specs.List.{flat_map}
use Rattle.pd_kinds.specs.Graph.{block_at}
use Rattle.pd_kinds.specs.ThinFormat.{thin_graph}
use Rattle.pd_laid.specs.Laid.{count_in}
use Rattle.pd_laid.specs.Shape.{all_leaf_blocks, mappings_in, ThinShape, uses_of}

-- no leaf that stands in the devices' trees twice or more has more than 252 mappings
abbrev pub FewInShared : List (List ℕ) → Type 0
FewInShared image =
    (b : ℕ) → 1 < count_in (all_leaf_blocks (thin_graph (block_at image 0)) image) b → length (mappings_in image b) ≤ 252

-- each shared leaf is used twice or more
abbrev pub IsSharedTwice : ThinShape → Type 0
IsSharedTwice w = (number : ℕ) → number < length w.leaves → 2 ≤ count_by (λ used. used == number) (flat_map uses_of w.devices)
