-- Trusted base.
-- The roots of a thin pool whose superblock is lost: of all pairs of blocks the best mapping tree and details
-- tree that fit each other. In a pool's format these have the roles 2 and 4.
use Rattle.std.specs.Prelude.{◌≡◌, ℕ, min, max, ◌==◌, ◌&&◌, ◌||◌, Bool, true, false, not, nat_lt, List, [], ◌∷◌, length, map, fold, replicate, sum_by, Option, Some, None}
use Rattle.std.specs.List.{list_any, list_all, flat_map}
use Rattle.std.specs.Str.{bytes_eq}
use Rattle.pd_kinds.specs.declared.limits.TheConstants.{MAX_META_BLOCKS}
use Rattle.pd_kinds.specs.Rule.{all_rules}
use Rattle.pd_kinds.specs.Graph.{is_outside, Graph, block_at, pair, block_of, role_of, is_inner_pair, nodes_from, is_deep, is_in_range}
use Rattle.pd_kinds.specs.Layout.{graph_of}
use Rattle.pd_kinds.specs.ThinFormat.{thin_layout}
use Rattle.pd_kinds.specs.Trees.{keys_of}
use Rattle.pd_kinds.specs.Whole.{top_entries, details_entries}
use Rattle.pd_kinds.specs.Meaning.{Mapping, ThinDevice, ThinPool, thin_device}

-- the format of a pool of so many data blocks, whose metadata blocks are those of the image
unfoldable pub lost_graph : List (List ℕ) → ℕ → Graph
lost_graph image data_blocks =
    let nr = min (length image) MAX_META_BLOCKS in
    graph_of 11 nr data_blocks (thin_layout nr data_blocks)

-- a block in a role is sound: it breaks no rule of its own, isn't deep, and if it is an inner node it is in range
unfoldable pub is_sound_pair : Graph → List (List ℕ) → ℕ → Bool
is_sound_pair graph image p =
    not (list_any (graph.bad (role_of p) (block_of p) (block_at image (block_of p))) all_rules)
    && (not (is_deep graph image p) && (not (is_inner_pair graph image p) || is_in_range graph image p))

-- a tree is sound: its root is inside the metadata, and all that is reached from it is sound
unfoldable pub is_sound_tree : Graph → List (List ℕ) → ℕ → ℕ → Bool
is_sound_tree graph image role root =
    not (is_outside graph.nr root) && list_all (is_sound_pair graph image) (nodes_from graph image (pair root role))

-- the devices of a mapping tree, with their details of a details tree
unfoldable pub devices_below : Graph → List (List ℕ) → ℕ → ℕ → List ThinDevice
devices_below graph image top details =
    map (thin_device graph image (details_entries graph image details)) (top_entries graph image top)

-- two trees fit each other: both are sound, they have the same devices, and each device has as many mappings as its
-- details say
unfoldable pub are_fitting : Graph → List (List ℕ) → ℕ → ℕ → Bool
are_fitting graph image top details =
    is_sound_tree graph image 2 top && (is_sound_tree graph image 4 details
    && (bytes_eq (keys_of (top_entries graph image top)) (keys_of (details_entries graph image details))
    && list_all (λ (d : ThinDevice). d.mapped == length d.mappings) (devices_below graph image top details)))

-- the times of a device: when it was made, when it was last shared, and those of its mappings
abbrev pub times_of : ThinDevice → List ℕ
times_of d = d.created ∷ d.snapped ∷ map (λ (m : Mapping). m.time) d.mappings

-- two roots, and what stands below them
pub record FoundRoots : Type 0 where
  pub top : ℕ
  pub details : ℕ
  -- how many mappings there are
  pub mappings : ℕ
  -- the latest time: of a mapping, and at which a device was made or last shared
  pub time : ℕ
  -- the latest transaction of a device
  pub transaction : ℕ
  -- the sum of the times of the mappings
  pub times : ℕ

unfoldable pub roots_at : Graph → List (List ℕ) → ℕ → ℕ → FoundRoots
roots_at graph image top details =
    let devices = devices_below graph image top details in
    record {
      top = top;
      details = details;
      mappings = sum_by (λ (d : ThinDevice). d.mapped) devices;
      time = fold max 0 (flat_map times_of devices);
      transaction = fold max 0 (map (λ (d : ThinDevice). d.transaction) devices);
      times = sum_by (λ (d : ThinDevice). sum_by (λ (m : Mapping). m.time) d.mappings) devices;
    }

-- What roots are compared by, the first number first: the latest time, the latest transaction, the sum of the mappings'
-- times, the number of mappings. Where these are equal the places decide: a kernel hands out metadata blocks ascending, so
-- the higher place is the later one
abbrev pub score_of : FoundRoots → List ℕ
score_of roots = roots.time ∷ roots.transaction ∷ roots.times ∷ roots.mappings ∷ roots.top ∷ roots.details ∷ []

-- of two lists of one length, the first number in which they differ is greater in the first list
abbrev pub is_greater : List ℕ → List ℕ → Bool
is_greater [] others = false
is_greater (a ∷ rest) [] = true
is_greater (a ∷ rest) (b ∷ others) = nat_lt b a || ((a == b) && is_greater rest others)

-- some roots are better than others: their score is greater. Times and transactions never fall while a pool lives
unfoldable pub is_better : FoundRoots → FoundRoots → Bool
is_better a b = is_greater (score_of a) (score_of b)

-- the best roots: they fit each other, and none that do are better
pub record AreBest (graph : Graph) (image : List (List ℕ)) (roots : FoundRoots) : Type 0 where
  pub fitting : are_fitting graph image roots.top roots.details ≡ true
  pub numbers : roots ≡ roots_at graph image roots.top roots.details
  pub best : (top details : ℕ) → are_fitting graph image top details ≡ true → is_better (roots_at graph image top details) roots ≡ false

-- what is found: the best roots, or nothing where no two trees fit each other
abbrev pub IsFound : Graph → List (List ℕ) → Option FoundRoots → Type 0
IsFound graph image None = (top details : ℕ) → are_fitting graph image top details ≡ false
IsFound graph image (Some roots) = AreBest graph image roots

-- the pool of found roots: its uuid is zeros, its time the latest one there, and the other numbers are given
unfoldable pub found_pool : Graph → List (List ℕ) → ℕ → ℕ → FoundRoots → ThinPool
found_pool graph image transaction block_size roots = record {
  uuid = replicate 16 0;
  time = roots.time;
  transaction = transaction;
  block_size = block_size;
  data_blocks = graph.data_blocks;
  devices = devices_below graph image roots.top roots.details;
}
