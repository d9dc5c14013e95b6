-- The text of a leaf: its first run, the lines of the runs up to the last one, and that one.
-- The runs of a leaf that were taken so far.
-- What is left of a device's runs on the way through its tree.
use Rattle.std.specs.Prelude.{◌≡◌, ℕ, false, List, [], ◌∷◌, ◌++◌, map, Option, Some, None}
use Rattle.std.specs.List.{AllByRecursion}
use Rattle.pd_kinds.specs.Graph.{block_at}
use Rattle.pd_kinds.specs.Meaning.{Mapping}
use Rattle.pd_kinds.specs.Node.{is_inner_node}
use Rattle.pd_value.specs.declared.thin.BlockTime.{BlockTime}
use Rattle.pd_tree.specs.Below.{items_from}
use Rattle.pd_tree.specs.Stack.{stack_items}
use Rattle.pd_meaning_thin.specs.declared.joined.Joined.{Joined}
use Rattle.pd_meaning_thin.specs.declared.joined.Run.{Run}
use Rattle.pd_meaning_thin.specs.Runs.{block_time_of, begun_mappings, given_runs, mapping_of}
use Rattle.pd_pool_dumps.specs.declared.counts.DumpCounts.{DumpCounts}
use Rattle.pd_pool_dumps.specs.declared.leaf_text.LaterRuns.{LaterRuns}
use Rattle.pd_pool_dumps.specs.declared.leaf_text.LeafText.{LeafText}
use Rattle.pd_pool_dumps.specs.ThinText.{IsCountOf, given_lines, given_text}
use Rattle.pd_pool_dumps.specs.declared.device_walk.DeviceWalk.{DeviceWalk}

-- the mappings of a leaf
abbrev pub leaf_mappings : List ℕ → List Mapping
leaf_mappings block = map mapping_of (items_from 8 block_time_of block 0)

-- the runs of some mappings after those of a begun run
abbrev pub runs_from : Joined → List Mapping → List Run
runs_from joined mappings = given_runs (begun_mappings joined.begun ++ mappings)

-- mappings, and what may follow them, have the runs of a begun one and of that
abbrev pub AreOneRun : List Mapping → Joined → Type 0
AreOneRun mappings first = (rest : List Mapping) → given_runs (mappings ++ rest) ≡ runs_from first rest

-- Between a first run and a last one, which what follows may join, mappings have the runs of this text
pub record AreBetween (mappings : List Mapping) (first last : Joined) (text : List ℕ) (counts : DumpCounts) : Type 0 where
  pub run : Run
  pub middle : List Run
  pub first_is : given_runs (begun_mappings first.begun) ≡ run ∷ []
  pub runs : (rest : List Mapping) → given_runs (mappings ++ rest) ≡ run ∷ (middle ++ runs_from last rest)
  pub text_is : text ≡ given_text middle
  pub counts_are : IsCountOf counts (given_lines middle)

-- a text is that of these mappings
abbrev pub IsTextOf : List Mapping → Joined → Option LaterRuns → Type 0
IsTextOf mappings first None = AreOneRun mappings first
IsTextOf mappings first (Some later) = AreBetween mappings first later.last later.lines.items later.counts

-- a text is that of the leaf in a block
pub record IsKept (image : List (List ℕ)) (b : ℕ) (text : LeafText) : Type 0 where
  pub leaf : is_inner_node (block_at image b) ≡ false
  pub text_is : IsTextOf (leaf_mappings (block_at image b)) text.first text.later

-- each text is that of the leaf in its block
abbrev pub AreKept : List (List ℕ) → List LeafText → Type 0
AreKept image texts = AllByRecursion (λ (text : LeafText). IsKept image text.block text) texts

-- runs begin with a begun one, go on with those of a text, and others are left
pub record GoesOnWith (later : LaterRuns) (begun whole left : List Run) : Type 0 where
  pub middle : List Run
  pub parts : whole ≡ begun ++ (middle ++ left)
  pub text_is : later.lines.items ≡ given_text middle
  pub counts_are : IsCountOf later.counts (given_lines middle)

-- no run ended yet
pub record IsBegun (mappings : List Mapping) (joined : Joined) (text : List ℕ) (counts : DumpCounts) : Type 0 where
  pub one : AreOneRun mappings joined
  pub no_text : text ≡ []
  pub no_count : IsCountOf counts []

-- these mappings were taken
abbrev pub AreTaken : List Mapping → Option Joined → Joined → List ℕ → DumpCounts → Type 0
AreTaken mappings None joined text counts = IsBegun mappings joined text counts
AreTaken mappings (Some first) joined text counts = AreBetween mappings first joined text counts

-- the texts that are kept
abbrev pub kept_texts : DeviceWalk → List LeafText
kept_texts walk = walk.texts.texts.items

-- the runs of the begun one's mappings and of these entries
abbrev pub runs_with : DeviceWalk → List (ℕ × BlockTime) → List Run
runs_with walk items = runs_from walk.joined (map mapping_of items)

-- those that are left
abbrev pub walk_runs : List (List ℕ) → DeviceWalk → List Run
walk_runs image walk = runs_with walk (stack_items 8 block_time_of image walk.stack)
