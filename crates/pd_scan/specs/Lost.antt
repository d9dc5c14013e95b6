-- What settling tells of a pool without its superblock.
-- Which blocks can be roots, by themselves and by what they name outside their tree.
-- The tables of all trees of a pool, as they are filled.
-- The sound trees of a pool without its superblock, and what is told of them.
use Rattle.std.specs.Prelude.{◌≡◌, ℕ, ◌<◌, ◌≤◌, Bool, ◌&&◌, ◌||◌, not, nat_lt, List, true, length, ◌^◌}
use Rattle.std.specs.List.{list_any, list_all, AllByRecursion}
use Rattle.pd_kinds.specs.Rule.{all_rules}
use Rattle.pd_kinds.specs.Graph.{Edge, is_outside, Graph, block_at, pair, keys_below}
use Rattle.pd_kinds.specs.Layout.{graph_of}
use Rattle.pd_kinds.specs.ThinFormat.{thin_layout}
use Rattle.pd_kinds.specs.Node.{Entry}
use Rattle.pd_kinds.specs.Whole.{top_entries}
use Rattle.pd_kinds.specs.declared.rule.Rule.TheVariants as r
use Rattle.pd_laid.specs.FoundRoots.{is_sound_tree}
use Rattle.pd_graph.specs.declared.notes.Notes.{Notes}
use Rattle.pd_graph.specs.Notes.{note_in, size_of}
use Rattle.pd_settle.specs.Settled.{is_fit}
use Rattle.pd_settle.specs.Notes.{least_of, greatest_of}
use Rattle.pd_measures.specs.Measured.{AreTrees, details_gauge, mappings_gauge, top_gauge, places_of, AreMeasured, below_root, list_measure, measure_at}
use Rattle.pd_measures.specs.Counts.{counts_of_details, counts_of_top, details_time, details_transaction, mappings_below, times_of_top, top_time, total_of}
use Rattle.pd_scan.specs.declared.trees.Tables.{Tables}
use Rattle.pd_scan.specs.declared.trees.LostTrees.{LostTrees}

-- the block breaks no rule of its own in the role
unfoldable pub is_unbroken : Graph → ℕ → ℕ → List ℕ → Bool
is_unbroken graph role b block = not (list_any (graph.bad role b block) all_rules)

-- a block is fit for a role: it is inside and breaks no rule of its own, and as a leaf it names roots of sound trees alone
unfoldable pub is_fit_root : Graph → List (List ℕ) → ℕ → ℕ → Bool
is_fit_root graph image role b =
    not (is_outside graph.nr b)
    && (is_unbroken graph role b (block_at image b)
    && (graph.is_inner role b (block_at image b)
    || list_all (λ (edge : Edge). is_sound_tree graph image edge.role edge.block) (graph.edges role b (block_at image b))))

-- the role is one of those from the first up to the end
abbrev pub is_between : ℕ → ℕ → ℕ → Bool
is_between first end role = not (nat_lt role first) && nat_lt role end

-- a block whose checksum is wrong in one of these roles has a wrong one in each
pub record ShareChecksum (graph : Graph) (first end : ℕ) : Type 0 where
  pub same : (role place : ℕ) (block : List ℕ) → first ≤ role → role < end → graph.bad role place block r.Checksum ≡ graph.bad first place block r.Checksum

-- the table has each block in just those of the roles in which it is inside, and breaks no rule of its own
pub record AreJudged (graph : Graph) (image : List (List ℕ)) (first end : ℕ) (fit : List ℕ) : Type 0 where
  pub fits : (role b : ℕ) → role < 16 → b < graph.nr
      → is_fit fit role b ≡ (is_between first end role && (not (is_outside graph.nr b) && is_unbroken graph role b (block_at image b)))

-- the format is that of a thin pool, of any numbers of blocks
pub record IsPool (roles : ℕ) (graph : Graph) : Type 0 where
  pub roles_number : roles ≡ 11
  pub format : graph ≡ graph_of 11 graph.nr graph.data_blocks (thin_layout graph.nr graph.data_blocks)

-- each block's note tells whether it is the root of a sound tree of this role, and then which keys stand below it
pub record AreRoots (graph : Graph) (image : List (List ℕ)) (role : ℕ) (notes : Notes) : Type 0 where
  pub known : (b : ℕ) → b < graph.nr → 1 ≤ (note_in notes b).height
  pub sound : (b : ℕ) → b < graph.nr → nat_lt (note_in notes b).height 65 ≡ is_sound_tree graph image role b
  pub least : (b : ℕ) → b < graph.nr → is_sound_tree graph image role b ≡ true → (note_in notes b).least ≡ least_of (keys_below graph image (pair b role))
  pub greatest : (b : ℕ) → b < graph.nr → is_sound_tree graph image role b ≡ true → (note_in notes b).greatest ≡ greatest_of (keys_below graph image (pair b role))
  pub below : (b : ℕ) → b < graph.nr → is_sound_tree graph image role b ≡ true → (note_in notes b).below ≡ length (keys_below graph image (pair b role))

-- the notes are those of the settled trees of a role whose leaf values have this size, and tell which blocks are roots of sound ones
pub record AreSettledTrees (graph : Graph) (image : List (List ℕ)) (role size : ℕ) (notes : Notes) : Type 0 where
  pub trees : AreTrees graph image role size (is_fit_root graph image role) notes
  pub roots : AreRoots graph image role notes

-- each of them has so many places
pub record HaveRoom (nr : ℕ) (tables : Tables) : Type 0 where
  pub fit : length tables.fit.items ≡ nr
  pub tops : size_of tables.tops ≡ nr
  pub devices : size_of tables.devices.notes ≡ nr
  pub times : places_of tables.devices.times ≡ nr
  pub details : size_of tables.details ≡ nr
  pub top_measures : places_of tables.top_measures ≡ nr
  pub details_measures : places_of tables.details_measures ≡ nr

-- the trees of all three roles are settled
pub record AreAllSettled (graph : Graph) (image : List (List ℕ)) (tables : Tables) : Type 0 where
  pub tops : AreSettledTrees graph image 2 8 tables.tops
  pub devices : AreSettledTrees graph image 3 8 tables.devices.notes
  pub details : AreSettledTrees graph image 4 24 tables.details

-- and measured: those of devices by the times of mappings, and the tops by what is told of the devices' trees
pub record AreAllMeasured (graph : Graph) (image : List (List ℕ)) (tables : Tables) : Type 0 where
  pub settled : AreAllSettled graph image tables
  pub devices : AreMeasured graph image 3 8 (is_fit_root graph image 3) mappings_gauge tables.devices.times
  pub details : AreMeasured graph image 4 24 (is_fit_root graph image 4) details_gauge tables.details_measures
  pub tops : AreMeasured graph image 2 8 (is_fit_root graph image 2) (top_gauge tables.devices.notes tables.devices.times) tables.top_measures

-- the trees that they tell of
abbrev pub trees_of : Tables → LostTrees
trees_of tables = record {
  tops = tables.tops;
  devices = tables.devices.notes;
  details = tables.details;
  top_measures = tables.top_measures;
  details_measures = tables.details_measures;
}

-- each of them has so many places
pub record HavePlaces (nr : ℕ) (trees : LostTrees) : Type 0 where
  pub tops : size_of trees.tops ≡ nr
  pub devices : size_of trees.devices ≡ nr
  pub details : size_of trees.details ≡ nr
  pub top_measures : places_of trees.top_measures ≡ nr
  pub details_measures : places_of trees.details_measures ≡ nr

-- the notes tell which mapping trees and which details trees are sound, and the measures what their lists of devices are
pub record AreLostTrees (graph : Graph) (image : List (List ℕ)) (trees : LostTrees) : Type 0 where
  pub tops : AreRoots graph image 2 trees.tops
  pub details : AreRoots graph image 4 trees.details
  -- how many devices a sound mapping tree has
  pub number : (b : ℕ) → b < graph.nr → is_sound_tree graph image 2 b ≡ true → (note_in trees.tops b).below ≡ length (top_entries graph image b)
  -- how many mappings stand below each root that it names
  pub told : (b : ℕ) → b < graph.nr → is_sound_tree graph image 2 b ≡ true
      → AllByRecursion (λ (e : Entry). below_root trees.devices e.value ≡ mappings_below graph image e.value) (top_entries graph image b)
  pub top_measures : (b : ℕ) → b < graph.nr → is_sound_tree graph image 2 b ≡ true
      → measure_at trees.top_measures b ≡ list_measure (counts_of_top graph image b) (top_time graph image b) 0 (times_of_top graph image b)
  pub details_measures : (b : ℕ) → b < graph.nr → is_sound_tree graph image 4 b ≡ true
      → measure_at trees.details_measures b ≡ list_measure (counts_of_details graph image b) (details_time graph image b) (details_transaction graph image b) 0
  -- there are fewer mappings than the number of a measure holds, times have 32 bits, and their sum 128
  pub few : (b : ℕ) → b < graph.nr → is_sound_tree graph image 2 b ≡ true → total_of (counts_of_top graph image b) < 2 ^ 64
  pub top_times : (b : ℕ) → b < graph.nr → is_sound_tree graph image 2 b ≡ true → top_time graph image b < 2 ^ 32
  pub details_times : (b : ℕ) → b < graph.nr → is_sound_tree graph image 4 b ≡ true → details_time graph image b < 2 ^ 32
  pub few_times : (b : ℕ) → b < graph.nr → is_sound_tree graph image 2 b ≡ true → times_of_top graph image b < 2 ^ 128
