-- The pieces of a device's mappings: runs of its own, as long as can be, and shared leaves, by their numbers.
-- What stands in a tree of mappings from left to right: mappings of leaves that aren't shared, and shared leaves by their numbers.
-- What the cursors give of the devices and of the shared leaves of a pool: the pieces of its shape.
use Rattle.std.specs.Prelude.{◌≡◌, ℕ, ◌+◌, ◌==◌, List, [], ◌∷◌, ◌++◌, length, map, Option, Some, None, ◌*◌, ◌<◌}
use Rattle.std.specs.List.{flat_map, position, AllByRecursion}
use Rattle.pd_kinds.specs.Graph.{block_at}
use Rattle.pd_kinds.specs.Meaning.{Mapping}
use Rattle.pd_kinds.specs.ThinFormat.{thin_graph}
use Rattle.pd_grammar.specs.ThinText.{joined_runs}
use Rattle.pd_laid.specs.Shape.{device_roots, leaf_blocks, mappings_in, pieces_of, shared_leaves}
use Rattle.pd_laid.specs.Shape as shape
use Rattle.pd_value.specs.declared.thin.BlockTime.{BlockTime}
use Rattle.pd_tree.specs.Below.{gather, items_from, kids_from}
use Rattle.pd_tree.specs.Cursor.{root_left, root_number}
use Rattle.pd_tree.specs.Stack.{FrontierItem, entry, node, frontier, stack_number}
use Rattle.pd_tree.specs.declared.stack.Stack.{Stack}
use Rattle.pd_meaning_thin.specs.Runs.{block_time_of, mapping_of, begun_mappings, begun_number, given_runs, spelled, mappings_below, runs_below}
use Rattle.pd_meaning_thin.specs.declared.parts.Found.{Found}
use Rattle.pd_meaning_thin.specs.declared.parts.TreeParts.{TreeParts}
use Rattle.pd_meaning_thin.specs.declared.pieces.Piece.{Piece}
use Rattle.pd_meaning_thin.specs.declared.pieces.PieceRuns.{PieceRuns}
use Rattle.pd_meaning_thin.specs.declared.pieces.Piece.TheVariants.{Run, SharedLeaf}
use Rattle.pd_meaning_thin.specs.declared.devices.DeviceRow.{DeviceRow}
use Rattle.pd_meaning_thin.specs.Given.{pool_rows}
use Rattle.pd_meaning_thin.specs.declared.parts.Found.TheVariants as found

-- a mapping of a leaf that isn't shared, or a shared leaf by its number
pub data Part : Type 0 where
  mapped : Mapping → Part
  leaf : ℕ → Part

-- the number of a leaf among the shared ones, if it is one
abbrev pub number_of : List ℕ → ℕ → Option ℕ
number_of shared b = position (λ c. c == b) shared

-- what stands at a block, and the blocks below that stand there: a shared leaf isn't looked into
abbrev pub parts_of_block : List (List ℕ) → ℕ → Option ℕ → List Part
parts_of_block image b (Some number) = leaf number ∷ []
parts_of_block image b None = map (λ item. mapped (mapping_of item)) (items_from 8 block_time_of (block_at image b) 0)

abbrev pub kids_of_block : List (List ℕ) → ℕ → Option ℕ → List ℕ
kids_of_block image b (Some number) = []
kids_of_block image b None = kids_from 8 (block_at image b) 0

-- the parts that at most j inner edges lead to from a block
unfoldable pub parts_below : List ℕ → List (List ℕ) → ℕ → ℕ → List Part
parts_below shared image j b =
    gather (λ c. parts_of_block image c (number_of shared c)) (λ c. kids_of_block image c (number_of shared c)) j b

-- the blocks that are read for them, in their order: no shared leaf is
abbrev pub read_of_block : ℕ → Option ℕ → List ℕ
read_of_block b (Some number) = []
read_of_block b None = b ∷ []

unfoldable pub read_below : List ℕ → List (List ℕ) → ℕ → ℕ → List ℕ
read_below shared image j b =
    gather (λ c. read_of_block c (number_of shared c)) (λ c. kids_of_block image c (number_of shared c)) j b

-- what an entry or a node that is left on the way gives, and which blocks are still to be read for it
abbrev pub parts_of_left : List ℕ → List (List ℕ) → FrontierItem BlockTime → List Part
parts_of_left shared image (entry key value) = mapped (mapping_of (key, value)) ∷ []
parts_of_left shared image (node j b) = parts_below shared image j b

abbrev pub read_of_left : List ℕ → List (List ℕ) → FrontierItem BlockTime → List ℕ
read_of_left shared image (entry key value) = []
read_of_left shared image (node j b) = read_below shared image j b

-- all that is left on the way
abbrev pub stack_parts : List ℕ → List (List ℕ) → Stack → List Part
stack_parts shared image stack = flat_map (parts_of_left shared image) (frontier 8 block_time_of stack)

abbrev pub stack_reads : List ℕ → List (List ℕ) → Stack → ℕ
stack_reads shared image stack = length (flat_map (read_of_left shared image) (frontier 8 block_time_of stack))

-- the parts that are left, how many blocks are read for them at most, and a number that falls with each of them
abbrev pub parts_left : List ℕ → List (List ℕ) → TreeParts → List Part
parts_left shared image parts = root_left (parts_below shared image 63) parts.root ++ stack_parts shared image parts.stack

abbrev pub parts_reads : List ℕ → List (List ℕ) → TreeParts → ℕ
parts_reads shared image parts = length (root_left (read_below shared image 63) parts.root) + stack_reads shared image parts.stack

abbrev pub parts_number : TreeParts → ℕ
parts_number parts = root_number parts.root + stack_number 8 parts.stack

-- what was found as a part
abbrev pub part_of : Found → Part
part_of (found.Mapping virt mapping) = mapped (mapping_of (virt, mapping))
part_of (found.SharedLeaf number) = leaf number

-- a leaf that was met, or none
abbrev pub met_leaf : Option ℕ → List Part
met_leaf None = []
met_leaf (Some number) = leaf number ∷ []

-- a part was taken of what was left, or nothing was left
abbrev pub IsNextPart : Option Found → List Part → List Part → Type 0
IsNextPart None old new = (old ≡ []) × (new ≡ [])
IsNextPart (Some part) old new = old ≡ part_of part ∷ new

-- the pieces of some mappings, and then of these parts
abbrev pub joined_pieces : List Mapping → List Part → List Piece
joined_pieces mappings [] = map Run (given_runs mappings)
joined_pieces mappings (mapped m ∷ parts) = joined_pieces (mappings ++ (m ∷ [])) parts
joined_pieces mappings (leaf number ∷ parts) = map Run (given_runs mappings) ++ (SharedLeaf number ∷ joined_pieces [] parts)

-- the pieces below a root
unfoldable pub pieces_below : List ℕ → List (List ℕ) → ℕ → List Piece
pieces_below shared image root = joined_pieces [] (parts_below shared image 63 root)

-- a piece of a shape, as it is given
abbrev pub given_piece : shape.Piece → List Piece
given_piece (shape.own mappings) = map Run (given_runs mappings)
given_piece (shape.shared number) = SharedLeaf number ∷ []

-- what is left of the pieces: those of the begun run, of a leaf that waits until that is given, and of what stands behind
abbrev pub pieces_left : List ℕ → List (List ℕ) → PieceRuns → List Piece
pieces_left shared image pieces =
    joined_pieces (begun_mappings pieces.joined.begun) (met_leaf pieces.waiting ++ parts_left shared image pieces.parts)

-- how many blocks are read for them at most
abbrev pub pieces_reads : List ℕ → List (List ℕ) → PieceRuns → ℕ
pieces_reads shared image pieces = parts_reads shared image pieces.parts

-- a number that falls with each of them
abbrev pub waiting_number : Option ℕ → ℕ
waiting_number None = 0
waiting_number (Some number) = 1

abbrev pub pieces_number : PieceRuns → ℕ
pieces_number pieces = 2 * parts_number pieces.parts + (begun_number pieces.joined.begun + waiting_number pieces.waiting)

-- the shared leaves of an image, and the roots of its devices
abbrev pub pool_leaves : List (List ℕ) → List ℕ
pool_leaves image = shared_leaves (thin_graph (block_at image 0)) image

abbrev pub pool_roots : List (List ℕ) → List ℕ
pool_roots image = device_roots (thin_graph (block_at image 0)) image

-- the pieces of the device whose mappings have this root
abbrev pub device_pieces : List (List ℕ) → ℕ → List shape.Piece
device_pieces image root = pieces_of image (pool_leaves image) (leaf_blocks (thin_graph (block_at image 0)) image root)

-- the runs of a piece of a device's own are given as they are
abbrev pub IsGivenWhole : shape.Piece → Type 0
IsGivenWhole (shape.own mappings) = map spelled (given_runs mappings) ≡ joined_runs mappings
IsGivenWhole (shape.shared number) = Unit {0}

-- a cursor over runs that begins at the block of a leaf gives its mappings, as they are
pub record GivesLeaf (image : List (List ℕ)) (b : ℕ) : Type 0 where
  pub within : b < length image
  pub mappings : mappings_below image b ≡ mappings_in image b
  pub runs : map spelled (runs_below image b) ≡ joined_runs (mappings_in image b)

-- what the cursors give of an image are the pieces of the devices of its shape, and its shared leaves
pub record GivesShape (image : List (List ℕ)) : Type 0 where
  -- the roots of the rows are those of the devices
  pub roots : map (λ (row : DeviceRow). row.root) (pool_rows image) ≡ pool_roots image
  -- below each root are the pieces of the device
  pub pieces : AllByRecursion (λ root. pieces_below (pool_leaves image) image root ≡ flat_map given_piece (device_pieces image root)) (pool_roots image)
  -- their data blocks are in the pool, so that the runs are given as they are
  pub runs : AllByRecursion (λ root. AllByRecursion IsGivenWhole (device_pieces image root)) (pool_roots image)
  pub leaves : AllByRecursion (GivesLeaf image) (pool_leaves image)
