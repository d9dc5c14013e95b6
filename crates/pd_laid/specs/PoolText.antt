-- Trusted base.
-- A pool's text of either version, as a restore reads it: its first line says which.
-- The second version of a pool's text, and the shape that it spells.
-- How many blocks a pool with shared leaves needs, by its shape and by the lines of its text.
use Rattle.std.specs.Prelude.{◌≡◌, ℕ, ◌+◌, ◌≤◌, List, [], ◌∷◌, ◌++◌, length, map, ◌==◌, Bool, true, false, if◌then◌else◌, sum_by}
use Rattle.std.specs.List.{flat_map, AllByRecursion}
use Rattle.pd_kinds.specs.Meaning.{Mapping, ThinPool}
use Rattle.pd_kinds.specs.Node.{max_entries}
use Rattle.pd_kinds.specs.Bitmap.{bitmaps_for}
use Rattle.pd_grammar.specs.Texts.{text_of_lines, has_ended, reading}
use Rattle.pd_grammar.specs.Spelling.{Spells, Verdict, IsVerdict}
use Rattle.pd_grammar.specs.Lawful.{IsLawfulPool}
use Rattle.pd_grammar.specs.ThinText.{Run, Head, Details, Line, shared_first_line, pool_line, leaf_line, device_line, use_line, map_line, end_line, pool_format, mappings_of, joined_runs, AreApart, first_line, data_blocks_of, leaf_number, is_shared, MeansPool}
use Rattle.pd_grammar.specs.Need.{nodes_for, need_above, need_tree, data_of_line, overflows_in, thin_need_so_far}
use Rattle.pd_grammar.specs.Early.{is_decided_early}
use Rattle.pd_grammar.specs.ThinText as text
use Rattle.pd_laid.specs.Shape.{Piece, own, shared, ShapeDevice, ThinShape, IsShape, pool_of, uses_of_piece, uses_of, shape_of}

-- a piece as a text gives it: runs of a device's own, or a leaf that it uses
pub data PartPiece : Type 0 where
  own_runs : List Run → PartPiece
  used_leaf : ℕ → PartPiece

-- a device as a text gives it
pub record SharedPart : Type 0 where
  pub details : Details
  pub pieces : List PartPiece

-- the mappings of runs, one by one
abbrev pub mappings_of_runs : List Run → List Mapping
mappings_of_runs runs = flat_map mappings_of runs

-- the piece, and the device, that such a part means
abbrev pub piece_of_part : PartPiece → Piece
piece_of_part (own_runs runs) = own (mappings_of_runs runs)
piece_of_part (used_leaf number) = shared number

abbrev pub device_of_part : SharedPart → ShapeDevice
device_of_part p = record {
  id = p.details.id;
  mapped = p.details.mapped;
  transaction = p.details.transaction;
  created = p.details.created;
  snapped = p.details.snapped;
  pieces = map piece_of_part p.pieces;
}

-- the words of the pool line
abbrev pub head_of_shape : ThinShape → Head
head_of_shape w = record { uuid = w.uuid; time = w.time; transaction = w.transaction; block_size = w.block_size; data_blocks = w.data_blocks }

-- the lines of leaves from a number on, each told by its runs
abbrev pub lines_of_leaves : ℕ → List (List Run) → List Line
lines_of_leaves number [] = []
lines_of_leaves number (runs ∷ leaves) =
    leaf_line (record { number = number; entries = length (mappings_of_runs runs) }) ∷ (map map_line runs ++ lines_of_leaves (number + 1) leaves)

-- the lines of a piece, and of a device
abbrev pub lines_of_piece : PartPiece → List Line
lines_of_piece (own_runs runs) = map map_line runs
lines_of_piece (used_leaf number) = use_line number ∷ []

abbrev pub lines_of_part : SharedPart → List Line
lines_of_part p = device_line p.details ∷ flat_map lines_of_piece p.pieces

-- the lines of a text
abbrev pub lines_of_shape : Head → List (List Run) → List SharedPart → List Line
lines_of_shape head leaves parts =
    shared_first_line ∷ pool_line head ∷ (lines_of_leaves 0 leaves ++ (flat_map lines_of_part parts ++ (end_line ∷ [])))

-- each run has a mapping
abbrev pub HaveMappings : List Run → Type 0
HaveMappings runs = AllByRecursion (λ (r : Run). 1 ≤ r.length) runs

abbrev pub HasPieceMappings : PartPiece → Type 0
HasPieceMappings (own_runs runs) = HaveMappings runs
HasPieceMappings (used_leaf number) = Unit {0}

abbrev pub HasPartMappings : SharedPart → Type 0
HasPartMappings p = AllByRecursion HasPieceMappings p.pieces

-- The lines mean the shape: they are the head of its pool, for each shared leaf its line and the map lines of runs whose
-- mappings are the leaf's, and for each device its line and the lines of its pieces in their order
pub record MeansShape (lines : List Line) (w : ThinShape) : Type 0 where
  pub leaves : List (List Run)
  pub parts : List SharedPart
  pub lines_are : lines ≡ lines_of_shape (head_of_shape w) leaves parts
  pub leaves_are : map mappings_of_runs leaves ≡ w.leaves
  pub devices_are : map device_of_part parts ≡ w.devices
  pub leaf_runs : AllByRecursion HaveMappings leaves
  pub runs : AllByRecursion HasPartMappings parts
  -- it is a shape, and its meaning is one that a text can spell
  pub shape : IsShape w
  pub lawful : IsLawfulPool (pool_of w)

-- the text spells the shape
abbrev pub SpellsShape : List ℕ → ThinShape → Type 0
SpellsShape text w = Spells pool_format MeansShape text w

-- a piece and a device with the runs of their mappings, as long as can be
abbrev pub joined_piece : Piece → PartPiece
joined_piece (own mappings) = own_runs (joined_runs mappings)
joined_piece (shared number) = used_leaf number

abbrev pub joined_part : ShapeDevice → SharedPart
joined_part d = record {
  details = record { id = d.id; mapped = d.mapped; transaction = d.transaction; created = d.created; snapped = d.snapped };
  pieces = map joined_piece d.pieces;
}

-- the one spelling in which no two neighbouring runs of a leaf or of a piece join
unfoldable pub text_of_shape : ThinShape → List ℕ
text_of_shape w =
    text_of_lines pool_format (lines_of_shape (head_of_shape w) (map joined_runs w.leaves) (map joined_part w.devices))

-- no two neighbouring runs of a piece join, nor of a leaf, nor of a piece of a device
abbrev pub IsPieceApart : PartPiece → Type 0
IsPieceApart (own_runs runs) = AreApart runs
IsPieceApart (used_leaf number) = Unit {0}

abbrev pub IsPartApart : SharedPart → Type 0
IsPartApart p = AllByRecursion IsPieceApart p.pieces

pub record AreSharedApart (leaves : List (List Run)) (parts : List SharedPart) : Type 0 where
  pub leaf_runs : AllByRecursion AreApart leaves
  pub runs : AllByRecursion IsPartApart parts

-- how many leaves a device has: its own ones, and all of them
pub record LeafCount : Type 0 where
  pub own : ℕ
  pub all : ℕ

-- what a device's tree needs besides the shared leaves: its own leaves, and the levels above all its leaves
abbrev pub need_of_leaves : LeafCount → ℕ
need_of_leaves leaves = leaves.own + need_above 10 leaves.all

-- The need of a pool by its shared leaves, how many of these are used three times or more, the leaves of its devices, its
-- data blocks and how many of them stand three times or more in the leaves, in so many metadata blocks: the superblock;
-- the shared leaves; for each device its own leaves and the levels above; the mapping tree and the details tree; the data
-- bitmaps, their index tree and the data overflow tree; the index block, the bitmaps and the overflow tree of the
-- metadata map
unfoldable pub need_of_shared : ℕ → ℕ → List LeafCount → ℕ → ℕ → ℕ → ℕ
need_of_shared leaves often devices data_blocks overflows room =
    1 + (leaves + (sum_by need_of_leaves devices + (need_tree 8 (length devices) + (need_tree 24 (length devices)
    + (bitmaps_for data_blocks + (need_tree 16 (bitmaps_for data_blocks) + (need_tree 4 overflows
    + (1 + (bitmaps_for room + need_tree 4 often)))))))))

-- how many of so many leaves these uses name three times or more
unfoldable pub used_often : List ℕ → ℕ → ℕ
used_often uses leaves = overflows_in uses leaves

-- The leaves of a device by the numbers of mappings of its own pieces and by how many leaves it uses: a piece is spread
-- over the fewest leaves, and a device without pieces has one
abbrev pub leaf_count : List ℕ → ℕ → LeafCount
leaf_count pieces uses =
    let spread = sum_by (λ n. nodes_for (max_entries 8) n) pieces in
    record { own = spread; all = spread + uses }

abbrev pub empty_leaf_count : LeafCount
empty_leaf_count = record { own = 1; all = 1 }

-- the numbers of mappings of the own ones of some pieces
abbrev pub own_number : Piece → List ℕ
own_number (own mappings) = length mappings ∷ []
own_number (shared number) = []

-- the leaves of a device of a shape
abbrev pub leaves_of_pieces : List Piece → LeafCount
leaves_of_pieces [] = empty_leaf_count
leaves_of_pieces (piece ∷ pieces) =
    leaf_count (flat_map own_number (piece ∷ pieces)) (length (flat_map uses_of_piece (piece ∷ pieces)))

-- the data blocks of the leaves and of the own pieces
abbrev pub own_mappings : Piece → List Mapping
own_mappings (own mappings) = mappings
own_mappings (shared number) = []

abbrev pub told_mappings : ThinShape → List Mapping
told_mappings w =
    flat_map (λ mappings. mappings) w.leaves ++ flat_map (λ (d : ShapeDevice). flat_map own_mappings d.pieces) w.devices

unfoldable pub shape_data : ThinShape → List ℕ
shape_data w = map (λ (x : Mapping). x.data_block) (told_mappings w)

-- the need of a shape
unfoldable pub shape_need : ThinShape → ℕ → ℕ
shape_need w room =
    need_of_shared (length w.leaves) (used_often (flat_map uses_of w.devices) (length w.leaves))
    (map (λ (d : ShapeDevice). leaves_of_pieces d.pieces) w.devices) w.data_blocks (overflows_in (shape_data w) w.data_blocks) room

-- The pieces of a device as far as lines tell them: the numbers of mappings of its own pieces, the newest first, how many
-- leaves it uses, and whether its last line is a map line, so that another one lengthens the newest piece
pub record Told : Type 0 where
  pub own : List ℕ
  pub uses : ℕ
  pub in_run : Bool

-- a device of which nothing is told yet
abbrev pub told_nothing : Told
told_nothing = record { own = []; uses = 0; in_run = false }

-- a number of mappings more in the newest piece
abbrev pub lengthened : ℕ → List ℕ → List ℕ
lengthened n [] = n ∷ []
lengthened n (newest ∷ pieces) = (newest + n) ∷ pieces

-- one map line more of a device, and one use line more
abbrev pub with_run : ℕ → Told → Told
with_run n told = record {
  own = if told.in_run then lengthened n told.own else n ∷ told.own;
  uses = told.uses;
  in_run = true;
}

abbrev pub with_use : Told → Told
with_use told = record { own = told.own; uses = told.uses + 1; in_run = false }

-- what the newest of some devices is told by one line more
abbrev pub tell_newest : (Told → Told) → List Told → List Told
tell_newest more [] = []
tell_newest more (newest ∷ devices) = more newest ∷ devices

-- the devices of the lines, the newest first: a map line before all devices is one of a leaf
abbrev pub told_devices : List Line → List Told
told_devices [] = []
told_devices (first_line ∷ before) = told_devices before
told_devices (shared_first_line ∷ before) = told_devices before
told_devices (pool_line p ∷ before) = told_devices before
told_devices (leaf_line l ∷ before) = told_devices before
told_devices (device_line d ∷ before) = told_nothing ∷ told_devices before
told_devices (use_line n ∷ before) = tell_newest with_use (told_devices before)
told_devices (map_line r ∷ before) = tell_newest (with_run r.length) (told_devices before)
told_devices (end_line ∷ before) = told_devices before

-- the leaves of a device that has ended: one without pieces has one leaf
abbrev pub leaves_of_ended : Told → LeafCount
leaves_of_ended told =
    if (length told.own + told.uses) == 0 then empty_leaf_count else leaf_count told.own told.uses

-- those of the newest device, which hasn't: without pieces it has none yet
abbrev pub leaves_of_told : Bool → List Told → List LeafCount
leaves_of_told has_ended [] = []
leaves_of_told has_ended (newest ∷ devices) =
    (if has_ended then leaves_of_ended newest else leaf_count newest.own newest.uses) ∷ map leaves_of_ended devices

-- the need after these lines, the newest first: each data block of a leaf counts once
unfoldable pub shape_need_so_far : ℕ → List Line → ℕ
shape_need_so_far room before =
    need_of_shared (leaf_number before) (used_often (text.uses_of before) (leaf_number before))
    (leaves_of_told (has_ended pool_format before) (told_devices before)) (data_blocks_of before)
    (overflows_in (flat_map data_of_line before) (data_blocks_of before)) room

-- the lines of version 1 mean the shape of a pool that shares no leaf
pub record MeansUnshared (lines : List Line) (w : ThinShape) : Type 0 where
  pub pool : ThinPool
  pub means : MeansPool lines pool
  pub shape_is : w ≡ shape_of pool

-- the lines of this version mean the shape
abbrev pub MeansAs : Bool → List Line → ThinShape → Type 0
MeansAs true lines w = MeansShape lines w
MeansAs false lines w = MeansUnshared lines w

abbrev pub MeansPoolShape : List Line → ThinShape → Type 0
MeansPoolShape lines w = MeansAs (is_shared lines) lines w

-- the text, of either version, spells the shape, and with it the pool that the shape means
abbrev pub SpellsPoolShape : List ℕ → ThinShape → Type 0
SpellsPoolShape text w = Spells pool_format MeansPoolShape text w

pub record SpellsMeaning (text : List ℕ) (m : ThinPool) : Type 0 where
  pub shape : ThinShape
  pub spells : SpellsPoolShape text shape
  pub means : pool_of shape ≡ m

-- the need after these lines, the newest first, by their version
abbrev pub pool_need_so_far : ℕ → List Line → ℕ
pool_need_so_far room before = if is_shared before then shape_need_so_far room before else thin_need_so_far room before

-- the verdict on a text of either version
abbrev pub IsPoolTextVerdict : List ℕ → ℕ → Verdict ThinShape → Type 0
IsPoolTextVerdict text room verdict = IsVerdict pool_format MeansPoolShape (pool_need_so_far room) text room verdict

-- whether the first two lines of a text of either version decide what becomes of it
abbrev pub is_pool_text_early : List ℕ → ℕ → Bool
is_pool_text_early text room = is_decided_early (pool_need_so_far room) room (reading pool_format text).lines

-- a shape that a text can spell: one that keeps what shapes keep, and whose meaning is lawful
pub record IsLawfulShape (w : ThinShape) : Type 0 where
  pub shape : IsShape w
  pub pool : IsLawfulPool (pool_of w)
