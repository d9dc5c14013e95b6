-- The lines of a pool's text of version 2, over the bytes of an image alone.
use Rattle.std.specs.Prelude.{ℕ, ◌+◌, ◌-◌, ◌^◌, min, List, [], ◌∷◌, ◌++◌, map, sum_by}
use Rattle.std.specs.List.{flat_map}
use Rattle.pd_kinds.specs.declared.superblocks.ThinSuper.{ThinSuper}
use Rattle.pd_grammar.specs.ThinText.{Line, shared_first_line, pool_line, leaf_line, device_line, use_line, map_line, end_line}
use Rattle.pd_meaning_thin.specs.declared.devices.DeviceRow.{DeviceRow}
use Rattle.pd_meaning_thin.specs.declared.joined.Run.{Run}
use Rattle.pd_meaning_thin.specs.Given.{details_of_row, super_head, super_rows}
use Rattle.pd_meaning_thin.specs.Runs.{spelled, runs_below}
use Rattle.pd_meaning_thin.specs.declared.pieces.Piece.{Piece}
use Rattle.pd_meaning_thin.specs.Pieces.{pieces_below}
use Rattle.pd_meaning_thin.specs.declared.pieces.Piece.TheVariants as pieces

-- the line of a piece
abbrev pub piece_line : Piece → Line
piece_line (pieces.Run run) = map_line (spelled run)
piece_line (pieces.SharedLeaf number) = use_line number

-- how many mappings some runs have, up to the end of the number's type
abbrev pub entries_in : List Run → ℕ
entries_in runs = min (sum_by (λ (run : Run). run.length) runs) (2 ^ 64 - 1)

-- the lines of the shared leaf of this number, in a block
abbrev pub leaf_lines : List (List ℕ) → ℕ → ℕ → List Line
leaf_lines image number b =
    leaf_line (record { number = number; entries = entries_in (runs_below image b) }) ∷ map map_line (map spelled (runs_below image b))

-- those of the shared leaves in these blocks, from a number on
abbrev pub leaves_lines : List (List ℕ) → ℕ → List ℕ → List Line
leaves_lines image number [] = []
leaves_lines image number (b ∷ blocks) = leaf_lines image number b ++ leaves_lines image (number + 1) blocks

-- the lines of the pieces below a root, where the leaves in these blocks are shared
abbrev pub pieces_lines : List ℕ → List (List ℕ) → ℕ → List Line
pieces_lines shared image root = map piece_line (pieces_below shared image root)

-- the lines of a device
abbrev pub sharing_lines : List ℕ → List (List ℕ) → DeviceRow → List Line
sharing_lines shared image row = device_line (details_of_row row) ∷ pieces_lines shared image row.root

-- the lines of the shared leaves, and then those of devices
abbrev pub body_lines : List ℕ → List (List ℕ) → List DeviceRow → List Line
body_lines shared image rows = leaves_lines image 0 shared ++ flat_map (sharing_lines shared image) rows

-- the lines of the pool with this superblock
abbrev pub shared_lines : List ℕ → List (List ℕ) → ThinSuper → List Line
shared_lines shared image fields =
    shared_first_line ∷ pool_line (super_head fields) ∷ (body_lines shared image (super_rows image fields) ++ (end_line ∷ []))
