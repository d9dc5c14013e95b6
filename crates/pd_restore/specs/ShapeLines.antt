-- The lines of a saved shape, as they stand in a text.
use Rattle.std.specs.Prelude.{ℕ, ◌+◌, List, [], ◌∷◌, ◌++◌, map, take, drop}
use Rattle.std.specs.List.{flat_map}
use Rattle.pd_grammar.specs.Texts.{text_of_lines}
use Rattle.pd_grammar.specs.ThinText.{Line, leaf_line, map_line, pool_format}
use Rattle.pd_laid.specs.PoolText.{head_of_shape, lines_of_part, lines_of_piece, lines_of_shape}
use Rattle.pd_meaning_thin.specs.declared.joined.Run.{Run}
use Rattle.pd_meaning_thin.specs.Runs.{spelled}
use Rattle.pd_restore.specs.declared.shape_lines.DeviceLines.{DeviceLines}
use Rattle.pd_restore.specs.declared.shape_lines.LeafLines.{LeafLines}
use Rattle.pd_restore.specs.declared.shape_lines.ShapeLines.{ShapeLines}
use Rattle.pd_restore.specs.SavedLines.{behind, behind_runs, in_runs, in_span}
use Rattle.pd_salvage.specs.declared.saved_shape.SavedLeaf.{SavedLeaf}
use Rattle.pd_salvage.specs.declared.saved_shape.SavedPiece.{SavedPiece}
use Rattle.pd_salvage.specs.declared.saved_shape.ShapedDevice.{ShapedDevice}
use Rattle.pd_salvage.specs.SavedShape.{HeldShape, device_parts, held_shape, leaf_parts, piece_parts, runs_of_pieces}

-- the lines of runs; of leaves from a number on, each with as many of the runs as are its; of pieces; and of devices
abbrev pub told_runs : List Run → List Line
told_runs runs = map map_line (map spelled runs)

abbrev pub told_leaves : ℕ → List SavedLeaf → List Run → List Line
told_leaves number [] runs = []
told_leaves number (leaf ∷ leaves) runs =
    leaf_line (record { number = number; entries = leaf.entries }) ∷ (told_runs (take leaf.runs runs) ++ told_leaves (number + 1) leaves (drop leaf.runs runs))

abbrev pub told_pieces : List SavedPiece → List Run → List Line
told_pieces pieces runs = flat_map lines_of_piece (piece_parts pieces runs)

abbrev pub told_devices : List ShapedDevice → List SavedPiece → List Run → List Line
told_devices devices pieces runs = flat_map lines_of_part (device_parts devices pieces runs)

-- the lines of the leaves, and those of the devices, that are still to come
unfoldable pub leaf_lines : LeafLines → HeldShape → List Line
leaf_lines made h = told_runs (in_runs made.runs h.leaf_runs) ++ told_leaves made.leaves.at (in_span made.leaves h.leaves) (behind_runs made.runs h.leaf_runs)

-- those of runs, of the pieces behind them, and of the devices behind these
unfoldable pub lines_of_rest : List Run → List SavedPiece → List ShapedDevice → List SavedPiece → List Run → List Line
lines_of_rest first pieces devices later runs =
    told_runs first ++ (told_pieces pieces runs ++ told_devices devices later (drop (runs_of_pieces pieces) runs))

abbrev pub device_lines : DeviceLines → HeldShape → List Line
device_lines made h =
    lines_of_rest (in_runs made.runs h.runs) (in_span made.pieces h.pieces) (in_span made.devices h.devices) (behind made.pieces h.pieces) (behind_runs made.runs h.runs)

abbrev pub lines_left : ShapeLines → List Line
lines_left made = leaf_lines made.leaves made.saved ++ device_lines made.devices made.saved

-- the text of the shape
abbrev pub shape_lines : HeldShape → List Line
shape_lines h = lines_of_shape (head_of_shape (held_shape h)) (leaf_parts h.leaves h.leaf_runs) (device_parts h.devices h.pieces h.runs)

abbrev pub shape_text : HeldShape → List ℕ
shape_text h = text_of_lines pool_format (shape_lines h)
