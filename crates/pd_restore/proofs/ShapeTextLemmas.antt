-- The text of a saved shape: what it spells.
use Rattle.std.proofs.Common.{◌≡◌, ℕ, ◌+◌, List, [], ◌∷◌, ◌++◌, take, drop, append_assoc, refl, ap, ap₂, subst, ◌∙◌}
use Rattle.std.specs.List.{AllByRecursion}
use Rattle.pd_grammar.specs.Texts.{reading, whole}
use Rattle.pd_grammar.proofs.GrammarLemmas.{read_if_lines, AreRead}
use Rattle.pd_grammar.proofs.SpellingLemmas.{reading_if_spelled}
use Rattle.pd_grammar.specs.ThinText.{Line, Run, end_line, leaf_line, pool_format, pool_line, shared_first_line}
use Rattle.pd_grammar.proofs.ThinRead.{FitsLine, PlacedInPool}
use Rattle.pd_grammar.proofs.ThinLaws.{joined_some}
use Rattle.pd_laid.specs.PoolText.{IsLawfulShape, MeansPoolShape, SpellsPoolShape, HasPartMappings, HasPieceMappings, HaveMappings, PartPiece, SharedPart, lines_of_leaves, mappings_of_runs, own_runs, used_leaf}
use Rattle.pd_laid.proofs.ShapeText.{pool_language}
use Rattle.pd_meaning_thin.specs.declared.joined.Run.{Run as SavedRun}
use Rattle.pd_restore.specs.Whole.{lines_to_end, head_of_pool}
use Rattle.pd_restore.specs.ShapeLines.{shape_lines, shape_text, told_devices, told_leaves, told_runs}
use Rattle.pd_salvage.specs.declared.saved.SavedHead.{SavedHead}
use Rattle.pd_salvage.specs.declared.saved_shape.SavedLeaf.{SavedLeaf}
use Rattle.pd_salvage.specs.SavedShape.{AreCounted, HeldShape, IsJoined, IsPartJoined, IsPieceJoined, IsSavedShape, device_parts, held_shape, leaf_parts}

-- runs that are as long as can be have mappings
runs_have : (runs : List Run) → IsJoined runs → HaveMappings runs
runs_have runs joined = subst HaveMappings joined (joined_some (mappings_of_runs runs))

pub leaves_have : (leaves : List (List Run)) → AllByRecursion IsJoined leaves → AllByRecursion HaveMappings leaves
leaves_have [] joined = tt
leaves_have (runs ∷ leaves) joined = (runs_have runs joined.0, leaves_have leaves joined.1)

pieces_have : (pieces : List PartPiece) → AllByRecursion IsPieceJoined pieces → AllByRecursion HasPieceMappings pieces
pieces_have [] joined = tt
pieces_have (own_runs runs ∷ pieces) joined = (runs_have runs joined.0, pieces_have pieces joined.1)
pieces_have (used_leaf number ∷ pieces) joined = (tt, pieces_have pieces joined.1)

pub parts_have : (parts : List SharedPart) → AllByRecursion IsPartJoined parts → AllByRecursion HasPartMappings parts
parts_have [] joined = tt
parts_have (part ∷ parts) joined = (pieces_have part.pieces joined.0, parts_have parts joined.1)

-- the lines mean the shape
shape_means : (h : HeldShape) → IsSavedShape h → MeansPoolShape (shape_lines h) (held_shape h)
unfolding held_shape
shape_means h sound = record {
  leaves = leaf_parts h.leaves h.leaf_runs;
  parts = device_parts h.devices h.pieces h.runs;
  lines_are = refl;
  leaves_are = refl;
  devices_are = refl;
  leaf_runs = leaves_have (leaf_parts h.leaves h.leaf_runs) sound.leaves_joined;
  runs = parts_have (device_parts h.devices h.pieces h.runs) sound.joined;
  shape = sound.shape;
  lawful = sound.lawful;
}

-- which is a lawful one
pub shape_lawful : (h : HeldShape) → IsSavedShape h → IsLawfulShape (held_shape h)
shape_lawful h sound = record { shape = sound.shape; pool = sound.lawful }

-- so its text spells it
pub shape_spells : (h : HeldShape) → IsSavedShape h → SpellsPoolShape (shape_text h) (held_shape h)
shape_spells h sound = record { lines = shape_lines h; bytes = refl; means = shape_means h sound }

-- and is read as its lines
pub shape_reading : (h : HeldShape) → IsSavedShape h → reading pool_format (shape_text h) ≡ whole (shape_lines h)
unfolding shape_spells
shape_reading h sound = reading_if_spelled pool_format MeansPoolShape FitsLine PlacedInPool pool_language (shape_text h) (held_shape h) (shape_spells h sound)

pub shape_read : (h : HeldShape) → IsSavedShape h → AreRead pool_format [] (shape_lines h)
shape_read h sound =
    read_if_lines pool_format FitsLine PlacedInPool pool_language.grammar [] (shape_lines h) (pool_language.lines (shape_lines h) (held_shape h) (shape_means h sound))

-- the lines of leaves that say how many mappings they have
leaves_told : (number : ℕ) (leaves : List SavedLeaf) (runs : List SavedRun) → AreCounted leaves runs → told_leaves number leaves runs ≡ lines_of_leaves number (leaf_parts leaves runs)
leaves_told number [] runs counted = refl
leaves_told number (leaf ∷ leaves) runs counted =
    ap₂ (λ (n : ℕ) (lines : List Line). leaf_line (record { number = number; entries = n }) ∷ (told_runs (take leaf.runs runs) ++ lines)) counted.0
    (leaves_told (number + 1) leaves (drop leaf.runs runs) counted.1)

-- all lines
pub all_shape_lines : (h : HeldShape) → IsSavedShape h → (p : SavedHead) (coming : List Line) → p ≡ h.head
    → coming ≡ told_leaves 0 h.leaves h.leaf_runs ++ told_devices h.devices h.pieces h.runs
    → shared_first_line ∷ pool_line (head_of_pool p) ∷ lines_to_end coming ≡ shape_lines h
unfolding held_shape
all_shape_lines h sound p coming head rest =
    let leaves = leaves_told 0 h.leaves h.leaf_runs sound.counted in
    let devices = told_devices h.devices h.pieces h.runs in
    ap₂ (λ (q : SavedHead) (lines : List Line). shared_first_line ∷ pool_line (head_of_pool q) ∷ lines) head
    (ap (λ (lines : List Line). lines ++ end_line ∷ []) (rest ∙ ap (λ (lines : List Line). lines ++ devices) leaves)
    ∙ append_assoc (lines_of_leaves 0 (leaf_parts h.leaves h.leaf_runs)) devices (end_line ∷ []))
