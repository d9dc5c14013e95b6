-- The lines of shared leaves and of pieces in a pool without faults are those of its shape.
use Rattle.std.proofs.Common.{◌≡◌, ℕ, ◌+◌, ◌≤◌, true, nat_eq, nat_le, nat_lt, List, [], ◌∷◌, ◌++◌, length, map, refl, ap, ◌∙◌, append_assoc, arith}
use Rattle.std.specs.Prelude.{count_by, sum_by}
use Rattle.std.specs.List.{AllByRecursion, flat_map}
use Rattle.std.proofs.lemmas.Bool.{and_parts, leb-true}
use Rattle.std.proofs.lemmas.List.{map-append}
use Rattle.std.proofs.lemmas.List.Sums.{sum_by-cons}
use Rattle.pd_kinds.specs.Graph.{Graph, block_at}
use Rattle.pd_kinds.specs.Meaning.{thin_meaning}
use Rattle.pd_kinds.specs.ThinFormat.{thin_graph, thin_fields}
use Rattle.pd_grammar.specs.Texts.{text_of_lines}
use Rattle.pd_grammar.specs.ThinText.{Line, Run, end_line, joined_runs, map_line, number_in, pool_line, shared_first_line, thin}
use Rattle.pd_grammar.proofs.ThinLaws.{joined_mappings}
use Rattle.pd_laid.specs.Shape.{all_leaf_blocks, device_shapes, image_shape, is_shared_leaf, mappings_in, shared_leaves}
use Rattle.pd_laid.specs.PoolText.{joined_part, joined_piece, lines_of_leaves, lines_of_part, lines_of_piece, mappings_of_runs, text_of_shape}
use Rattle.pd_laid.proofs.LeafRuns.{number_mapped}
use Rattle.pd_laid.specs.Shape as shape
use Rattle.pd_meaning_thin.specs.declared.devices.DeviceRow.{DeviceRow}
use Rattle.pd_meaning_thin.specs.Given.{GivesPool, device_of, pool_rows, super_head}
use Rattle.pd_meaning_thin.specs.Runs.{given_runs, spelled, runs_below}
use Rattle.pd_meaning_thin.specs.Pieces.{GivesLeaf, GivesShape, IsGivenWhole, device_pieces, pool_leaves, pool_roots, given_piece, pieces_below}
use Rattle.pd_meaning_thin.proofs.GivenLemmas.{all_kept}
use Rattle.pd_meaning_thin.specs.declared.joined.Run as given
use Rattle.pd_meaning_thin.specs.declared.pieces.Piece.TheVariants as pieces
use Rattle.pd_pool_dumps.specs.SharedLines.{body_lines, entries_in, leaves_lines, piece_line, pieces_lines, shared_lines, sharing_lines}

-- of how many mappings given runs are
spelled_sum : (runs : List given.Run) → sum_by (λ (run : given.Run). run.length) runs ≡ number_in (map spelled runs)
spelled_sum [] = refl
spelled_sum (r ∷ runs) =
    omega (
      arith,
      sum_by-cons (λ (run : given.Run). run.length) r runs,
      spelled_sum runs,
      sum_by-cons (λ (s : Run). s.length) (spelled r) (map spelled runs),
    )

module _ (image : List (List ℕ)) where
  -- a leaf has few mappings, so that their number is given as it is
  abbrev pub IsFew : ℕ → Type 0
  IsFew b = length (mappings_in image b) ≤ 252

  entries_are : (b : ℕ) → GivesLeaf image b → IsFew b → entries_in (runs_below image b) ≡ length (mappings_of_runs (joined_runs (mappings_in image b)))
  entries_are b gives few =
      let sum = spelled_sum (runs_below image b) ∙ (ap number_in gives.runs ∙ number_mapped (joined_runs (mappings_in image b))) in
      let whole = ap length (joined_mappings (mappings_in image b)) in
      omega arith

  leaves_are : (number : ℕ) (blocks : List ℕ) → AllByRecursion (GivesLeaf image) blocks → AllByRecursion IsFew blocks
      → leaves_lines image number blocks ≡ lines_of_leaves number (map joined_runs (map (mappings_in image) blocks))
  leaves_are number [] gives few = refl
  leaves_are number (b ∷ blocks) gives few =
      let runs = gives.0.runs in
      rw (entries_are b gives.0 few.0, runs, leaves_are (number + 1) blocks gives.1 few.1) refl

  -- the shared leaves have few mappings
  few_shared : (graph : Graph) (b : ℕ) → is_shared_leaf graph image b ≡ true → IsFew b
  few_shared graph b is =
      leb-true (length (mappings_in image b)) 252
      (and_parts (nat_le 1 (length (mappings_in image b))) (nat_le (length (mappings_in image b)) 252)
      (and_parts (nat_lt 1 (count_by (λ leaf. nat_eq leaf b) (all_leaf_blocks graph image))) _ is).1).1

  few_leaves : AllByRecursion IsFew (pool_leaves image)
  unfolding shared_leaves
  few_leaves = all_kept IsFew (is_shared_leaf (thin_graph (block_at image 0)) image) (thin_graph (block_at image 0)).nr 0 (λ b below is. few_shared (thin_graph (block_at image 0)) b is)

-- the lines of runs that are a device's own, and of its pieces
run_lines : (runs : List given.Run) → map piece_line (map pieces.Run runs) ≡ map map_line (map spelled runs)
run_lines [] = refl
run_lines (r ∷ runs) = ap (λ (lines : List Line). map_line (spelled r) ∷ lines) (run_lines runs)

piece_lines : (piece : shape.Piece) → IsGivenWhole piece → map piece_line (given_piece piece) ≡ lines_of_piece (joined_piece piece)
piece_lines (shape.own mappings) whole = run_lines (given_runs mappings) ∙ ap (map map_line) whole
piece_lines (shape.shared number) whole = refl

all_piece_lines : (parts : List shape.Piece) → AllByRecursion IsGivenWhole parts → map piece_line (flat_map given_piece parts) ≡ flat_map lines_of_piece (map joined_piece parts)
all_piece_lines [] whole = refl
all_piece_lines (piece ∷ parts) whole =
    map-append piece_line (given_piece piece) (flat_map given_piece parts) ∙ (rw (piece_lines piece whole.0, all_piece_lines parts whole.1) refl)

module _ (image : List (List ℕ)) where
  abbrev graph : Graph
  graph = thin_graph (block_at image 0)

  -- the lines of rows are those of the devices of the shape
  rows_are : (rows : List DeviceRow) → AllByRecursion (λ root. pieces_below (pool_leaves image) image root ≡ flat_map given_piece (device_pieces image root)) (map (λ (row : DeviceRow). row.root) rows)
      → AllByRecursion (λ root. AllByRecursion IsGivenWhole (device_pieces image root)) (map (λ (row : DeviceRow). row.root) rows)
      → flat_map (sharing_lines (pool_leaves image) image) rows
      ≡ flat_map lines_of_part (map joined_part (device_shapes graph image (map (device_of image) rows) (map (λ (row : DeviceRow). row.root) rows)))
  rows_are [] below whole = refl
  rows_are (row ∷ rows) below whole =
      let lines : pieces_lines (pool_leaves image) image row.root ≡ flat_map lines_of_piece (map joined_piece (device_pieces image row.root)) =
      ap (map piece_line) below.0 ∙ all_piece_lines (device_pieces image row.root) whole.0 in
      rw (lines, rows_are rows below.1 whole.1) refl

  devices_are : GivesPool image → GivesShape image
      → flat_map (sharing_lines (pool_leaves image) image) (pool_rows image)
      ≡ flat_map lines_of_part (map joined_part (device_shapes graph image (thin_meaning image).devices (pool_roots image)))
  devices_are pool gives =
      rw (pool.devices, ← gives.roots) (rows_are (pool_rows image) (rw (← gives.roots) at gives.pieces) (rw (← gives.roots) at gives.runs))

  body_are : GivesPool image → GivesShape image
      → body_lines (pool_leaves image) image (pool_rows image) ++ (end_line ∷ [])
      ≡ lines_of_leaves 0 (map joined_runs (map (mappings_in image) (pool_leaves image)))
      ++ (flat_map lines_of_part (map joined_part (device_shapes graph image (thin_meaning image).devices (pool_roots image))) ++ (end_line ∷ []))
  body_are pool gives =
      let leaves = leaves_are image 0 (pool_leaves image) gives.leaves (few_leaves image) in
      let devices = devices_are pool gives in
      rw (leaves, devices) (append_assoc (lines_of_leaves 0 (map joined_runs (map (mappings_in image) (pool_leaves image)))) _ (end_line ∷ []))

  -- so all its lines are the text of the shape
  pub shared_text_is : GivesPool image → GivesShape image
      → text_of_lines thin (shared_lines (pool_leaves image) image (thin_fields (block_at image 0))) ≡ text_of_shape (image_shape image)
  unfolding text_of_shape image_shape thin_meaning
  shared_text_is pool gives =
      ap (λ (lines : List Line). text_of_lines thin (shared_first_line ∷ pool_line (super_head (thin_fields (block_at image 0))) ∷ lines)) (body_are pool gives)
