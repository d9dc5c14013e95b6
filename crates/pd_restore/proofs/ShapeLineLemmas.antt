-- The lines of a saved shape from a place on.
use Rattle.std.proofs.Common.{◌≡◌, ℕ, zero, suc, ◌+◌, ◌-◌, ◌<◌, List, [], ◌∷◌, ◌++◌, length, take, drop, append_assoc, refl, ap, sym, ◌∙◌, arith}
use Rattle.std.proofs.lemmas.List.{drop-drop, take_all}
use Rattle.std.proofs.lemmas.List.Sums.{sum_by-cons}
use Rattle.pd_grammar.specs.ThinText.{device_line, leaf_line, map_line, use_line}
use Rattle.pd_texts.specs.ThinLine.{details_of}
use Rattle.pd_meaning_thin.specs.declared.joined.Run.{Run}
use Rattle.pd_meaning_thin.specs.Runs.{spelled}
use Rattle.pd_meaning_thin.specs.Packed.{runs_from}
use Rattle.pd_restore.specs.declared.shape_lines.LeafLines.{LeafLines}
use Rattle.pd_restore.specs.declared.saved_lines.RunSpan.{RunSpan}
use Rattle.pd_restore.specs.declared.saved_lines.Span.{Span}
use Rattle.pd_restore.specs.ShapeLines.{device_lines, leaf_lines, lines_of_rest, told_devices, told_leaves, told_pieces, told_runs}
use Rattle.pd_restore.specs.SavedLines.{behind, behind_runs, in_runs, in_span}
use Rattle.pd_salvage.specs.declared.saved_shape.SavedLeaf.{SavedLeaf}
use Rattle.pd_salvage.specs.declared.saved_shape.SavedPiece.{SavedPiece}
use Rattle.pd_salvage.specs.declared.saved_shape.SavedPiece.TheVariants.{Own, Shared}
use Rattle.pd_salvage.specs.declared.saved_shape.ShapedDevice.{ShapedDevice}
use Rattle.pd_salvage.specs.SavedShape.{HeldShape, runs_of_piece, runs_of_pieces}

-- the next element of a row, and what stands behind it
module _ {T : Type 0} where
  pub row_first : (at left : ℕ) (items : List T) (x : T) → 0 < left → drop at items ≡ x ∷ drop (at + 1) items → take left (drop at items) ≡ x ∷ take (left - 1) (drop (at + 1) items)
  row_first at zero items x some there = absurd (omega arith)
  row_first at (suc left) items x some there = let less : suc left - 1 ≡ left = omega arith in rw (there, less) refl

  pub row_behind : (at left : ℕ) (items : List T) (x : T) → 0 < left → drop at items ≡ x ∷ drop (at + 1) items → drop (left - 1) (drop (at + 1) items) ≡ drop left (drop at items)
  row_behind at zero items x some there = absurd (omega arith)
  row_behind at (suc left) items x some there = let less : suc left - 1 ≡ left = omega arith in rw (there, less) refl

  pub next_first : (left : ℕ) (items rest : List T) (x : T) → 0 < left → items ≡ x ∷ rest → take left items ≡ x ∷ take (left - 1) rest
  next_first zero items rest x some there = absurd (omega arith)
  next_first (suc left) items rest x some there = let less : suc left - 1 ≡ left = omega arith in rw (there, less) refl

  pub next_behind : (left : ℕ) (items rest : List T) (x : T) → 0 < left → items ≡ x ∷ rest → drop (left - 1) rest ≡ drop left items
  next_behind zero items rest x some there = absurd (omega arith)
  next_behind (suc left) items rest x some there = let less : suc left - 1 ≡ left = omega arith in rw (there, less) refl

  -- where none is left
  pub row_none : (left : ℕ) (items : List T) → items ≡ [] → take left items ≡ []
  row_none zero items none = refl
  row_none (suc left) items none = rw none refl

  pub none_behind : (left : ℕ) (items : List T) → items ≡ [] → drop left items ≡ []
  none_behind zero items none = none
  none_behind (suc left) items none = rw none refl

  -- all elements
  pub all_in : (s : Span) (items : List T) → s.at ≡ 0 → s.left ≡ length items → in_span s items ≡ items
  unfolding in_span
  all_in s items first all = rw (first, all) (take_all (length items) items (omega arith))

  pub none_in : (s : Span) (items : List T) → s.left ≡ 0 → in_span s items ≡ []
  unfolding in_span
  none_in s items none = rw none refl

  pub all_behind : (s : Span) (items : List T) → s.at ≡ 0 → s.left ≡ 0 → behind s items ≡ items
  unfolding behind
  all_behind s items first none = rw (first, none) refl

  -- a row that is over may be begun anew
  pub begun_in : (s t : Span) (items : List T) → s.left ≡ 0 → t.at ≡ s.at → in_span t items ≡ take t.left (behind s items)
  unfolding in_span behind
  begun_in s t items none same = rw (none, same) refl

  pub begun_behind : (s t : Span) (items : List T) → s.left ≡ 0 → t.at ≡ s.at → behind t items ≡ drop t.left (behind s items)
  unfolding behind
  begun_behind s t items none same = rw (none, same) refl

-- the same of runs
pub none_in_runs : (s : RunSpan) (runs : List Run) → s.left ≡ 0 → in_runs s runs ≡ []
unfolding in_runs
none_in_runs s runs none = rw none refl

pub row_taken : (s : RunSpan) (runs : List Run) → in_runs s runs ≡ take s.left (runs_from runs s.at)
unfolding in_runs
row_taken s runs = refl

pub row_left : (s : RunSpan) (runs : List Run) → behind_runs s runs ≡ drop s.left (runs_from runs s.at)
unfolding behind_runs
row_left s runs = refl

pub over_behind : (s : RunSpan) (runs : List Run) → s.left ≡ 0 → behind_runs s runs ≡ runs_from runs s.at
unfolding behind_runs
over_behind s runs none = rw none refl

pub begun_in_runs : (s t : RunSpan) (runs : List Run) → s.left ≡ 0 → t.at ≡ s.at → in_runs t runs ≡ take t.left (behind_runs s runs)
unfolding in_runs behind_runs
begun_in_runs s t runs none same = rw (none, same) refl

pub begun_behind_runs : (s t : RunSpan) (runs : List Run) → s.left ≡ 0 → t.at ≡ s.at → behind_runs t runs ≡ drop t.left (behind_runs s runs)
unfolding behind_runs
begun_behind_runs s t runs none same = rw (none, same) refl

-- the leaves: a run of the last one; the next leaf; none
module _ (old new : LeafLines) (h : HeldShape) where
  pub leaf_run : (r : Run) → in_runs old.runs h.leaf_runs ≡ r ∷ in_runs new.runs h.leaf_runs → behind_runs new.runs h.leaf_runs ≡ behind_runs old.runs h.leaf_runs → new.leaves ≡ old.leaves
      → leaf_lines old h ≡ map_line (spelled r) ∷ leaf_lines new h
  unfolding leaf_lines
  leaf_run r there same leaves = rw (there, same, leaves) refl

  pub leaf_next : (leaf : SavedLeaf) → in_runs old.runs h.leaf_runs ≡ [] → in_runs new.runs h.leaf_runs ≡ take leaf.runs (behind_runs old.runs h.leaf_runs)
      → behind_runs new.runs h.leaf_runs ≡ drop leaf.runs (behind_runs old.runs h.leaf_runs) → in_span old.leaves h.leaves ≡ leaf ∷ in_span new.leaves h.leaves → new.leaves.at ≡ old.leaves.at + 1
      → leaf_lines old h ≡ leaf_line (record { number = old.leaves.at; entries = leaf.entries }) ∷ leaf_lines new h
  unfolding leaf_lines
  leaf_next leaf none runs rest leaves next = rw (none, runs, rest, leaves, next) refl

pub no_leaf : (made : LeafLines) (h : HeldShape) → in_runs made.runs h.leaf_runs ≡ [] → in_span made.leaves h.leaves ≡ [] → leaf_lines made h ≡ []
unfolding leaf_lines
no_leaf made h runs leaves = rw (runs, leaves) refl

-- the devices: a run of the last piece
module _ (first next : List Run) (pieces later same_later : List SavedPiece) (devices : List ShapedDevice) (runs same_runs : List Run) (same : same_runs ≡ runs) where
  pub run_first : (r : Run) → first ≡ r ∷ next → lines_of_rest first pieces devices later runs ≡ map_line (spelled r) ∷ lines_of_rest next pieces devices later same_runs
  unfolding lines_of_rest
  run_first r there = rw (there, same) refl

  -- a use
  pub use_first : (number : ℕ) (rest : List SavedPiece) → first ≡ [] → next ≡ [] → pieces ≡ Shared number ∷ rest → same_later ≡ later
      → lines_of_rest first pieces devices later runs ≡ use_line number ∷ lines_of_rest next rest devices same_later same_runs
  unfolding lines_of_rest
  use_first number rest none nothing there stays =
      let less : runs_of_pieces (Shared number ∷ rest) ≡ runs_of_pieces rest = omega (arith, sum_by-cons runs_of_piece (Shared number) rest) in
      rw (none, nothing, there, stays, same) (ap (λ (n : ℕ). use_line number ∷ (told_pieces rest runs ++ told_devices devices later (drop n runs))) less)

  -- where no run is left
  pub same_first : (rest : List SavedPiece) → first ≡ [] → next ≡ [] → pieces ≡ [] → rest ≡ [] → same_later ≡ later
      → lines_of_rest first pieces devices later runs ≡ lines_of_rest next rest devices same_later same_runs
  same_first rest none nothing over ended stays = rw (none, nothing, over, ended, stays, same) refl

-- a piece of the device's own
pub own_first : (k : ℕ) (first next : List Run) (pieces rest : List SavedPiece) (devices : List ShapedDevice) (later same_later : List SavedPiece) (runs behind_it : List Run)
    → first ≡ [] → pieces ≡ Own k ∷ rest → next ≡ take k runs → behind_it ≡ drop k runs → same_later ≡ later
    → lines_of_rest first pieces devices later runs ≡ lines_of_rest next rest devices same_later behind_it
unfolding lines_of_rest
own_first k first next pieces rest devices later same_later runs behind_it none there taken left stays =
    rw (none, there, taken, left, stays) (append_assoc (told_runs (take k runs)) (told_pieces rest (drop k runs)) (told_devices devices later (drop (runs_of_pieces (Own k ∷ rest)) runs))
    ∙ ap (λ (others : List Run). told_runs (take k runs) ++ (told_pieces rest (drop k runs) ++ told_devices devices later others))
    (ap (λ (n : ℕ). drop n runs) (sum_by-cons runs_of_piece (Own k) rest) ∙ sym (drop-drop (runs_of_pieces rest) k runs)))

-- the next device, or none
module _ (first : List Run) (pieces : List SavedPiece) (devices : List ShapedDevice) (later : List SavedPiece) (runs : List Run) where
  pub device_first : (d : ShapedDevice) (rest : List ShapedDevice) (next behind_it : List SavedPiece) → first ≡ [] → pieces ≡ [] → devices ≡ d ∷ rest → next ≡ take d.pieces later → behind_it ≡ drop d.pieces later
      → lines_of_rest first pieces devices later runs ≡ device_line (details_of d.id d.details) ∷ lines_of_rest first next rest behind_it runs
  unfolding lines_of_rest
  device_first d rest next behind_it none over there taken left = rw (none, over, there, taken, left) refl

  pub none_first : first ≡ [] → pieces ≡ [] → devices ≡ [] → lines_of_rest first pieces devices later runs ≡ []
  unfolding lines_of_rest
  none_first none over ended = rw (none, over, ended) refl

-- all lines come at first
pub all_told : (h : HeldShape) (leaves : Span) (leaf_runs : RunSpan) (devices pieces : Span) (runs : RunSpan) → leaves.at ≡ 0 → leaves.left ≡ length h.leaves
    → in_runs leaf_runs h.leaf_runs ≡ [] → behind_runs leaf_runs h.leaf_runs ≡ h.leaf_runs → devices.at ≡ 0 → devices.left ≡ length h.devices → pieces.at ≡ 0 → pieces.left ≡ 0
    → in_runs runs h.runs ≡ [] → behind_runs runs h.runs ≡ h.runs
    → leaf_lines (record { leaves = leaves; runs = leaf_runs }) h ++ device_lines (record { devices = devices; pieces = pieces; runs = runs }) h
    ≡ told_leaves 0 h.leaves h.leaf_runs ++ told_devices h.devices h.pieces h.runs
unfolding leaf_lines lines_of_rest
all_told h leaves leaf_runs devices pieces runs first all run_none run_all device_at device_all piece_at piece_left own_none own_all k =
    (told_runs (run_none k) ++ told_leaves (first k) (all_in leaves h.leaves first all k) (run_all k))
    ++ lines_of_rest (own_none k) (none_in pieces h.pieces piece_left k) (all_in devices h.devices device_at device_all k) (all_behind pieces h.pieces piece_at piece_left k) (own_all k)
