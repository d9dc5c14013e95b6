-- What the lines of a pool's text of version 2 have told, the newest first: the leaves and the devices that are over, and the
-- one that isn't.
-- The words of a device's line as the definitions have them.
use Rattle.std.specs.Prelude.{ℕ, List, [], ◌∷◌, ◌++◌, map}
use Rattle.pd_kinds.specs.Meaning.{Mapping}
use Rattle.pd_kinds.specs.Node.{Entry}
use Rattle.pd_grammar.specs.ThinText.{Line, Run, Details, first_line, shared_first_line, pool_line, leaf_line, device_line, use_line, map_line, end_line}
use Rattle.pd_laid.specs.LaidThin.{mapping_items}
use Rattle.pd_laid.specs.Shape.{Piece, own, shared, ShapeDevice}
use Rattle.pd_laid.specs.PoolText.{mappings_of_runs}
use Rattle.pd_value.specs.declared.thin.Details.{Details as Value}

-- what lines may go on with: the runs of a leaf so far, or a device with its pieces that are over and the runs of the piece
-- that isn't
pub data Open : Type 0 where
  nothing_open : Open
  open_leaf : List Run → Open
  open_device : ShapeDevice → List Run → Open

-- a piece of these runs, where there are some
abbrev pub own_piece : List Run → List Piece
own_piece [] = []
own_piece (r ∷ runs) = own (mappings_of_runs (r ∷ runs)) ∷ []

-- a device without pieces, and with more of them
abbrev pub bare_device : Details → ShapeDevice
bare_device d = record { id = d.id; mapped = d.mapped; transaction = d.transaction; created = d.created; snapped = d.snapped; pieces = [] }

abbrev pub with_pieces : List Piece → ShapeDevice → ShapeDevice
with_pieces more d = record {
  id = d.id;
  mapped = d.mapped;
  transaction = d.transaction;
  created = d.created;
  snapped = d.snapped;
  pieces = d.pieces ++ more;
}

-- one run more, and the use of a leaf
abbrev pub after_run : Run → Open → Open
after_run r nothing_open = nothing_open
after_run r (open_leaf runs) = open_leaf (runs ++ r ∷ [])
after_run r (open_device d runs) = open_device d (runs ++ r ∷ [])

abbrev pub after_use : ℕ → Open → Open
after_use n nothing_open = nothing_open
after_use n (open_leaf runs) = nothing_open
after_use n (open_device d runs) = open_device (with_pieces (shared n ∷ []) (with_pieces (own_piece runs) d)) []

-- what isn't over after these lines
abbrev pub opened : List Line → Open
opened [] = nothing_open
opened (first_line ∷ before) = nothing_open
opened (shared_first_line ∷ before) = nothing_open
opened (pool_line p ∷ before) = nothing_open
opened (leaf_line l ∷ before) = open_leaf []
opened (device_line d ∷ before) = open_device (bare_device d) []
opened (use_line n ∷ before) = after_use n (opened before)
opened (map_line r ∷ before) = after_run r (opened before)
opened (end_line ∷ before) = nothing_open

-- the leaf and the device that it comes to when it is over
abbrev pub ended_leaf : Open → List (List Run)
ended_leaf nothing_open = []
ended_leaf (open_leaf runs) = runs ∷ []
ended_leaf (open_device d runs) = []

abbrev pub ended_device : Open → List ShapeDevice
ended_device nothing_open = []
ended_device (open_leaf runs) = []
ended_device (open_device d runs) = with_pieces (own_piece runs) d ∷ []

-- the runs that are held until then
abbrev pub open_runs : Open → List Run
open_runs nothing_open = []
open_runs (open_leaf runs) = runs
open_runs (open_device d runs) = runs

-- the leaves that are over, by their runs
abbrev pub whole_leaves : List Line → List (List Run)
whole_leaves [] = []
whole_leaves (first_line ∷ before) = []
whole_leaves (shared_first_line ∷ before) = []
whole_leaves (pool_line p ∷ before) = []
whole_leaves (leaf_line l ∷ before) = whole_leaves before ++ ended_leaf (opened before)
whole_leaves (device_line d ∷ before) = whole_leaves before ++ ended_leaf (opened before)
whole_leaves (use_line n ∷ before) = whole_leaves before
whole_leaves (map_line r ∷ before) = whole_leaves before
whole_leaves (end_line ∷ before) = whole_leaves before ++ ended_leaf (opened before)

-- the devices that are over
abbrev pub whole_devices : List Line → List ShapeDevice
whole_devices [] = []
whole_devices (first_line ∷ before) = []
whole_devices (shared_first_line ∷ before) = []
whole_devices (pool_line p ∷ before) = []
whole_devices (leaf_line l ∷ before) = whole_devices before ++ ended_device (opened before)
whole_devices (device_line d ∷ before) = whole_devices before ++ ended_device (opened before)
whole_devices (use_line n ∷ before) = whole_devices before
whole_devices (map_line r ∷ before) = whole_devices before
whole_devices (end_line ∷ before) = whole_devices before ++ ended_device (opened before)

-- the mappings of leaves, and their items
abbrev pub leaves_told : List (List Run) → List (List Mapping)
leaves_told leaves = map mappings_of_runs leaves

abbrev pub leaf_items : List (List Run) → List (List Entry)
leaf_items leaves = map mapping_items (leaves_told leaves)

abbrev pub details_line : ℕ → Value → Details
details_line id d = record { id = id; mapped = d.mapped; transaction = d.transaction; created = d.created; snapped = d.snapped }
