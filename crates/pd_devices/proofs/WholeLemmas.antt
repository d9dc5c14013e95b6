-- What was gathered of the lines of a whole text is of its shape.
use Rattle.std.proofs.Common.{◌≡◌, ℕ, ◌+◌, ◌≤◌, List, [], ◌∷◌, ◌++◌, length, map, refl, ap, ap₂, sym, ◌∙◌, append-nil, append_assoc, arith, Bool, true, Option, Some, None, subst}
use Rattle.std.specs.List.{AllByRecursion, flat_map}
use Rattle.std.proofs.Math.Path.{fun_ext}
use Rattle.std.proofs.lemmas.Bool.{true≢false}
use Rattle.pd_kinds.specs.Meaning.{Mapping}
use Rattle.pd_grammar.specs.ThinText.{Line, Run, device_line, end_line, leaf_line, map_line, use_line, first_line, shared_first_line, pool_line, pool_format, is_shared}
use Rattle.pd_grammar.proofs.ThinLaws.{pushed}
use Rattle.pd_grammar.specs.Texts.{has_ended}
use Rattle.pd_grammar.proofs.ThinRead.{FitsLine, PlacedInPool}
use Rattle.pd_laid.specs.Shape.{ArePieces, Piece, own, shared, ShapeDevice, ThinShape}
use Rattle.pd_laid.specs.PoolText.{PartPiece, SharedPart, own_runs, used_leaf, device_of_part, lines_of_leaves, lines_of_part, lines_of_piece, mappings_of_runs, piece_of_part, MeansAs, MeansPoolShape, shape_need, shape_need_so_far, MeansShape, head_of_shape}
use Rattle.pd_laid.proofs.ToldLeaves.{pushed-append}
use Rattle.pd_laid.specs.LaidThin.{details_items, mapping_items}
use Rattle.pd_laid.proofs.ShapeText.{pool_language}
use Rattle.pd_laid.proofs.WholeNeed as need
use Rattle.pd_draft.specs.Closed.{DraftState, Wrote}
use Rattle.pd_texts.specs.Reader.{AreReadSoFar, in_order}
use Rattle.pd_texts.proofs.LawLemmas.{read_lines_mean}
use Rattle.pd_devices.specs.Told.{open_leaf, open_device, bare_device, with_pieces, own_piece, after_run, after_use, opened, ended_leaf, ended_device, whole_leaves, whole_devices, nothing_open}
use Rattle.pd_devices.specs.declared.shared_devices.SharedDevices.{SharedDevices}
use Rattle.pd_devices.specs.declared.growing.Growing.{Growing}
use Rattle.pd_devices.specs.SharedGathered.{HasGathered, IsOpen, IsGatheredShape, uses_counted}
use Rattle.pd_laws_laid.specs.Shared.{device_roots, leaves_and_trees}
use Rattle.pd_laws_laid.proofs.DataCounts.{counts_are}

-- The lines of a shape come to its leaves and its devices.

-- all that lines tell, where what is open ends with them
record Tells (before : List Line) (over : List (List Run)) (closed : List ShapeDevice) : Type 0 where
  leaves : whole_leaves before ++ ended_leaf (opened before) ≡ over
  devices : whole_devices before ++ ended_device (opened before) ≡ closed

-- nothing more is over
record Keeps (before next : List Line) : Type 0 where
  leaves : whole_leaves next ≡ whole_leaves before
  devices : whole_devices next ≡ whole_devices before

runs_keep : (runs : List Run) (before : List Line) → Keeps before (pushed before (map map_line runs))
runs_keep [] before = record { leaves = refl; devices = refl }
runs_keep (r ∷ runs) before =
    let rest = runs_keep runs (map_line r ∷ before) in
    record { leaves = rest.leaves; devices = rest.devices }

leaf_runs : (runs held : List Run) (before : List Line) → opened before ≡ open_leaf held
    → opened (pushed before (map map_line runs)) ≡ open_leaf (held ++ runs)
leaf_runs [] held before is = is ∙ ap open_leaf (sym (append-nil held))
leaf_runs (r ∷ runs) held before is =
    leaf_runs runs (held ++ (r ∷ [])) (map_line r ∷ before) (ap (after_run r) is) ∙ ap open_leaf (append_assoc held (r ∷ []) runs)

device_runs : (runs held : List Run) (d : ShapeDevice) (before : List Line) → opened before ≡ open_device d held
    → opened (pushed before (map map_line runs)) ≡ open_device d (held ++ runs)
device_runs [] held d before is = is ∙ ap (open_device d) (sym (append-nil held))
device_runs (r ∷ runs) held d before is =
    device_runs runs (held ++ (r ∷ [])) d (map_line r ∷ before) (ap (after_run r) is) ∙ ap (open_device d) (append_assoc held (r ∷ []) runs)

-- leaves come to leaves
leaves_tell : (k : ℕ) (leaves over : List (List Run)) (devices : List ShapeDevice) (before : List Line) → Tells before over devices
    → Tells (pushed before (lines_of_leaves k leaves)) (over ++ leaves) devices
leaves_tell k [] over devices before tells = record { leaves = tells.leaves ∙ sym (append-nil over); devices = tells.devices }
leaves_tell k (runs ∷ leaves) over devices before tells =
    let head : List Line = leaf_line (record { number = k; entries = length (mappings_of_runs runs) }) ∷ before in
    let next : List Line = pushed head (map map_line runs) in
    let keeps = runs_keep runs head in
    let is = leaf_runs runs [] head refl in
    let here : Tells next (over ++ (runs ∷ [])) devices = record {
      leaves = ap₂ (λ (ls ms : List (List Run)). ls ++ ms) (keeps.leaves ∙ tells.leaves) (ap ended_leaf is);
      devices = ap₂ (λ (ds es : List ShapeDevice). ds ++ es) (keeps.devices ∙ tells.devices) (ap ended_device is) ∙ append-nil devices;
    } in
    let rest = leaves_tell (k + 1) leaves (over ++ (runs ∷ [])) devices next here in
    let same = pushed-append head (map map_line runs) (lines_of_leaves (k + 1) leaves) in
    record {
      leaves = ap (λ (ls : List Line). whole_leaves ls ++ ended_leaf (opened ls)) same ∙ (rest.leaves ∙ append_assoc over (runs ∷ []) leaves);
      devices = ap (λ (ls : List Line). whole_devices ls ++ ended_device (opened ls)) same ∙ rest.devices;
    }

-- a device with these pieces
abbrev of_pieces : ShapeDevice → List Piece → ShapeDevice
of_pieces d pieces = record { id = d.id; mapped = d.mapped; transaction = d.transaction; created = d.created; snapped = d.snapped; pieces = pieces }

joined : (d : ShapeDevice) (xs ys : List Piece) → with_pieces ys (with_pieces xs d) ≡ with_pieces (xs ++ ys) d
joined d xs ys = ap (of_pieces d) (append_assoc d.pieces xs ys)

-- lines of pieces lengthen the open device
record Lengthen (before next : List Line) (d : ShapeDevice) (pieces : List Piece) : Type 0 where
  keeps : Keeps before next
  leaf : ended_leaf (opened next) ≡ []
  device : ended_device (opened next) ≡ with_pieces pieces d ∷ []

some_runs : (runs : List Run) → 1 ≤ length (mappings_of_runs runs) → own_piece runs ≡ own (mappings_of_runs runs) ∷ []
some_runs [] some = absurd (omega (arith, some))
some_runs (r ∷ runs) some = refl

pieces_lengthen : (number : ℕ) (pieces : List PartPiece) (d : ShapeDevice) (before : List Line) → opened before ≡ open_device d []
    → ArePieces number (map piece_of_part pieces) → Lengthen before (pushed before (flat_map lines_of_piece pieces)) d (map piece_of_part pieces)
pieces_lengthen number [] d before is are = record {
  keeps = record { leaves = refl; devices = refl };
  leaf = ap ended_leaf is;
  device = ap ended_device is;
}
pieces_lengthen number (own_runs runs ∷ []) d before is are =
    let next : List Line = pushed before (map map_line runs) in
    let ends = device_runs runs [] d before is in
    let same = pushed-append before (map map_line runs) [] in
    let keeps = runs_keep runs before in
    record {
      keeps = record { leaves = ap whole_leaves same ∙ keeps.leaves; devices = ap whole_devices same ∙ keeps.devices };
      leaf = ap (λ (ls : List Line). ended_leaf (opened ls)) same ∙ ap ended_leaf ends;
      device = ap (λ (ls : List Line). ended_device (opened ls)) same
          ∙ (ap ended_device ends ∙ ap (λ (ps : List Piece). with_pieces ps d ∷ []) (some_runs runs are));
    }
pieces_lengthen number (own_runs runs ∷ own_runs others ∷ pieces) d before is are = absurd are
pieces_lengthen number (own_runs runs ∷ used_leaf k ∷ pieces) d before is are =
    let next : List Line = pushed before (map map_line runs) in
    let ends = device_runs runs [] d before is in
    let same = pushed-append before (map map_line runs) (use_line k ∷ flat_map lines_of_piece pieces) in
    let keeps = runs_keep runs before in
    let e : ShapeDevice = with_pieces (shared k ∷ []) (with_pieces (own_piece runs) d) in
    let rest = pieces_lengthen number pieces e (use_line k ∷ next) (ap (after_use k) ends) are.1.1 in
    let more : List Piece = map piece_of_part pieces in
    let whole = joined (with_pieces (own_piece runs) d) (shared k ∷ []) more ∙ joined d (own_piece runs) (shared k ∷ more) in
    record {
      keeps = record { leaves = ap whole_leaves same ∙ (rest.keeps.leaves ∙ keeps.leaves); devices = ap whole_devices same ∙ (rest.keeps.devices ∙ keeps.devices) };
      leaf = ap (λ (ls : List Line). ended_leaf (opened ls)) same ∙ rest.leaf;
      device = ap (λ (ls : List Line). ended_device (opened ls)) same
          ∙ (rest.device ∙ (ap (λ (x : ShapeDevice). x ∷ []) whole
          ∙ ap (λ (ps : List Piece). with_pieces (ps ++ (shared k ∷ more)) d ∷ []) (some_runs runs are.0)));
    }
pieces_lengthen number (used_leaf k ∷ pieces) d before is are =
    let e : ShapeDevice = with_pieces (shared k ∷ []) (with_pieces [] d) in
    let rest = pieces_lengthen number pieces e (use_line k ∷ before) (ap (after_use k) is) are.1 in
    let more : List Piece = map piece_of_part pieces in
    let whole = joined (with_pieces [] d) (shared k ∷ []) more ∙ joined d [] (shared k ∷ more) in
    record {
      keeps = record { leaves = rest.keeps.leaves; devices = rest.keeps.devices };
      leaf = rest.leaf;
      device = rest.device ∙ ap (λ (x : ShapeDevice). x ∷ []) whole;
    }

-- parts come to devices
parts_tell : (number : ℕ) (parts : List SharedPart) (over : List (List Run)) (devices : List ShapeDevice) (before : List Line) → Tells before over devices
    → AllByRecursion (λ (d : ShapeDevice). ArePieces number d.pieces) (map device_of_part parts)
    → Tells (pushed before (flat_map lines_of_part parts)) over (devices ++ map device_of_part parts)
parts_tell number [] over devices before tells are = record { leaves = tells.leaves; devices = tells.devices ∙ sym (append-nil devices) }
parts_tell number (p ∷ parts) over devices before tells are =
    let head : List Line = device_line p.details ∷ before in
    let next : List Line = pushed head (flat_map lines_of_piece p.pieces) in
    let more = pieces_lengthen number p.pieces (bare_device p.details) head refl are.0 in
    let longer : List ShapeDevice = devices ++ (device_of_part p ∷ []) in
    let here : Tells next over longer = record {
      leaves = ap₂ (λ (ls ms : List (List Run)). ls ++ ms) (more.keeps.leaves ∙ tells.leaves) more.leaf ∙ append-nil over;
      devices = ap₂ (λ (ds es : List ShapeDevice). ds ++ es) (more.keeps.devices ∙ tells.devices) more.device;
    } in
    let rest = parts_tell number parts over longer next here are.1 in
    let same = pushed-append head (flat_map lines_of_piece p.pieces) (flat_map lines_of_part parts) in
    record {
      leaves = ap (λ (ls : List Line). whole_leaves ls ++ ended_leaf (opened ls)) same ∙ rest.leaves;
      devices = ap (λ (ls : List Line). whole_devices ls ++ ended_device (opened ls)) same
          ∙ (rest.devices ∙ append_assoc devices (device_of_part p ∷ []) (map device_of_part parts));
    }

-- so all lines come to these
pub lines_tell : (number : ℕ) (before : List Line) (leaves : List (List Run)) (parts : List SharedPart)
    → whole_leaves before ++ ended_leaf (opened before) ≡ [] → whole_devices before ++ ended_device (opened before) ≡ []
    → AllByRecursion (λ (d : ShapeDevice). ArePieces number d.pieces) (map device_of_part parts)
    → (whole_leaves (end_line ∷ pushed before (lines_of_leaves 0 leaves ++ flat_map lines_of_part parts)) ≡ leaves)
    × (whole_devices (end_line ∷ pushed before (lines_of_leaves 0 leaves ++ flat_map lines_of_part parts)) ≡ map device_of_part parts)
lines_tell number before leaves parts no_leaves no_devices are =
    let front = leaves_tell 0 leaves [] [] before (record { leaves = no_leaves; devices = no_devices }) in
    let all = parts_tell number parts leaves [] (pushed before (lines_of_leaves 0 leaves)) front are in
    let same = pushed-append before (lines_of_leaves 0 leaves) (flat_map lines_of_part parts) in (
      ap (λ (ls : List Line). whole_leaves ls ++ ended_leaf (opened ls)) same ∙ all.leaves,
      ap (λ (ls : List Line). whole_devices ls ++ ended_device (opened ls)) same ∙ all.devices,
    )

-- a version that was told stays
shared_after : (before lines : List Line) → is_shared lines ≡ true → is_shared (in_order before lines) ≡ true
shared_after [] lines version = version
shared_after (first_line ∷ before) lines version = shared_after before (first_line ∷ lines) version
shared_after (shared_first_line ∷ before) lines version = shared_after before (shared_first_line ∷ lines) refl
shared_after (pool_line p ∷ before) lines version = shared_after before (pool_line p ∷ lines) version
shared_after (leaf_line l ∷ before) lines version = shared_after before (leaf_line l ∷ lines) version
shared_after (device_line d ∷ before) lines version = shared_after before (device_line d ∷ lines) version
shared_after (use_line n ∷ before) lines version = shared_after before (use_line n ∷ lines) version
shared_after (map_line r ∷ before) lines version = shared_after before (map_line r ∷ lines) version
shared_after (end_line ∷ before) lines version = shared_after before (end_line ∷ lines) version

-- it is the same in either order
shared_in_order : (before lines : List Line) → is_shared before ≡ true → is_shared (in_order before lines) ≡ true
shared_in_order [] lines version = absurd (true≢false (sym version))
shared_in_order (first_line ∷ before) lines version = shared_in_order before (first_line ∷ lines) version
shared_in_order (shared_first_line ∷ before) lines version = shared_after before (shared_first_line ∷ lines) refl
shared_in_order (pool_line p ∷ before) lines version = shared_in_order before (pool_line p ∷ lines) version
shared_in_order (leaf_line l ∷ before) lines version = shared_in_order before (leaf_line l ∷ lines) version
shared_in_order (device_line d ∷ before) lines version = shared_in_order before (device_line d ∷ lines) version
shared_in_order (use_line n ∷ before) lines version = shared_in_order before (use_line n ∷ lines) version
shared_in_order (map_line r ∷ before) lines version = shared_in_order before (map_line r ∷ lines) version
shared_in_order (end_line ∷ before) lines version = shared_in_order before (end_line ∷ lines) version

-- lines that are put in order and pushed again are the same
pub pushed_again : (before lines : List Line) → pushed [] (in_order before lines) ≡ pushed before lines
pushed_again [] lines = refl
pushed_again (line ∷ before) lines = pushed_again before (line ∷ lines)

-- where nothing is open, all is written
all_written : (before : List Line) (growing : Option Growing) (from to : DraftState) → IsOpen before nothing_open growing from to → from ≡ to
all_written before None from to is = is.0
all_written before (Some o) from to is = absurd is

module _ (room : ℕ) (lines : List Line) (s : SharedDevices) (start now : DraftState) (w : ThinShape) (means : MeansShape (in_order lines []) w) where
  abbrev begun : List Line
  begun = pool_line (head_of_shape w) ∷ shared_first_line ∷ []

  abbrev middle : List Line
  middle = lines_of_leaves 0 means.leaves ++ flat_map lines_of_part means.parts

  abbrev told : List Line
  told = pushed begun middle

  -- the lines are these, the newest first
  lines_same : lines ≡ end_line ∷ told
  lines_same =
      sym (pushed_again lines [])
      ∙ (ap (λ (ls : List Line). pushed [] ls) means.lines_are
      ∙ (ap (λ (ls : List Line). pushed begun ls) (need.lines_joined room w means.leaves means.parts means.leaves_are means.devices_are means.shape.pieces)
      ∙ pushed-append begun middle (end_line ∷ [])))

  all_tell : (whole_leaves (end_line ∷ told) ≡ means.leaves) × (whole_devices (end_line ∷ told) ≡ map device_of_part means.parts)
  all_tell =
      lines_tell (length w.leaves) begun means.leaves means.parts refl refl
      (subst (λ (ds : List ShapeDevice). AllByRecursion (λ (d : ShapeDevice). ArePieces (length w.leaves) d.pieces) ds) (sym means.devices_are) means.shape.pieces)

  leaves_same : map mappings_of_runs (whole_leaves (end_line ∷ told)) ≡ w.leaves
  leaves_same = ap (map mappings_of_runs) all_tell.0 ∙ means.leaves_are

  devices_same : whole_devices (end_line ∷ told) ≡ w.devices
  devices_same = all_tell.1 ∙ means.devices_are

  gathered_shape : HasGathered room (end_line ∷ told) s start now → IsGatheredShape w s start now
  gathered_shape g =
      let data_counted = need.data_counted room w means.leaves means.parts means.leaves_are means.devices_are means.shape.pieces in
      let blocks_are = need.blocks_are room w means.leaves means.parts means.leaves_are means.devices_are means.shape.pieces in
      let number_counted = need.number_counted room w means.leaves means.parts means.leaves_are means.devices_are means.shape.pieces in
      let uses_counted = need.uses_counted room w means.leaves means.parts means.leaves_are means.devices_are means.shape.pieces in
      let behind : Wrote (leaves_and_trees w.leaves w.devices) start g.behind =
      subst (λ (blocks : List (List ℕ)). Wrote blocks start g.behind)
      (ap₂ (λ (ls : List (List Mapping)) (ds : List ShapeDevice). leaves_and_trees ls ds) leaves_same devices_same) g.written in
      record {
        shape = means.shape;
        lawful = means.lawful;
        begin = g.begin;
        written = subst (λ (to : DraftState). Wrote (leaves_and_trees w.leaves w.devices) start to)
            (all_written (end_line ∷ told) s.growing g.behind now g.growing) behind;
        roots = g.listed.roots
            ∙ ap₂ (λ (ls : List (List Mapping)) (ds : List ShapeDevice). device_roots (map mapping_items ls) (1 + length ls) ds) leaves_same devices_same;
        details = g.listed.details ∙ ap details_items (append-nil (whole_devices (end_line ∷ told)) ∙ devices_same);
        roots_fit = g.listed.roots_fit;
        details_fit = g.listed.details_fit;
        counted = fun_ext (λ (d : ℕ). g.counts.counted d ∙ data_counted d) ∙ sym (counts_are w means.shape means.lawful);
        size = g.counts.size ∙ blocks_are;
        leaves = g.leaves.number ∙ number_counted;
        uses = λ (n : ℕ). g.counts.uses_counted n ∙ uses_counted n;
      }

  need_same : shape_need_so_far room lines ≡ shape_need w room
  need_same =
      ap (λ (ls : List Line). shape_need_so_far room ls) lines_same
      ∙ need.end_need room w means.leaves means.parts means.leaves_are means.devices_are means.shape.pieces

-- so all lines that were read come to a shape
pub lines_are_a_shape : (room : ℕ) (lines : List Line) (s : SharedDevices) (start now : DraftState) → HasGathered room lines s start now
    → AreReadSoFar pool_format lines → has_ended pool_format lines ≡ true
    → (w : ThinShape) × (MeansShape (in_order lines []) w × (IsGatheredShape w s start now × ((shape_need_so_far room lines ≡ shape_need w room) × ((uses_counted s).size ≡ room))))
lines_are_a_shape room lines s start now g reads ended =
    let found = read_lines_mean pool_format MeansPoolShape FitsLine PlacedInPool pool_language lines reads ended in
    let version : is_shared (in_order lines []) ≡ true = shared_in_order lines [] g.version in
    let means : MeansShape (in_order lines []) found.0 = subst (λ (b : Bool). MeansAs b (in_order lines []) found.0) version found.1 in
    let same = lines_same room lines s start now found.0 means in (
      found.0,
      (
        means,
        (
          gathered_shape room lines s start now found.0 means (subst (λ (ls : List Line). HasGathered room ls s start now) same g),
          (need_same room lines s start now found.0 means, g.counts.uses_size),
        ),
      ),
    )
