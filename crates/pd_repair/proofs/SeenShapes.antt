-- A shape in which sharing is seen: it is what the counts tell, and a shape that means a lawful pool.
use Rattle.std.proofs.Common.{◌≡◌, ℕ, ◌+◌, ◌^◌, ◌<◌, max, Bool, List, [], ◌∷◌, ◌++◌, eqb, length, map, take, drop, refl, sym, ap, ap₂, subst, ◌∙◌}
use Rattle.std.specs.List.{AllByRecursion, flat_map, list_any}
use Rattle.std.specs.Prelude.{fold, sum_by}
use Rattle.std.proofs.lemmas.List.Sums.{sum_by-cons}
use Rattle.pd_kinds.specs.Meaning.{Mapping, ThinDevice}
use Rattle.pd_grammar.specs.Lawful.{IsLawfulPool}
use Rattle.pd_grammar.specs.Need.{mapped_data}
use Rattle.pd_laid.specs.Shape.{ArePieces, IsShape, ShapeDevice, ThinShape, device_of, pool_of, uses_of}
use Rattle.pd_laid.specs.PoolText.{device_of_part, mappings_of_runs}
use Rattle.pd_answers.specs.Searches.{raised_time, seen_device, seen_pool, seen_shape, seen_snap, seen_time, timed_pool, timed_shape}
use Rattle.pd_count.specs.Counted.{Counted}
use Rattle.pd_meaning_thin.specs.declared.joined.Run.{Run}
use Rattle.pd_restore.specs.ShapeNeed.{HasCountedThrice}
use Rattle.pd_salvage.specs.declared.saved_shape.SavedPiece.{SavedPiece}
use Rattle.pd_salvage.specs.declared.saved_shape.ShapedDevice.{ShapedDevice}
use Rattle.pd_salvage.specs.SavedShape.{HeldShape, IsPartJoined, IsSavedShape, device_parts, held_shape, leaf_parts, runs_of_pieces, with_devices}
use Rattle.pd_repair.specs.Snaps.{is_twice, mappings_of_pieces, seen_shaped, snap_after, snapped_at}
use Rattle.pd_repair.proofs.SeenLemmas.{device_snap, lawful_seen}

-- a device of a shape with these leaves, seen by some data blocks
abbrev pub seen_with : List ℕ → List (List Mapping) → ShapeDevice → ShapeDevice
seen_with places leaves d = record {
  id = d.id;
  mapped = d.mapped;
  transaction = d.transaction;
  created = d.created;
  snapped = seen_snap places (device_of leaves d);
  pieces = d.pieces;
}

-- the devices of the shape
shaped_seen : (counts : Counted) (places : List ℕ) → HasCountedThrice counts places → (leaves : List (List Mapping)) (ds : List ShapedDevice) (ps : List SavedPiece) (runs : List Run)
    → map device_of_part (device_parts (seen_shaped (is_twice counts) leaves ds ps runs) ps runs) ≡ map (seen_with places leaves) (map device_of_part (device_parts ds ps runs))
shaped_seen counts places counted leaves [] ps runs = refl
shaped_seen counts places counted leaves (d ∷ ds) ps runs =
    let mine = take d.pieces ps in
    let rest = drop (runs_of_pieces mine) runs in
    let parts = map device_of_part (device_parts (d ∷ []) ps runs) in
    let bare : ThinDevice = record {
      id = d.id;
      mapped = d.details.mapped;
      transaction = d.details.transaction;
      created = d.details.created;
      snapped = d.details.snapped;
      mappings = mappings_of_pieces leaves mine runs;
    } in
    ap₂ (λ (s : ℕ) (others : List ShapeDevice). map (λ (e : ShapeDevice). record e { snapped = s }) parts ++ others)
    (device_snap counts places counted bare) (shaped_seen counts places counted leaves ds (drop d.pieces ps) rest)

-- when they are snapped
snaps_told : (ds : List ShapedDevice) (ps : List SavedPiece) (runs : List Run)
    → map (λ (d : ShapedDevice). d.details.snapped) ds ≡ map (λ (d : ShapeDevice). d.snapped) (map device_of_part (device_parts ds ps runs))
snaps_told [] ps runs = refl
snaps_told (d ∷ ds) ps runs = ap (λ (snaps : List ℕ). d.details.snapped ∷ snaps) (snaps_told ds (drop d.pieces ps) (drop (runs_of_pieces (take d.pieces ps)) runs))

snaps_shaped : (places : List ℕ) (leaves : List (List Mapping)) (ds : List ShapeDevice) → map (λ (d : ShapeDevice). d.snapped) (map (seen_with places leaves) ds) ≡ map (seen_snap places) (map (device_of leaves) ds)
snaps_shaped places leaves [] = refl
snaps_shaped places leaves (d ∷ ds) = ap (λ (snaps : List ℕ). seen_snap places (device_of leaves d) ∷ snaps) (snaps_shaped places leaves ds)

-- the leaves that are held
abbrev pub leaves_of : HeldShape → List (List Mapping)
leaves_of h = map mappings_of_runs (leaf_parts h.leaves h.leaf_runs)

-- the shape
module _ (h : HeldShape) (counts : Counted) (counted : HasCountedThrice counts (mapped_data (pool_of (held_shape h)))) where
  abbrev seen_now : List ShapedDevice
  seen_now = seen_shaped (is_twice counts) (leaves_of h) h.devices h.pieces h.runs

  pub shape_seen : (time : ℕ) → held_shape (with_devices h (raised_time time (fold max 0 (map (λ (d : ShapedDevice). d.details.snapped) seen_now))) seen_now) ≡ seen_shape (timed_shape time (held_shape h))
  unfolding held_shape seen_shape seen_time pool_of
  shape_seen time =
      let places = mapped_data (pool_of (held_shape h)) in
      let ds = map device_of_part (device_parts h.devices h.pieces h.runs) in
      let are = shaped_seen counts places counted (leaves_of h) h.devices h.pieces h.runs in
      let snaps : map (λ (d : ShapedDevice). d.details.snapped) seen_now ≡ map (seen_snap places) (map (device_of (leaves_of h)) ds) =
      snaps_told seen_now h.pieces h.runs ∙ (ap (map (λ (d : ShapeDevice). d.snapped)) are ∙ snaps_shaped places (leaves_of h) ds) in
      ap₂ (λ (t : ℕ) (others : List ShapeDevice). record {
        uuid = h.head.uuid;
        time = t;
        transaction = h.head.transaction;
        block_size = h.head.block_size;
        data_blocks = h.head.blocks;
        leaves = leaves_of h;
        devices = others;
      })
      (ap (λ (least : List ℕ). raised_time time (fold max 0 least)) snaps) are

-- its pool is the one in which sharing is seen
devices_alike : (places : List ℕ) (leaves : List (List Mapping)) (ds : List ShapeDevice) → map (device_of leaves) (map (seen_with places leaves) ds) ≡ map (seen_device places) (map (device_of leaves) ds)
devices_alike places leaves [] = refl
devices_alike places leaves (d ∷ ds) = ap (λ (others : List ThinDevice). seen_device places (device_of leaves d) ∷ others) (devices_alike places leaves ds)

pub shape_means : (w : ThinShape) → pool_of (seen_shape w) ≡ seen_pool (pool_of w)
unfolding pool_of seen_shape seen_pool
shape_means w = ap (λ (others : List ThinDevice). record {
  uuid = w.uuid;
  time = seen_time (pool_of w);
  transaction = w.transaction;
  block_size = w.block_size;
  data_blocks = w.data_blocks;
  devices = others;
}) (devices_alike (mapped_data (pool_of w)) w.leaves w.devices)

timed_means : (w : ThinShape) (time : ℕ) → pool_of (timed_shape time w) ≡ timed_pool time (pool_of w)
unfolding pool_of
timed_means w time = refl

-- it is a shape
pieces_seen : (n : ℕ) (places : List ℕ) (leaves : List (List Mapping)) (ds : List ShapeDevice) → AllByRecursion (λ (d : ShapeDevice). ArePieces n d.pieces) ds
    → AllByRecursion (λ (d : ShapeDevice). ArePieces n d.pieces) (map (seen_with places leaves) ds)
pieces_seen n places leaves [] are = tt
pieces_seen n places leaves (d ∷ ds) are = (are.0, pieces_seen n places leaves ds are.1)

uses_seen : (places : List ℕ) (leaves : List (List Mapping)) (ds : List ShapeDevice) → flat_map uses_of (map (seen_with places leaves) ds) ≡ flat_map uses_of ds
uses_seen places leaves [] = refl
uses_seen places leaves (d ∷ ds) = ap (λ (uses : List ℕ). uses_of d ++ uses) (uses_seen places leaves ds)

pub is_shape_seen : (w : ThinShape) (time : ℕ) → IsShape w → IsShape (seen_shape (timed_shape time w))
unfolding seen_shape
is_shape_seen w time is =
    let places = mapped_data (pool_of (timed_shape time w)) in
    record {
      numbers_fit = is.numbers_fit;
      filled = is.filled;
      few = is.few;
      pieces = pieces_seen (length w.leaves) places w.leaves w.devices is.pieces;
      used = λ n within. ap (λ (uses : List ℕ). list_any (λ used. eqb used n) uses) (uses_seen places w.leaves w.devices) ∙ is.used n within;
    }

-- its runs are as long as can be, and each piece is a device's
joined_seen : (test : ℕ → Bool) (leaves : List (List Mapping)) (ds : List ShapedDevice) (ps : List SavedPiece) (runs : List Run) → AllByRecursion IsPartJoined (device_parts ds ps runs)
    → AllByRecursion IsPartJoined (device_parts (seen_shaped test leaves ds ps runs) ps runs)
joined_seen test leaves [] ps runs joined = tt
joined_seen test leaves (d ∷ ds) ps runs joined = (joined.0, joined_seen test leaves ds (drop d.pieces ps) (drop (runs_of_pieces (take d.pieces ps)) runs) joined.1)

number_seen : (test : ℕ → Bool) (leaves : List (List Mapping)) (ds : List ShapedDevice) (ps : List SavedPiece) (runs : List Run)
    → sum_by (λ (d : ShapedDevice). d.pieces) (seen_shaped test leaves ds ps runs) ≡ sum_by (λ (d : ShapedDevice). d.pieces) ds
number_seen test leaves [] ps runs = refl
number_seen test leaves (d ∷ ds) ps runs =
    let rest = drop (runs_of_pieces (take d.pieces ps)) runs in
    let e : ShapedDevice = record {
      id = d.id;
      details = snapped_at d.details (snap_after test d.details.snapped (mappings_of_pieces leaves (take d.pieces ps) runs));
      pieces = d.pieces;
    } in
    sum_by-cons (λ (d : ShapedDevice). d.pieces) e (seen_shaped test leaves ds (drop d.pieces ps) rest)
    ∙ (ap (λ (n : ℕ). d.pieces + n) (number_seen test leaves ds (drop d.pieces ps) rest) ∙ sym (sum_by-cons (λ (d : ShapedDevice). d.pieces) d ds))

pub shape_sound : (h : HeldShape) (counts : Counted) (time : ℕ) → HasCountedThrice counts (mapped_data (pool_of (held_shape h))) → time < 2 ^ 32 → IsSavedShape h
    → (let ds = seen_shaped (is_twice counts) (leaves_of h) h.devices h.pieces h.runs in IsSavedShape (with_devices h (raised_time time (fold max 0 (map (λ (d : ShapedDevice). d.details.snapped) ds))) ds))
shape_sound h counts time counted fits sound =
    let w = held_shape h in
    let is = sym (shape_seen h counts counted time) in
    let means : pool_of (seen_shape (timed_shape time w)) ≡ seen_pool (timed_pool time (pool_of w)) = shape_means (timed_shape time w) ∙ ap seen_pool (timed_means w time) in
    let lawful = subst IsLawfulPool (sym means) (lawful_seen (pool_of w) time fits sound.lawful) in
    record {
      shape = subst IsShape is (is_shape_seen w time sound.shape);
      lawful = subst (λ (v : ThinShape). IsLawfulPool (pool_of v)) is lawful;
      counted = sound.counted;
      leaves_joined = sound.leaves_joined;
      joined = joined_seen (is_twice counts) (leaves_of h) h.devices h.pieces h.runs sound.joined;
      leaf_number = sound.leaf_number;
      piece_number = number_seen (is_twice counts) (leaves_of h) h.devices h.pieces h.runs ∙ sound.piece_number;
      number = sound.number;
    }

-- so it is where the devices were seen by the counts, and the time was raised to theirs
module _ (h : HeldShape) (counts : Counted) (counted : HasCountedThrice counts (mapped_data (pool_of (held_shape h)))) (time t latest : ℕ) (ds : List ShapedDevice)
    (ds_are : ds ≡ seen_shaped (is_twice counts) (leaves_of h) h.devices h.pieces h.runs) (latest_is : latest ≡ fold max 0 (map (λ (d : ShapedDevice). d.details.snapped) ds))
    (t_is : t ≡ raised_time time latest) where
  abbrev ds_seen : List ShapedDevice
  ds_seen = seen_shaped (is_twice counts) (leaves_of h) h.devices h.pieces h.runs

  same : with_devices h t ds ≡ with_devices h (raised_time time (fold max 0 (map (λ (d : ShapedDevice). d.details.snapped) ds_seen))) ds_seen
  same =
      ap₂ (λ (n : ℕ) (es : List ShapedDevice). with_devices h n es)
      (t_is ∙ ap (raised_time time) (latest_is ∙ ap (λ (es : List ShapedDevice). fold max 0 (map (λ (d : ShapedDevice). d.details.snapped) es)) ds_are)) ds_are

  pub seen_shape_sound : time < 2 ^ 32 → IsSavedShape h → IsSavedShape (with_devices h t ds)
  seen_shape_sound fits sound = subst IsSavedShape (sym same) (shape_sound h counts time counted fits sound)

  pub seen_shape_is : held_shape (with_devices h t ds) ≡ seen_shape (timed_shape time (held_shape h))
  seen_shape_is = ap held_shape same ∙ shape_seen h counts counted time
