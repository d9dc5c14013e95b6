-- What is kept is what is told.
use Rattle.std.proofs.Common.{◌≡◌, ℕ, zero, suc, ◌+◌, ◌*◌, ◌<◌, ◌≤◌, Bool, true, false, nat_le, ◌⊎◌, inl, inr, Option, Some, None, IfNone, unwrap_or, refl, ap, arith, subst, ◌∙◌, ◌^◌, ◌-◌, cond, nat_eq, List, [], ◌∷◌, ◌++◌, drop, take, length, map, sym, ap₂}
use Rattle.std.specs.List.{find, range_with_len, flat_map}
use Rattle.std.proofs.lemmas.Bool.{cases_lt, le-leb, lt-leb}
use Rattle.std.specs.Prelude.{sum_by}
use Rattle.std.proofs.lemmas.List.{length-map}
use Rattle.std.proofs.lemmas.List.Sums.{sum_by-cons}
use Rattle.pd_kinds.specs.Bitmap.{bitmaps_for}
use Rattle.pd_kinds.specs.Meaning.{ThinPool, Mapping, ThinDevice}
use Rattle.pd_kinds.specs.ThinFormat.{ThinFields}
use Rattle.pd_grammar.specs.Need.{need_of_devices, thin_need}
use Rattle.pd_grammar.specs.Lawful.{AreDevices}
use Rattle.pd_laid.specs.Shape.{ThinShape, device_of, pool_of}
use Rattle.pd_laid.specs.PoolText.{need_of_shared, shape_need, device_of_part, mappings_of_runs}
use Rattle.pd_laid.specs.Salvage.{salvage_from, salvaged_entries, saved_shape_from}
use Rattle.pd_answers.specs.KeptLines.{IsLeastRoom, least_room, IsTold, Told, found_mapped, lines_below, told_from, told_line, told_lines, told_text}
use Rattle.pd_tree.specs.Search.{lookup}
use Rattle.pd_tree.proofs.TreeLemmas.{lookup_entries}
use Rattle.pd_meaning_thin.specs.declared.joined.Run.{Run}
use Rattle.pd_salvage.specs.declared.saved_shape.SavedPiece.{SavedPiece}
use Rattle.pd_salvage.specs.declared.saved_shape.ShapedDevice.{ShapedDevice}
use Rattle.pd_salvage.specs.SavedShape.{HeldShape, IsSavedShape, device_parts, held_shape, leaf_parts, runs_of_pieces}
use Rattle.pd_kept.specs.declared.kept.Kept.{Kept}
use Rattle.pd_kept.specs.declared.merging.StoredNumber.{StoredNumber}
use Rattle.pd_kept.specs.Kept.{told_of, line_at, line_of_id, lines_at_all, lines_from, saved_pair, AreStored, pair_of, stored_numbers, stored_word, Weighs}

-- The least number of blocks on which there is room.

-- more blocks have as many bitmaps or more
pub bitmaps_more : (n m : ℕ) → n ≤ m → bitmaps_for n ≤ bitmaps_for m
bitmaps_more n m more = omega arith

-- on no fewer blocks than a need there is room for it
pub need_more : (base room need : ℕ) → ((n : ℕ) → n < room → n < base + bitmaps_for n) → need ≤ base + bitmaps_for room → (n : ℕ) → n < need → n < base + bitmaps_for n
need_more base room need below is n fewer = by (cases_lt n room)
  where
    by : (n < room) ⊎ (room ≤ n) → n < base + bitmaps_for n
    by (inl less) = below n less
    by (inr more) = omega (arith, bitmaps_more room n more)

-- what holds of no answer
pub if_none : {P : Type 0} (o : Option ℕ) → P → IfNone o P
if_none None p = p
if_none (Some n) p = tt

-- where two needs are the same
same_room : (f g : ℕ → ℕ) → ((n : ℕ) → f n ≡ g n) → (room : ℕ) → IsLeastRoom f room → IsLeastRoom g room
same_room f g same room least = record {
  enough = subst (λ (n : ℕ). n ≤ room) (same room) least.enough;
  least = λ fewer below. subst (λ (n : ℕ). fewer < n) (same fewer) (least.least fewer below);
}

pub pool_bitmaps : (m : ThinPool) (room : ℕ) → thin_need m 0 + bitmaps_for room ≡ thin_need m room
unfolding thin_need need_of_devices
pool_bitmaps m room = omega arith

pub shape_bitmaps : (w : ThinShape) (room : ℕ) → shape_need w 0 + bitmaps_for room ≡ shape_need w room
unfolding shape_need need_of_shared
shape_bitmaps w room = omega arith

-- the room of a pool, and of a shape
pub pool_room : (m : ThinPool) (base room : ℕ) → base ≡ thin_need m 0 → IsLeastRoom (λ n. base + bitmaps_for n) room → IsLeastRoom (thin_need m) room
pool_room m base room is least =
    same_room (λ n. base + bitmaps_for n) (thin_need m) (λ n. ap (λ (k : ℕ). k + bitmaps_for n) is ∙ pool_bitmaps m n) room least

pub shape_room : (w : ThinShape) (base room : ℕ) → base ≡ shape_need w 0 → IsLeastRoom (λ n. base + bitmaps_for n) room → IsLeastRoom (shape_need w) room
shape_room w base room is least =
    same_room (λ n. base + bitmaps_for n) (shape_need w) (λ n. ap (λ (k : ℕ). k + bitmaps_for n) is ∙ shape_bitmaps w n) room least

-- the first number of a range that is found
found_first : (test : ℕ → Bool) (first from len : ℕ) → from ≤ first → first < from + len → test first ≡ true → ((n : ℕ) → n < first → test n ≡ false) → find test (range_with_len from len) ≡ Some first
found_first test first from zero after before found none = absurd (omega arith)
found_first test first from (suc len) after before found none = by (cases_lt from first) (λ less. found_first test first (from + 1) len (omega arith) (omega arith) found none)
  where
    by : (from < first) ⊎ (first ≤ from) → (from < first → find test (range_with_len (from + 1) len) ≡ Some first) → find test (range_with_len from (suc len)) ≡ Some first
    by (inl less) rest = rw (none from less) (rest less)
    by (inr more) rest = let here : from ≡ first = omega arith in rw (here, found) refl

-- the least number of blocks is the one that is looked for: it is at most twice what is needed where there are no blocks, and one
least_is : (need : ℕ → ℕ) (room : ℕ) → ((n : ℕ) → need 0 + bitmaps_for n ≡ need n) → IsLeastRoom need room → least_room need ≡ room
unfolding least_room
least_is need room form least =
    ap (λ (o : Option ℕ). unwrap_or o 0)
    (found_first (λ n. nat_le (need n) n) room 0 (2 * need 0 + 2) (omega arith) (near (cases_lt room (2 * need 0 + 2))) (le-leb (need room) room least.enough)
    (λ n fewer. lt-leb (need n) n (least.least n fewer)))
  where
    near : (room < 2 * need 0 + 2) ⊎ (2 * need 0 + 2 ≤ room) → room < 0 + (2 * need 0 + 2)
    near (inl less) = omega arith
    near (inr more) = let short = least.least (2 * need 0 + 1) (omega arith) in let is = form (2 * need 0 + 1) in absurd (omega arith)

pub pool_least : (m : ThinPool) (room : ℕ) → IsLeastRoom (thin_need m) room → least_room (thin_need m) ≡ room
pool_least m room least = least_is (thin_need m) room (pool_bitmaps m) least

pub shape_least : (w : ThinShape) (room : ℕ) → IsLeastRoom (shape_need w) room → least_room (shape_need w) ≡ room
shape_least w room least = least_is (shape_need w) room (shape_bitmaps w) least

-- a device's number of mappings beside its id
abbrev pub device_pair : ThinDevice → ℕ × ℕ
device_pair d = (d.id, d.mapped)

-- the saved devices are those of the pool
parts_pairs : (leaves : List (List Mapping)) (ds : List ShapedDevice) (ps : List SavedPiece) (runs : List Run)
    → map device_pair (map (device_of leaves) (map device_of_part (device_parts ds ps runs))) ≡ map saved_pair ds
parts_pairs leaves [] ps runs = refl
parts_pairs leaves (d ∷ ds) ps runs =
    ap (λ (items : List (ℕ × ℕ)). (d.id, d.details.mapped) ∷ items) (parts_pairs leaves ds (drop d.pieces ps) (drop (runs_of_pieces (take d.pieces ps)) runs))

pub pairs_are : (h : HeldShape) → map device_pair (pool_of (held_shape h)).devices ≡ map saved_pair h.devices
unfolding held_shape pool_of
pairs_are h = parts_pairs (map mappings_of_runs (leaf_parts h.leaves h.leaf_runs)) h.devices h.pieces h.runs

-- their ids ascend
pub ids_ascend : (blocks least : ℕ) (ds : List ThinDevice) → AreDevices blocks least ds → AreStored least (map device_pair ds)
ids_ascend blocks least [] are = tt
ids_ascend blocks least (d ∷ ds) are = (are.0.above, are.0.id_fits, ids_ascend blocks (d.id + 1) ds are.1)

pub saved_ascend : (h : HeldShape) → IsSavedShape h → AreStored 0 (map saved_pair h.devices)
saved_ascend h sound = subst (AreStored 0) (pairs_are h) (ids_ascend (pool_of (held_shape h)).data_blocks 0 (pool_of (held_shape h)).devices sound.lawful.devices)

-- the line of an id is that of the first device which has it
first_device : (id : ℕ) (same : Bool) (d : ThinDevice) (later : Option ThinDevice) (found stored : Option ℕ) → told_line id later stored ≡ line_of_id id found stored
    → told_line id (cond same (Some d) later) stored ≡ line_of_id id (cond same (Some d.mapped) found) stored
first_device id true d later found stored rest = refl
first_device id false d later found stored rest = rest

line_is : (id : ℕ) (ds : List ThinDevice) (stored : Option ℕ) → told_line id (find (λ (d : ThinDevice). nat_eq d.id id) ds) stored ≡ line_of_id id (lookup id (map device_pair ds)) stored
unfolding lookup
line_is id [] stored = refl
line_is id (d ∷ ds) stored =
    first_device id (nat_eq d.id id) d (find (λ (e : ThinDevice). nat_eq e.id id) ds) (lookup id (map device_pair ds)) stored (line_is id ds stored)

pub found_is : (fields : ThinFields) (image : List (List ℕ)) (id : ℕ) → found_mapped fields image id ≡ lookup id (stored_numbers fields image)
unfolding stored_numbers
found_is fields image id = sym (lookup_entries stored_word id (salvaged_entries 24 fields.meta_map.blocks image fields.details_root))

below_same : (end : ℕ) (line : ℕ → List ℕ) (saved stored : List (ℕ × ℕ)) → ((id : ℕ) → line id ≡ line_at saved stored id) → lines_below end line ≡ lines_from end 0 saved stored
unfolding lines_below lines_from
below_same end line saved stored same =
    let whole : end - 0 ≡ end = omega arith in
    rw whole (each line (line_at saved stored) same (range_with_len 0 end))
  where
    each : (f g : ℕ → List ℕ) → ((n : ℕ) → f n ≡ g n) → (ns : List ℕ) → flat_map f ns ≡ flat_map g ns
    each f g same [] = refl
    each f g same (n ∷ ns) = ap₂ (λ (xs ys : List ℕ). xs ++ ys) (same n) (each f g same ns)

-- the lines are those of the devices of the salvage and of the numbers that are stored
pub lines_told : (fields : ThinFields) (image : List (List ℕ)) → lines_at_all (map device_pair (salvage_from fields image).devices) (stored_numbers fields image) ≡ told_lines fields image
unfolding lines_at_all told_lines
lines_told fields image =
    let ds = (salvage_from fields image).devices in
    sym (below_same (2 ^ 64) (λ id. told_line id (find (λ (d : ThinDevice). nat_eq d.id id) ds) (found_mapped fields image id)) (map device_pair ds) (stored_numbers fields image)
    (λ id. line_is id ds (found_mapped fields image id) ∙ ap (line_of_id id (lookup id (map device_pair ds))) (found_is fields image id)))

-- how many mappings devices have
sum_pairs : (ds : List ThinDevice) → sum_by (λ (p : ℕ × ℕ). p.1) (map device_pair ds) ≡ sum_by (λ (d : ThinDevice). d.mapped) ds
sum_pairs [] = refl
sum_pairs (d ∷ ds) = omega (arith, sum_by-cons (λ (p : ℕ × ℕ). p.1) (device_pair d) (map device_pair ds), sum_by-cons (λ (d : ThinDevice). d.mapped) d ds, sum_pairs ds)

sum_saved : (ds : List ShapedDevice) → sum_by (λ (p : ℕ × ℕ). p.1) (map saved_pair ds) ≡ sum_by (λ (d : ShapedDevice). d.details.mapped) ds
sum_saved [] = refl
sum_saved (d ∷ ds) = omega (arith, sum_by-cons (λ (p : ℕ × ℕ). p.1) (saved_pair d) (map saved_pair ds), sum_by-cons (λ (d : ShapedDevice). d.details.mapped) d ds, sum_saved ds)

-- so it is what is told
pub told_is : (fields : ThinFields) (image : List (List ℕ)) (h : HeldShape) (stored : List StoredNumber) (kept : Kept) → held_shape h ≡ saved_shape_from fields image
    → pool_of (saved_shape_from fields image) ≡ salvage_from fields image → map pair_of stored ≡ stored_numbers fields image → Weighs h stored kept → IsTold fields image (told_of kept)
told_is fields image h stored kept shape means numbers weighs =
    let m = salvage_from fields image in
    let whole : pool_of (held_shape h) ≡ m = ap pool_of shape ∙ means in
    let pairs : map device_pair m.devices ≡ map saved_pair h.devices = ap (λ (p : ThinPool). map device_pair p.devices) (sym whole) ∙ pairs_are h in
    record {
      lines = weighs.lines ∙ (ap₂ lines_at_all (sym pairs) numbers ∙ lines_told fields image);
      devices = weighs.devices ∙ (sym (length-map h.devices saved_pair) ∙ (ap (λ (items : List (ℕ × ℕ)). length items) (sym pairs) ∙ length-map m.devices device_pair));
      mappings = weighs.mappings ∙ (sym (sum_saved h.devices) ∙ (ap (sum_by (λ (p : ℕ × ℕ). p.1)) (sym pairs) ∙ sum_pairs m.devices));
      need = subst (λ (p : ThinPool). IsLeastRoom (thin_need p) kept.need) whole weighs.need;
      shared_need = subst (λ (w : ThinShape). IsLeastRoom (shape_need w) kept.shared_need) shape weighs.shared_need;
    }

-- and its text is the one that answers
pub text_is : (fields : ThinFields) (image : List (List ℕ)) (told : Told) → IsTold fields image told → told_text told ≡ told_text (told_from fields image)
text_is fields image told is =
    rw (is.lines, is.devices, is.mappings, sym (pool_least (salvage_from fields image) told.need is.need), sym (shape_least (saved_shape_from fields image) told.shared_need is.shared_need)) refl
