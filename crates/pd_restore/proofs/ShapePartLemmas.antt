-- The data blocks, the uses and the runs of a saved shape, by its pieces and runs.
use Rattle.std.proofs.Common.{◌≡◌, ℕ, suc, ◌+◌, ◌-◌, ◌^◌, ◌<◌, ◌≤◌, min, List, [], ◌∷◌, ◌++◌, length, map, take, drop, refl, ap, ap₂, sym, subst, ◌∙◌, arith, length-drop}
use Rattle.std.specs.List.{AllByRecursion, flat_map, range_with_len}
use Rattle.std.specs.Prelude.{sum_by}
use Rattle.std.proofs.lemmas.Grind.{flat_map-append}
use Rattle.std.proofs.lemmas.List.{length-map, map-append, nil_from_length, take-append-drop}
use Rattle.std.proofs.lemmas.List.Sums.{sum_by-cons, sum_by-take-drop}
use Rattle.pd_kinds.specs.Meaning.{Mapping}
use Rattle.pd_grammar.specs.Lawful.{AreDevices, AreMappings}
use Rattle.pd_grammar.specs.Need.{overflows_in}
use Rattle.pd_grammar.proofs.NeedLemmas.{need_tree-le}
use Rattle.pd_grammar.proofs.ThinLaws.{data_of}
use Rattle.pd_laid.specs.Shape.{ArePieces, ShapeDevice, device_of, piece_mappings, pool_of, shared, uses_of, uses_of_piece}
use Rattle.pd_laid.specs.PoolText.{LeafCount, leaves_of_pieces, need_of_leaves, need_of_shared, own_mappings, shape_data, shape_need, used_often, HasPartMappings, HasPieceMappings, device_of_part, mappings_of_runs, piece_of_part}
use Rattle.pd_laid.proofs.LeafRuns.{IsLeaf, are_leaves, mappings_in_front}
use Rattle.pd_meaning_thin.specs.declared.joined.Run.{Run}
use Rattle.pd_meaning_thin.specs.Runs.{spelled}
use Rattle.pd_devices.specs.SharedGathered.{need_of_parts}
use Rattle.pd_devices.specs.declared.growing.NeedCounts.{NeedCounts}
use Rattle.pd_restore.specs.ShapeNeed.{ArePartsOf, IsRunIn, data_of_runs, IsUseBelow, pieces_of, trees_of_parts, uses_of_saved}
use Rattle.pd_restore.proofs.SavedNeedLemmas.{IsWithin, all_append, part_data, part_within, within_all}
use Rattle.pd_restore.proofs.ShapeNeedLemmas.{parts_need, take_front}
use Rattle.pd_restore.proofs.ShapeTextLemmas.{leaves_have, parts_have}
use Rattle.pd_salvage.specs.declared.saved_shape.SavedLeaf.{SavedLeaf}
use Rattle.pd_salvage.specs.declared.saved_shape.SavedPiece.{SavedPiece}
use Rattle.pd_salvage.specs.declared.saved_shape.SavedPiece.TheVariants.{Own, Shared}
use Rattle.pd_salvage.specs.declared.saved_shape.ShapedDevice.{ShapedDevice}
use Rattle.pd_salvage.specs.SavedShape.{HeldShape, IsSavedShape, device_parts, held_shape, leaf_parts, piece_parts, runs_of_piece, runs_of_pieces}

-- the data blocks of runs, and of others behind them
data_append : (runs others : List Run) → data_of_runs (runs ++ others) ≡ data_of_runs runs ++ data_of_runs others
data_append runs others = flat_map-append (λ (r : Run). range_with_len r.target r.length) runs others

data_split : (n : ℕ) (runs : List Run) → data_of_runs (take n runs) ++ data_of_runs (drop n runs) ≡ data_of_runs runs
data_split n runs = sym (data_append (take n runs) (drop n runs)) ∙ ap data_of_runs (take-append-drop n runs)

-- the runs behind a leaf's, a piece's and a device's are those of the others
pub leaf_rest : (leaf : SavedLeaf) (leaves : List SavedLeaf) (runs : List Run) → sum_by (λ (l : SavedLeaf). l.runs) (leaf ∷ leaves) ≡ length runs
    → sum_by (λ (l : SavedLeaf). l.runs) leaves ≡ length (drop leaf.runs runs)
leaf_rest leaf leaves runs number = omega (arith, number, sum_by-cons (λ (l : SavedLeaf). l.runs) leaf leaves, length-drop leaf.runs runs)

device_rest : (d : ShapedDevice) (ds : List ShapedDevice) (ps : List SavedPiece) → pieces_of (d ∷ ds) ≡ length ps → pieces_of ds ≡ length (drop d.pieces ps)
device_rest d ds ps number = omega (arith, number, sum_by-cons (λ (d : ShapedDevice). d.pieces) d ds, length-drop d.pieces ps)

runs_rest : (n : ℕ) (ps : List SavedPiece) (runs : List Run) → runs_of_pieces ps ≡ length runs → runs_of_pieces (drop n ps) ≡ length (drop (runs_of_pieces (take n ps)) runs)
runs_rest n ps runs number = omega (arith, number, sum_by-take-drop runs_of_piece ps n, length-drop (runs_of_pieces (take n ps)) runs)

-- the data blocks of the leaves
leaves_data : (leaves : List SavedLeaf) (runs : List Run) → sum_by (λ (l : SavedLeaf). l.runs) leaves ≡ length runs
    → data_of (flat_map (λ (ms : List Mapping). ms) (map mappings_of_runs (leaf_parts leaves runs))) ≡ data_of_runs runs
leaves_data [] runs number = rw (nil_from_length runs (sym number)) refl
leaves_data (leaf ∷ leaves) runs number =
    let others = flat_map (λ (ms : List Mapping). ms) (map mappings_of_runs (leaf_parts leaves (drop leaf.runs runs))) in
    map-append (λ (x : Mapping). x.data_block) (mappings_of_runs (map spelled (take leaf.runs runs))) others
    ∙ (ap₂ (λ (bs cs : List ℕ). bs ++ cs) (part_data (take leaf.runs runs)) (leaves_data leaves (drop leaf.runs runs) (leaf_rest leaf leaves runs number))
    ∙ data_split leaf.runs runs)

-- those of the pieces of a device
pieces_data : (ps : List SavedPiece) (runs : List Run) → data_of (flat_map own_mappings (map piece_of_part (piece_parts ps runs))) ≡ data_of_runs (take (runs_of_pieces ps) runs)
pieces_data [] runs = refl
pieces_data (Own k ∷ ps) runs =
    let others = flat_map own_mappings (map piece_of_part (piece_parts ps (drop k runs))) in
    map-append (λ (x : Mapping). x.data_block) (mappings_of_runs (map spelled (take k runs))) others
    ∙ (ap₂ (λ (bs cs : List ℕ). bs ++ cs) (part_data (take k runs)) (pieces_data ps (drop k runs))
    ∙ (sym (data_append (take k runs) (take (runs_of_pieces ps) (drop k runs)))
    ∙ ap data_of_runs (sym (take_front k (runs_of_pieces ps) runs) ∙ ap (λ (n : ℕ). take n runs) (sym (sum_by-cons runs_of_piece (Own k) ps)))))
pieces_data (Shared number ∷ ps) runs =
    let same : runs_of_pieces ps ≡ runs_of_pieces (Shared number ∷ ps) = omega (arith, sum_by-cons runs_of_piece (Shared number) ps) in
    pieces_data ps runs ∙ ap (λ (n : ℕ). data_of_runs (take n runs)) same

-- those of all devices
pub devices_data : (ds : List ShapedDevice) (ps : List SavedPiece) (runs : List Run) → pieces_of ds ≡ length ps → runs_of_pieces ps ≡ length runs
    → data_of (flat_map (λ (d : ShapeDevice). flat_map own_mappings d.pieces) (map device_of_part (device_parts ds ps runs))) ≡ data_of_runs runs
devices_data [] ps runs pieces number =
    let none : length runs ≡ 0 = sym number ∙ ap runs_of_pieces (nil_from_length ps (sym pieces)) in
    rw (nil_from_length runs none) refl
devices_data (d ∷ ds) ps runs pieces number =
    let mine = take d.pieces ps in
    let rest = drop (runs_of_pieces mine) runs in
    let others = flat_map (λ (d : ShapeDevice). flat_map own_mappings d.pieces) (map device_of_part (device_parts ds (drop d.pieces ps) rest)) in
    map-append (λ (x : Mapping). x.data_block) (flat_map own_mappings (map piece_of_part (piece_parts mine runs))) others
    ∙ (ap₂ (λ (bs cs : List ℕ). bs ++ cs) (pieces_data mine runs) (devices_data ds (drop d.pieces ps) rest (device_rest d ds ps pieces) (runs_rest d.pieces ps runs number))
    ∙ data_split (runs_of_pieces mine) runs)

-- the data blocks of a shape are those of its leaves' runs, and of its own pieces'
pub data_is : (h : HeldShape) → IsSavedShape h → shape_data (held_shape h) ≡ data_of_runs h.leaf_runs ++ data_of_runs h.runs
unfolding shape_data held_shape
data_is h sound =
    map-append (λ (x : Mapping). x.data_block) (flat_map (λ (ms : List Mapping). ms) (map mappings_of_runs (leaf_parts h.leaves h.leaf_runs)))
    (flat_map (λ (d : ShapeDevice). flat_map own_mappings d.pieces) (map device_of_part (device_parts h.devices h.pieces h.runs)))
    ∙ ap₂ (λ (bs cs : List ℕ). bs ++ cs) (leaves_data h.leaves h.leaf_runs sound.leaf_number) (devices_data h.devices h.pieces h.runs sound.piece_number sound.number)

-- its uses are those of its pieces
pieces_uses : (ps : List SavedPiece) (runs : List Run) → flat_map uses_of_piece (map piece_of_part (piece_parts ps runs)) ≡ flat_map uses_of_saved ps
pieces_uses [] runs = refl
pieces_uses (Own k ∷ ps) runs = pieces_uses ps (drop k runs)
pieces_uses (Shared number ∷ ps) runs = ap (λ (uses : List ℕ). number ∷ uses) (pieces_uses ps runs)

pub devices_uses : (ds : List ShapedDevice) (ps : List SavedPiece) (runs : List Run) → pieces_of ds ≡ length ps
    → flat_map uses_of (map device_of_part (device_parts ds ps runs)) ≡ flat_map uses_of_saved ps
devices_uses [] ps runs number = rw (nil_from_length ps (sym number)) refl
devices_uses (d ∷ ds) ps runs number =
    let mine = take d.pieces ps in
    ap₂ (λ (bs cs : List ℕ). bs ++ cs) (pieces_uses mine runs) (devices_uses ds (drop d.pieces ps) (drop (runs_of_pieces mine) runs) (device_rest d ds ps number))
    ∙ (sym (flat_map-append uses_of_saved mine (drop d.pieces ps)) ∙ ap (flat_map uses_of_saved) (take-append-drop d.pieces ps))

leaves_number : (leaves : List SavedLeaf) (runs : List Run) → length (leaf_parts leaves runs) ≡ length leaves
leaves_number [] runs = refl
leaves_number (leaf ∷ leaves) runs = ap suc (leaves_number leaves (drop leaf.runs runs))

devices_number : (ds : List ShapedDevice) (ps : List SavedPiece) (runs : List Run) → length (device_parts ds ps runs) ≡ length ds
devices_number [] ps runs = refl
devices_number (d ∷ ds) ps runs = ap suc (devices_number ds (drop d.pieces ps) (drop (runs_of_pieces (take d.pieces ps)) runs))

-- how many leaves it has
pub leaf_number_is : (h : HeldShape) → length (held_shape h).leaves ≡ length h.leaves
unfolding held_shape
leaf_number_is h = length-map (leaf_parts h.leaves h.leaf_runs) mappings_of_runs ∙ leaves_number h.leaves h.leaf_runs

-- each use is one of a leaf
pieces_below : (leaves : ℕ) (ps : List SavedPiece) (runs : List Run) → ArePieces leaves (map piece_of_part (piece_parts ps runs)) → AllByRecursion (IsUseBelow leaves) ps
pieces_below leaves [] runs are = tt
pieces_below leaves (Own k ∷ []) runs are = (tt, tt)
pieces_below leaves (Own k ∷ Own n ∷ ps) runs are = absurd are
pieces_below leaves (Own k ∷ Shared number ∷ ps) runs are = (tt, (are.1.0, pieces_below leaves ps (drop k runs) are.1.1))
pieces_below leaves (Shared number ∷ ps) runs are = (are.0, pieces_below leaves ps runs are.1)

devices_below : (leaves : ℕ) (ds : List ShapedDevice) (ps : List SavedPiece) (runs : List Run) → pieces_of ds ≡ length ps
    → AllByRecursion (λ (d : ShapeDevice). ArePieces leaves d.pieces) (map device_of_part (device_parts ds ps runs)) → AllByRecursion (IsUseBelow leaves) ps
devices_below leaves [] ps runs number are = rw (nil_from_length ps (sym number)) tt
devices_below leaves (d ∷ ds) ps runs number are =
    let mine = take d.pieces ps in
    subst (AllByRecursion (IsUseBelow leaves)) (take-append-drop d.pieces ps)
    (all_append (IsUseBelow leaves) mine (drop d.pieces ps) (pieces_below leaves mine runs are.0)
    (devices_below leaves ds (drop d.pieces ps) (drop (runs_of_pieces mine) runs) (device_rest d ds ps number) are.1))

pub uses_below : (h : HeldShape) → IsSavedShape h → AllByRecursion (IsUseBelow (length h.leaves)) h.pieces
unfolding held_shape
uses_below h sound =
    subst (λ n. AllByRecursion (IsUseBelow n) h.pieces) (leaf_number_is h)
    (devices_below (length (held_shape h).leaves) h.devices h.pieces h.runs sound.piece_number sound.shape.pieces)

-- its runs are in the pool: those of the leaves
leaves_within : (blocks : ℕ) (leaves : List SavedLeaf) (runs : List Run) → sum_by (λ (l : SavedLeaf). l.runs) leaves ≡ length runs
    → AllByRecursion (IsLeaf blocks) (leaf_parts leaves runs) → AllByRecursion (IsRunIn blocks) runs
leaves_within blocks [] runs number are = rw (nil_from_length runs (sym number)) tt
leaves_within blocks (leaf ∷ leaves) runs number are =
    subst (AllByRecursion (IsRunIn blocks)) (take-append-drop leaf.runs runs)
    (all_append (IsRunIn blocks) (take leaf.runs runs) (drop leaf.runs runs) (part_within blocks 0 (take leaf.runs runs) are.0.mappings are.0.have)
    (leaves_within blocks leaves (drop leaf.runs runs) (leaf_rest leaf leaves runs number) are.1))

pub leaf_runs_in : (h : HeldShape) → IsSavedShape h → AllByRecursion (IsRunIn h.head.blocks) h.leaf_runs
unfolding held_shape
leaf_runs_in h sound =
    leaves_within h.head.blocks h.leaves h.leaf_runs sound.leaf_number
    (are_leaves (held_shape h) (leaf_parts h.leaves h.leaf_runs) refl (leaves_have (leaf_parts h.leaves h.leaf_runs) sound.leaves_joined) sound.shape sound.lawful)

pub leaf_runs_within : (h : HeldShape) → IsSavedShape h → AllByRecursion (IsWithin h.head.blocks) h.leaf_runs
leaf_runs_within h sound = within_all h.head.blocks h.leaf_runs (leaf_runs_in h sound)

pub from_there : (blocks least : ℕ) (ms ns : List Mapping) → AreMappings blocks least (ms ++ ns) → (next : ℕ) × AreMappings blocks next ns
from_there blocks least [] ns are = (least, are)
from_there blocks least (m ∷ ms) ns are = from_there blocks (m.virtual_block + 1) ms ns are.1

-- and those of devices' own pieces
pieces_within : (blocks least : ℕ) (leaves : List (List Mapping)) (ps : List SavedPiece) (runs : List Run)
    → AreMappings blocks least (flat_map (piece_mappings leaves) (map piece_of_part (piece_parts ps runs))) → AllByRecursion HasPieceMappings (piece_parts ps runs)
    → AllByRecursion (IsRunIn blocks) (take (runs_of_pieces ps) runs)
pieces_within blocks least leaves [] runs are have = tt
pieces_within blocks least leaves (Own k ∷ ps) runs are have =
    let mine = mappings_of_runs (map spelled (take k runs)) in
    let others = flat_map (piece_mappings leaves) (map piece_of_part (piece_parts ps (drop k runs))) in
    let later = from_there blocks least mine others are in
    let all : take k runs ++ take (runs_of_pieces ps) (drop k runs) ≡ take (runs_of_pieces (Own k ∷ ps)) runs =
    sym (take_front k (runs_of_pieces ps) runs) ∙ ap (λ (n : ℕ). take n runs) (sym (sum_by-cons runs_of_piece (Own k) ps)) in
    subst (AllByRecursion (IsRunIn blocks)) all
    (all_append (IsRunIn blocks) (take k runs) (take (runs_of_pieces ps) (drop k runs)) (part_within blocks least (take k runs) (mappings_in_front blocks least mine others are) have.0)
    (pieces_within blocks later.0 leaves ps (drop k runs) later.1 have.1))
pieces_within blocks least leaves (Shared number ∷ ps) runs are have =
    let others = flat_map (piece_mappings leaves) (map piece_of_part (piece_parts ps runs)) in
    let later = from_there blocks least (piece_mappings leaves (shared number)) others are in
    let same : runs_of_pieces ps ≡ runs_of_pieces (Shared number ∷ ps) = omega (arith, sum_by-cons runs_of_piece (Shared number) ps) in
    subst (λ (n : ℕ). AllByRecursion (IsRunIn blocks) (take n runs)) same (pieces_within blocks later.0 leaves ps runs later.1 have.1)

devices_within : (blocks least : ℕ) (leaves : List (List Mapping)) (ds : List ShapedDevice) (ps : List SavedPiece) (runs : List Run) → pieces_of ds ≡ length ps → runs_of_pieces ps ≡ length runs
    → AreDevices blocks least (map (device_of leaves) (map device_of_part (device_parts ds ps runs))) → AllByRecursion HasPartMappings (device_parts ds ps runs) → AllByRecursion (IsRunIn blocks) runs
devices_within blocks least leaves [] ps runs pieces number are have =
    let none : length runs ≡ 0 = sym number ∙ ap runs_of_pieces (nil_from_length ps (sym pieces)) in
    rw (nil_from_length runs none) tt
devices_within blocks least leaves (d ∷ ds) ps runs pieces number are have =
    let mine = take d.pieces ps in
    let n = runs_of_pieces mine in
    subst (AllByRecursion (IsRunIn blocks)) (take-append-drop n runs)
    (all_append (IsRunIn blocks) (take n runs) (drop n runs) (pieces_within blocks 0 leaves mine runs are.0.mappings have.0)
    (devices_within blocks (d.id + 1) leaves ds (drop d.pieces ps) (drop n runs) (device_rest d ds ps pieces) (runs_rest d.pieces ps runs number) are.1 have.1))

pub own_runs_in : (h : HeldShape) → IsSavedShape h → AllByRecursion (IsRunIn h.head.blocks) h.runs
unfolding held_shape pool_of
own_runs_in h sound =
    devices_within h.head.blocks 0 (held_shape h).leaves h.devices h.pieces h.runs sound.piece_number sound.number sound.lawful.devices
    (parts_have (device_parts h.devices h.pieces h.runs) sound.joined)

pub own_runs_within : (h : HeldShape) → IsSavedShape h → AllByRecursion (IsWithin h.head.blocks) h.runs
own_runs_within h sound = within_all h.head.blocks h.runs (own_runs_in h sound)

-- the numbers that the need goes by
abbrev pub counts_of : HeldShape → NeedCounts
counts_of h = record {
  leaves = length h.leaves;
  often = overflows_in (flat_map uses_of_saved h.pieces) (length h.leaves);
  trees = trees_of_parts (device_parts h.devices h.pieces h.runs);
  begun = 0;
  devices = length h.devices;
  blocks = h.head.blocks;
  over = overflows_in (data_of_runs h.leaf_runs ++ data_of_runs h.runs) h.head.blocks;
}

need_same : (leaves often trees number blocks over room : ℕ) (devices : List LeafCount) → trees ≡ sum_by need_of_leaves devices → number ≡ length devices
    → need_of_parts (record { leaves = leaves; often = often; trees = trees; begun = 0; devices = number; blocks = blocks; over = over }) room ≡ need_of_shared leaves often devices blocks over room
unfolding need_of_parts need_of_shared
need_same leaves often trees number blocks over room devices sum number_is = let whole : trees + 0 ≡ trees = omega arith in rw (whole, sum, number_is) refl

pub counted_need : (h : HeldShape) → IsSavedShape h → (room : ℕ) → need_of_parts (counts_of h) room ≡ shape_need (held_shape h) room
unfolding shape_need held_shape used_often
counted_need h sound room =
    let w = held_shape h in
    let parts = device_parts h.devices h.pieces h.runs in
    let devices = map (λ (d : ShapeDevice). leaves_of_pieces d.pieces) w.devices in
    let number : length h.devices ≡ length devices =
    sym (length-map w.devices (λ (d : ShapeDevice). leaves_of_pieces d.pieces) ∙ (length-map parts device_of_part ∙ devices_number h.devices h.pieces h.runs)) in
    let uses : flat_map uses_of w.devices ≡ flat_map uses_of_saved h.pieces = devices_uses h.devices h.pieces h.runs sound.piece_number in
    let c = counts_of h in
    need_same c.leaves c.often c.trees c.devices c.blocks c.over room devices (parts_need (length w.leaves) parts sound.shape.pieces) number
    ∙ (ap₂ (λ (n : ℕ) (us : List ℕ). need_of_shared n (used_often us n) devices c.blocks c.over room) (sym (leaf_number_is h)) (sym uses)
    ∙ ap (λ (blocks : List ℕ). need_of_shared (length w.leaves) (used_often (flat_map uses_of w.devices) (length w.leaves)) devices c.blocks (overflows_in blocks c.blocks) room) (sym (data_is h sound)))

-- numbers that are those of the shape
same_parts : (c d : NeedCounts) (room : ℕ) → c.leaves ≡ d.leaves → c.often ≡ d.often → c.trees ≡ d.trees → c.begun ≡ d.begun → c.devices ≡ d.devices → c.blocks ≡ d.blocks → c.over ≡ d.over
    → need_of_parts c room ≡ need_of_parts d room
same_parts c d room leaves often trees begun devices blocks over k =
    need_of_parts (record { leaves = leaves k; often = often k; trees = trees k; begun = begun k; devices = devices k; blocks = blocks k; over = over k }) room

-- a need that is below the end of its type is the shape's
pub need_exact : (h : HeldShape) (c : NeedCounts) (over room need : ℕ) → ArePartsOf h over c → over ≡ overflows_in (data_of_runs h.leaf_runs ++ data_of_runs h.runs) h.head.blocks
    → need ≡ min (need_of_parts c room) (2 ^ 64 - 1) → need < 2 ^ 64 - 1 → need ≡ shape_need (held_shape h) room
need_exact h c over room need are thrice is fits =
    below need (need_of_parts c room) is fits
    ∙ (same_parts c (counts_of h) room are.leaves are.often are.trees are.begun are.devices are.blocks (are.thrice ∙ thrice) ∙ counted_need h are.sound room)
  where
    below : (need all : ℕ) → need ≡ min all (2 ^ 64 - 1) → need < 2 ^ 64 - 1 → need ≡ all
    below need all is fits = omega arith

-- the need grows with the data blocks that stand three times
grows : (leaves often trees begun devices blocks a b room : ℕ) → a ≤ b
    → need_of_parts (record { leaves = leaves; often = often; trees = trees; begun = begun; devices = devices; blocks = blocks; over = a }) room
    ≤ need_of_parts (record { leaves = leaves; often = often; trees = trees; begun = begun; devices = devices; blocks = blocks; over = b }) room
unfolding need_of_parts
grows leaves often trees begun devices blocks a b room fewer = omega (arith, need_tree-le 4 a b (omega arith) fewer)

-- a shape has room where it would have with more of them
pub need_fits : (h : HeldShape) (c : NeedCounts) (over room need : ℕ) → ArePartsOf h over c → overflows_in (data_of_runs h.leaf_runs ++ data_of_runs h.runs) h.head.blocks ≤ over
    → need ≡ min (need_of_parts c room) (2 ^ 64 - 1) → need ≤ room → room ≤ 4161600 → shape_need (held_shape h) room ≤ room
need_fits h c over room need are fewer is fits few =
    let exact = counts_of h in
    let most : NeedCounts = record {
      leaves = exact.leaves;
      often = exact.often;
      trees = exact.trees;
      begun = exact.begun;
      devices = exact.devices;
      blocks = exact.blocks;
      over = over;
    } in
    let same : need_of_parts c room ≡ need_of_parts most room = same_parts c most room are.leaves are.often are.trees are.begun are.devices are.blocks are.thrice in
    let more = grows exact.leaves exact.often exact.trees exact.begun exact.devices exact.blocks exact.over over room fewer in
    omega (arith, same, more, is, fits, few, counted_need h are.sound room)
