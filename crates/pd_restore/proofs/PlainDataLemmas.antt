-- The data blocks of a saved shape's devices, and what its pool needs where each device has leaves of its own.
use Rattle.std.proofs.Common.{◌≡◌, ℕ, zero, suc, ◌+◌, ◌-◌, ◌*◌, ◌^◌, ◌<◌, ◌≤◌, get_or, min, List, [], ◌∷◌, ◌++◌, length, map, take, drop, refl, ap, ap₂, sym, ◌∙◌, arith}
use Rattle.std.specs.List.{flat_map, range_with_len}
use Rattle.std.specs.Prelude.{sum_by}
use Rattle.std.proofs.lemmas.List.{drop_all, drop_more, map-append}
use Rattle.std.proofs.lemmas.List.Sums.{sum_by-append, sum_by-cons}
use Rattle.pd_kinds.specs.Meaning.{Mapping, ThinDevice}
use Rattle.pd_grammar.specs.Need.{mapped_data, need_of_devices, overflows_in, thin_need}
use Rattle.pd_grammar.proofs.NeedLemmas.{count_of as often}
use Rattle.pd_grammar.proofs.ThinLaws.{data_of}
use Rattle.pd_laid.specs.Shape.{Piece, ShapeDevice, device_of, leaf_mappings, own, piece_mappings, pool_of, shared, uses_of, uses_of_piece}
use Rattle.pd_laid.specs.PoolText.{own_mappings, device_of_part, mappings_of_runs}
use Rattle.pd_laid.proofs.WholeNeed.{own_of}
use Rattle.pd_count.specs.Counted.{Counted, count_of}
use Rattle.pd_meaning_thin.specs.declared.joined.Run.{Run}
use Rattle.pd_meaning_thin.specs.Runs.{spelled}
use Rattle.pd_restore.specs.ShapeNeed.{HasCountedThrice, copies, data_of_runs, leaves_used, runs_used, uses_of_saved}
use Rattle.pd_restore.proofs.PlainNeedLemmas.{copies_often, often_append, sum_alike, uses_weighted, weighted, weighted_alike}
use Rattle.pd_restore.proofs.SavedNeedLemmas.{CountsFirst, counts_next, part_data}
use Rattle.pd_restore.proofs.ShapePartLemmas.{devices_data, devices_uses}
use Rattle.pd_salvage.specs.declared.saved_shape.SavedLeaf.{SavedLeaf}
use Rattle.pd_salvage.specs.declared.saved_shape.SavedPiece.{SavedPiece}
use Rattle.pd_salvage.specs.declared.saved_shape.ShapedDevice.{ShapedDevice}
use Rattle.pd_salvage.specs.SavedShape.{HeldShape, IsSavedShape, device_parts, held_shape, leaf_parts, runs_of_pieces}

-- what stands past the last leaf
abbrev pub no_leaf : SavedLeaf
no_leaf = record { entries = 0; runs = 0 }

-- a leaf more
pub leaf_next : (old new : Counted) (times : ℕ → ℕ) (all : List ℕ) (i : ℕ) (leaves : List SavedLeaf) (runs later : List Run) (d : SavedLeaf) → i < length leaves
    → (counts : CountsFirst old all (leaves_used times i (drop i leaves) runs)) → later ≡ drop (get_or leaves i d).runs runs
    → HasCountedThrice new (counts.first ++ runs_used (times i) (take (get_or leaves i d).runs runs)) → CountsFirst new all (leaves_used times (i + 1) (drop (i + 1) leaves) later)
leaf_next old new times all i leaves runs later d within counts behind counted =
    let leaf = get_or leaves i d in
    let mine = runs_used (times i) (take leaf.runs runs) in
    let one : suc i ≡ i + 1 = omega arith in
    counts_next old new all (leaves_used times i (drop i leaves) runs) mine (leaves_used times (i + 1) (drop (i + 1) leaves) later) counts
    (ap (λ (ls : List SavedLeaf). leaves_used times i ls runs) (drop_more leaves i d within)
    ∙ ap₂ (λ (n : ℕ) (rs : List Run). mine ++ leaves_used times n (drop (i + 1) leaves) rs) one (sym behind))
    counted

-- no leaf is left
pub leaves_over : (times : ℕ → ℕ) (i : ℕ) (leaves : List SavedLeaf) (runs : List Run) → length leaves ≤ i → leaves_used times i (drop i leaves) runs ≡ []
leaves_over times i leaves runs over = rw (drop_all i leaves over) refl

-- how often a block stands in the runs of a leaf, and in those of all leaves
runs_often : (b n : ℕ) (runs : List Run) → often b (runs_used n runs) ≡ n * often b (data_of_runs runs)
runs_often b n [] = omega arith
runs_often b n (r ∷ runs) =
    let row = range_with_len r.target r.length in
    let whole : n * often b (data_of_runs (r ∷ runs)) ≡ n * (often b row + often b (data_of_runs runs)) = ap (λ (k : ℕ). n * k) (often_append b row (data_of_runs runs)) in
    omega (
      arith,
      often_append b (copies n row) (runs_used n runs),
      whole,
      copies_often b n row,
      runs_often b n runs,
    )

-- how often it stands in each leaf
abbrev leaf_often : ℕ → List (List Mapping) → List ℕ
leaf_often b leaves = map (λ (ms : List Mapping). often b (data_of ms)) leaves

leaves_often : (b : ℕ) (times : ℕ → ℕ) (i : ℕ) (leaves : List SavedLeaf) (runs : List Run)
    → often b (leaves_used times i leaves runs) ≡ weighted times i (leaf_often b (map mappings_of_runs (leaf_parts leaves runs)))
leaves_often b times i [] runs = refl
leaves_often b times i (leaf ∷ leaves) runs =
    let mine = take leaf.runs runs in
    let same : times i * often b (data_of_runs mine) ≡ times i * often b (data_of (mappings_of_runs (map spelled mine))) = ap (λ (blocks : List ℕ). times i * often b blocks) (sym (part_data mine)) in
    omega (
      arith,
      often_append b (runs_used (times i) mine) (leaves_used times (suc i) leaves (drop leaf.runs runs)),
      runs_often b (times i) mine,
      same,
      leaves_often b times (suc i) leaves (drop leaf.runs runs),
    )

leaf_often_at : (b : ℕ) (leaves : List (List Mapping)) (n : ℕ) → often b (data_of (leaf_mappings leaves n)) ≡ get_or (leaf_often b leaves) n 0
leaf_often_at b [] n = refl
leaf_often_at b (ms ∷ leaves) zero = refl
leaf_often_at b (ms ∷ leaves) (suc n) = leaf_often_at b leaves n

-- how often it stands in the mappings of pieces and of devices: in those of their own, and in the leaves that they use
both_often : (b : ℕ) (ms ns : List Mapping) → often b (data_of (ms ++ ns)) ≡ often b (data_of ms) + often b (data_of ns)
both_often b ms ns = ap (often b) (map-append (λ (x : Mapping). x.data_block) ms ns) ∙ often_append b (data_of ms) (data_of ns)

abbrev use_often : ℕ → List (List Mapping) → ℕ → ℕ
use_often b leaves n = often b (data_of (leaf_mappings leaves n))

pieces_often : (b : ℕ) (leaves : List (List Mapping)) (ps : List Piece)
    → often b (data_of (flat_map (piece_mappings leaves) ps)) ≡ often b (data_of (flat_map own_mappings ps)) + sum_by (use_often b leaves) (flat_map uses_of_piece ps)
pieces_often b leaves [] = refl
pieces_often b leaves (own ms ∷ ps) =
    omega (
      arith,
      both_often b ms (flat_map (piece_mappings leaves) ps),
      both_often b ms (flat_map own_mappings ps),
      pieces_often b leaves ps,
    )
pieces_often b leaves (shared n ∷ ps) =
    omega (
      arith,
      both_often b (leaf_mappings leaves n) (flat_map (piece_mappings leaves) ps),
      sum_by-cons (use_often b leaves) n (flat_map uses_of_piece ps),
      pieces_often b leaves ps,
    )

abbrev all_data : List (List Mapping) → List ShapeDevice → List ℕ
all_data leaves ds = flat_map (λ (d : ThinDevice). data_of d.mappings) (map (device_of leaves) ds)

devices_often : (b : ℕ) (leaves : List (List Mapping)) (ds : List ShapeDevice)
    → often b (all_data leaves ds) ≡ often b (data_of (own_of ds)) + sum_by (use_often b leaves) (flat_map uses_of ds)
devices_often b leaves [] = refl
devices_often b leaves (d ∷ ds) =
    omega (
      arith,
      often_append b (data_of (flat_map (piece_mappings leaves) d.pieces)) (all_data leaves ds),
      pieces_often b leaves d.pieces,
      both_often b (flat_map own_mappings d.pieces) (own_of ds),
      sum_by-append (use_often b leaves) (flat_map uses_of_piece d.pieces) (flat_map uses_of ds),
      devices_often b leaves ds,
    )

-- so the counts are those of the pool
pub counts_pool : (h : HeldShape) → IsSavedShape h → (counts uses : Counted) → HasCountedThrice uses (flat_map uses_of_saved h.pieces)
    → HasCountedThrice counts (leaves_used (count_of uses) 0 h.leaves h.leaf_runs ++ data_of_runs h.runs) → HasCountedThrice counts (mapped_data (pool_of (held_shape h)))
unfolding held_shape pool_of
counts_pool h sound counts uses used counted b =
    let leaves = map mappings_of_runs (leaf_parts h.leaves h.leaf_runs) in
    let ds = map device_of_part (device_parts h.devices h.pieces h.runs) in
    let cs = leaf_often b leaves in
    let all_uses = flat_map uses_of_saved h.pieces in
    let mine = often b (data_of_runs h.runs) in
    let front : often b (leaves_used (count_of uses) 0 h.leaves h.leaf_runs ++ data_of_runs h.runs) ≡ weighted (count_of uses) 0 cs + mine =
    often_append b (leaves_used (count_of uses) 0 h.leaves h.leaf_runs) (data_of_runs h.runs) ∙ ap (λ n. n + mine) (leaves_often b (count_of uses) 0 h.leaves h.leaf_runs) in
    let own_is : often b (data_of (own_of ds)) ≡ mine = ap (often b) (devices_data h.devices h.pieces h.runs sound.piece_number sound.number) in
    let uses_are : sum_by (use_often b leaves) (flat_map uses_of ds) ≡ weighted (λ k. often k all_uses) 0 cs =
    ap (sum_by (use_often b leaves)) (devices_uses h.devices h.pieces h.runs sound.piece_number) ∙ uses_weighted (use_often b leaves) cs (leaf_often_at b leaves) all_uses in
    let whole : weighted (λ k. often k all_uses) 0 cs + mine ≡ often b (all_data leaves ds) = omega (arith, devices_often b leaves ds, own_is, uses_are) in
    counted b
    ∙ (ap (λ n. min n 3) front
    ∙ (sum_alike (weighted (count_of uses) 0 cs) mine (weighted (λ k. often k all_uses) 0 cs) mine (weighted_alike (count_of uses) (λ k. often k all_uses) used 0 cs) refl
    ∙ ap (λ n. min n 3) whole))

-- the mapped numbers of its devices
parts_mapped : (leaves : List (List Mapping)) (ds : List ShapedDevice) (ps : List SavedPiece) (runs : List Run)
    → map (λ (d : ThinDevice). d.mapped) (map (device_of leaves) (map device_of_part (device_parts ds ps runs))) ≡ map (λ (d : ShapedDevice). d.details.mapped) ds
parts_mapped leaves [] ps runs = refl
parts_mapped leaves (d ∷ ds) ps runs =
    ap (λ (numbers : List ℕ). d.details.mapped ∷ numbers) (parts_mapped leaves ds (drop d.pieces ps) (drop (runs_of_pieces (take d.pieces ps)) runs))

need_is : (h : HeldShape) (over room : ℕ) → over ≡ overflows_in (mapped_data (pool_of (held_shape h))) h.head.blocks
    → need_of_devices (map (λ (d : ShapedDevice). d.details.mapped) h.devices) h.head.blocks over room ≡ thin_need (pool_of (held_shape h)) room
unfolding held_shape pool_of thin_need
need_is h over room is =
    ap₂ (λ (numbers : List ℕ) (n : ℕ). need_of_devices numbers h.head.blocks n room) (sym (parts_mapped (map mappings_of_runs (leaf_parts h.leaves h.leaf_runs)) h.devices h.pieces h.runs)) is

-- a need that is below the end of its type is the pool's
pub plain_exact : (h : HeldShape) (mapped : List ℕ) (blocks over room need : ℕ) → mapped ≡ map (λ (d : ShapedDevice). d.details.mapped) h.devices → blocks ≡ h.head.blocks
    → over ≡ overflows_in (mapped_data (pool_of (held_shape h))) h.head.blocks → need ≡ min (need_of_devices mapped blocks over room) (2 ^ 64 - 1) → need < 2 ^ 64 - 1
    → need ≡ thin_need (pool_of (held_shape h)) room
plain_exact h mapped blocks over room need numbers size thrice is fits =
    below need (need_of_devices mapped blocks over room) is fits
    ∙ (ap₂ (λ (ns : List ℕ) (n : ℕ). need_of_devices ns n over room) numbers size ∙ need_is h over room thrice)
  where
    below : (n m : ℕ) → n ≡ min m (2 ^ 64 - 1) → n < 2 ^ 64 - 1 → n ≡ m
    below n m is fits = omega arith
