-- The trees of devices, one behind another, and how many blocks they have.
use Rattle.std.proofs.Common.{◌≡◌, ℕ, ◌+◌, List, [], ◌∷◌, ◌++◌, length, length-append, map, sum_by, sym, ◌∙◌, ap, ap₂, arith, append_assoc}
use Rattle.std.proofs.lemmas.List.{append-nil, length-map, map-append}
use Rattle.std.proofs.lemmas.List.Sums.{sum_by_push}
use Rattle.pd_kinds.specs.Meaning.{Mapping}
use Rattle.pd_kinds.specs.Node.{Entry, leaf_block}
use Rattle.pd_laid.specs.LaidThin.{mapping_items, device_root}
use Rattle.pd_laid.specs.Shape.{ShapeDevice}
use Rattle.pd_laid.specs.Laid.{blocks_from}
use Rattle.pd_laid.proofs.LaidLemmas.{blocks_from-append, length-blocks_from}
use Rattle.pd_laid.specs.PoolText.{leaves_of_pieces, need_of_leaves}
use Rattle.pd_laws_laid.specs.Shared.{device_tree, device_trees, device_roots, leaf_blocks_from, leaves_and_trees, trees_need}

pub one_tree_more : (leaves : List (List Entry)) (place : ℕ) (ds : List ShapeDevice) (d : ShapeDevice)
    → device_trees leaves place (ds ++ d ∷ []) ≡ device_trees leaves place ds ++ device_tree leaves (place + length (device_trees leaves place ds)) d
unfolding device_trees
one_tree_more leaves place [] d = append-nil (device_tree leaves place d) ∙ ap (λ (p : ℕ). device_tree leaves p d) (omega arith)
one_tree_more leaves place (e ∷ ds) d =
    let here = device_tree leaves place e in
    let next = place + length here in
    ap (λ (bs : List (List ℕ)). here ++ bs) (one_tree_more leaves next ds d)
    ∙ (sym (append_assoc here (device_trees leaves next ds) (device_tree leaves (next + length (device_trees leaves next ds)) d))
    ∙ ap (λ (p : ℕ). (here ++ device_trees leaves next ds) ++ device_tree leaves p d) (omega (arith, length-append here (device_trees leaves next ds))))

pub one_root_more : (leaves : List (List Entry)) (place : ℕ) (ds : List ShapeDevice) (d : ShapeDevice)
    → device_roots leaves place (ds ++ d ∷ []) ≡ device_roots leaves place ds ++ record { key = d.id; value = device_root leaves (place + length (device_trees leaves place ds)) d } ∷ []
unfolding device_trees device_roots
one_root_more leaves place [] d = ap (λ (p : ℕ). record { key = d.id; value = device_root leaves p d } ∷ []) (omega arith)
one_root_more leaves place (e ∷ ds) d =
    let here = device_tree leaves place e in
    let next = place + length here in
    ap (λ (es : List Entry). record { key = e.id; value = device_root leaves place e } ∷ es)
    (one_root_more leaves next ds d
    ∙ ap (λ (p : ℕ). device_roots leaves next ds ++ record { key = d.id; value = device_root leaves p d } ∷ []) (omega (arith, length-append here (device_trees leaves next ds))))

pub trees_more : (ds : List ShapeDevice) (d : ShapeDevice) → trees_need (ds ++ d ∷ []) ≡ trees_need ds + need_of_leaves (leaves_of_pieces d.pieces)
trees_more ds d =
    ap (sum_by need_of_leaves) (map-append (λ (e : ShapeDevice). leaves_of_pieces e.pieces) ds (d ∷ []))
    ∙ sum_by_push need_of_leaves (map (λ (e : ShapeDevice). leaves_of_pieces e.pieces) ds) (leaves_of_pieces d.pieces)

-- a leaf more, before all devices
pub leaf_more : (leaves : List (List Mapping)) (ms : List Mapping) → leaves_and_trees (leaves ++ ms ∷ []) [] ≡ leaves_and_trees leaves [] ++ (leaf_block 8 (1 + length leaves) (mapping_items ms) ∷ [])
unfolding leaves_and_trees device_trees blocks_from
leaf_more leaves ms =
    append-nil (leaf_blocks_from 1 (leaves ++ ms ∷ []))
    ∙ (ap (blocks_from (leaf_block 8) 1) (map-append mapping_items leaves (ms ∷ []))
    ∙ (blocks_from-append (leaf_block 8) 1 (map mapping_items leaves) (mapping_items ms ∷ [])
    ∙ ap₂ (λ (bs : List (List ℕ)) (n : ℕ). bs ++ (leaf_block 8 (1 + n) (mapping_items ms) ∷ [])) (sym (append-nil (leaf_blocks_from 1 leaves))) (length-map leaves mapping_items)))

-- a device more
pub device_more : (leaves : List (List Mapping)) (ds : List ShapeDevice) (d : ShapeDevice) (place : ℕ) → place ≡ 1 + length (leaves_and_trees leaves ds)
    → leaves_and_trees leaves (ds ++ d ∷ []) ≡ leaves_and_trees leaves ds ++ device_tree (map mapping_items leaves) place d
unfolding leaves_and_trees
device_more leaves ds d place is =
    let items = map mapping_items leaves in
    let front = leaf_blocks_from 1 leaves in
    let at = 1 + length leaves in
    let trees = device_trees items at ds in
    let number : at + length trees ≡ place = omega (arith, is, length-append front trees, length-blocks_from (leaf_block 8) 1 items, length-map leaves mapping_items) in
    ap (λ (bs : List (List ℕ)). front ++ bs) (one_tree_more items at ds d)
    ∙ (sym (append_assoc front trees (device_tree items (at + length trees) d)) ∙ ap (λ (p : ℕ). (front ++ trees) ++ device_tree items p d) number)

pub root_more : (leaves : List (List Mapping)) (ds : List ShapeDevice) (d : ShapeDevice) (place : ℕ) → place ≡ 1 + length (leaves_and_trees leaves ds)
    → device_roots (map mapping_items leaves) (1 + length leaves) (ds ++ d ∷ [])
    ≡ device_roots (map mapping_items leaves) (1 + length leaves) ds ++ record { key = d.id; value = device_root (map mapping_items leaves) place d } ∷ []
unfolding leaves_and_trees
root_more leaves ds d place is =
    let items = map mapping_items leaves in
    let at = 1 + length leaves in
    let trees = device_trees items at ds in
    let number : at + length trees ≡ place = omega (arith, is, length-append (leaf_blocks_from 1 leaves) trees, length-blocks_from (leaf_block 8) 1 items, length-map leaves mapping_items) in
    one_root_more items at ds d ∙ ap (λ (p : ℕ). device_roots items at ds ++ record { key = d.id; value = device_root items p d } ∷ []) number
