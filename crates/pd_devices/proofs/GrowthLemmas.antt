-- A tree that grows by runs.
use Rattle.std.proofs.Common.{◌≡◌, ℕ, List, [], ◌∷◌, ◌++◌, length, length-append, refl, sym, ◌∙◌, ap, subst, append_assoc, arith, zero, suc, ◌+◌, map, ◌*◌, ◌≤◌, sum, sum_by}
use Rattle.std.proofs.lemmas.List.{append-nil}
use Rattle.std.specs.List.{range_with_len}
use Rattle.std.proofs.lemmas.List.Sums.{sum_by-cons}
use Rattle.pd_kinds.specs.Node.{Entry}
use Rattle.pd_kinds.specs.Meaning.{Mapping, ThinDevice}
use Rattle.pd_kinds.specs.Field.{mapping_code}
use Rattle.pd_grammar.specs.ThinText.{mappings_from}
use Rattle.pd_grammar.specs.Need.{nodes_for, nodes_of_tree, need_tree}
use Rattle.pd_laid.specs.Laid.{tree_blocks, tree_root}
use Rattle.pd_laid.specs.LaidThin.{mapping_items}
use Rattle.pd_laid.proofs.GatherLemmas.{items-append, length-items}
use Rattle.pd_laid.proofs.NeedLemmas.{length-tree_blocks}
use Rattle.pd_draft.specs.Closed.{IsClosed, DraftState, Wrote}
use Rattle.pd_draft.proofs.DraftLemmas.{wrote_none, wrote_then}
use Rattle.pd_build.specs.Tree.{items_to_come, TreeLeft, Grows, blocks_left, root_left}
use Rattle.pd_devices.specs.Devices.{IsBegun, GrowsBy}
use Rattle.pd_laws_laid.specs.Once.{device_trees, device_roots, trees_need}
use Rattle.pd_laws_laid.proofs.MapLemmas.{trees-append, roots-append}

-- nothing was taken yet
pub grows_none : (size : ℕ) (t : TreeLeft) (draft_state : DraftState) → IsClosed draft_state.device → GrowsBy size [] t t draft_state draft_state
grows_none size t draft_state closed = record {
  written = [];
  wrote = wrote_none draft_state closed;
  blocks = λ items. refl;
  root = λ items. refl;
  items = omega arith;
  room = refl;
}

-- some items, and others after them
pub grows_then : {size : ℕ} {xs ys : List Entry} {a b c : TreeLeft} {from mid to : DraftState} → GrowsBy size xs a b from mid → GrowsBy size ys b c mid to
    → GrowsBy size (xs ++ ys) a c from to
grows_then {size} {xs} {ys} {a} {b} {c} {from} {mid} {to} first last = record {
  written = first.written ++ last.written;
  wrote = wrote_then first.wrote last.wrote;
  blocks = λ items.
      ap (λ (all : List Entry). blocks_left size from.place a all) (append_assoc xs ys items)
      ∙ (first.blocks (ys ++ items)
      ∙ (ap (λ (rest : List (List ℕ)). first.written ++ rest) (last.blocks items)
      ∙ sym (append_assoc first.written last.written (blocks_left size to.place c items))));
  root = λ items. ap (λ (all : List Entry). root_left from.place a all) (append_assoc xs ys items) ∙ (first.root (ys ++ items) ∙ last.root items);
  items = omega (arith, first.items, last.items, length-append xs ys);
  room = last.room ∙ first.room;
}

-- one item
pub grows_one : {size : ℕ} {e : Entry} {a b : TreeLeft} {from to : DraftState} → Grows size e a b from to → GrowsBy size (e ∷ []) a b from to
grows_one {size} {e} {a} {b} {from} {to} g = record {
  written = g.written;
  wrote = g.wrote;
  blocks = g.blocks;
  root = g.root;
  items = g.items;
  room = g.room;
}

-- all items were taken, and the rest of the tree was written
pub grown_end : {size number : ℕ} {all : List Entry} {first last : TreeLeft} {from mid to : DraftState} → IsBegun size number first
    → GrowsBy size all first last from mid → items_to_come last.leaves ≡ 0 → Wrote (blocks_left size mid.place last []) mid to
    → Wrote (tree_blocks size from.place all) from to
grown_end {size} {number} {all} {first} {last} {from} {mid} {to} begun grows done wrote =
    let full : length all ≡ number = omega (arith, grows.items, begun.items, done) in
    let whole : tree_blocks size from.place all ≡ grows.written ++ blocks_left size mid.place last [] =
    sym (begun.blocks from.place all full)
    ∙ (ap (λ (items : List Entry). blocks_left size from.place first items) (sym (append-nil all)) ∙ grows.blocks []) in
    subst (λ (blocks : List (List ℕ)). Wrote blocks from to) (sym whole) (wrote_then grows.wrote wrote)

pub grown_root : {size number : ℕ} {all : List Entry} {first last : TreeLeft} {from mid : DraftState} → IsBegun size number first
    → GrowsBy size all first last from mid → items_to_come last.leaves ≡ 0 → root_left mid.place last [] ≡ tree_root size from.place all
grown_root {size} {number} {all} {first} {last} {from} {mid} begun grows done =
    let full : length all ≡ number = omega (arith, grows.items, begun.items, done) in
    sym (grows.root []) ∙ (ap (λ (items : List Entry). root_left from.place first items) (append-nil all) ∙ begun.root from.place all full)

-- The mappings of a run.

-- one mapping more
mappings_more : (v d t n : ℕ) → mappings_from v d t (suc n) ≡ mappings_from v d t n ++ record { virtual_block = v + n; data_block = d + n; time = t } ∷ []
mappings_more v d t zero = ap (λ (m : Mapping). m ∷ []) (same v d v d (omega arith) (omega arith))
  where
    same : (v d w e : ℕ) → v ≡ w + 0 → d ≡ e + 0 → ◌≡◌ {A = Mapping} (record { virtual_block = v; data_block = d; time = t }) (record { virtual_block = w + 0; data_block = e + 0; time = t })
    same v d w e p q = cc
mappings_more v d t (suc n) =
    ap (λ (ms : List Mapping). record { virtual_block = v; data_block = d; time = t } ∷ ms)
    (mappings_more (suc v) (suc d) t n ∙ ap (λ (m : Mapping). mappings_from (suc v) (suc d) t n ++ m ∷ []) (same (suc v + n) (suc d + n) (v + suc n) (d + suc n) (omega arith) (omega arith)))
  where
    same : (v d w e : ℕ) → v ≡ w → d ≡ e → ◌≡◌ {A = Mapping} (record { virtual_block = v; data_block = d; time = t }) (record { virtual_block = w; data_block = e; time = t })
    same v d w e p q = cc

-- as entries
pub items_more : (v d t n : ℕ) → mapping_items (mappings_from v d t (n + 1)) ≡ mapping_items (mappings_from v d t n) ++ record { key = v + n; value = mapping_code (d + n) t } ∷ []
unfolding mapping_items
items_more v d t n =
    let next : n + 1 ≡ suc n = omega arith in
    rw next (ap mapping_items (mappings_more v d t n) ∙ items-append (mappings_from v d t n) (record { virtual_block = v + n; data_block = d + n; time = t } ∷ []))

-- the data blocks of a run are a row
pub run_data : (v d t n : ℕ) → map (λ (x : Mapping). x.data_block) (mappings_from v d t n) ≡ range_with_len d n
run_data v d t zero = refl
run_data v d t (suc n) = let next : suc d ≡ d + 1 = omega arith in ap (λ (ds : List ℕ). d ∷ ds) (run_data (suc v) (suc d) t n ∙ ap (λ (a : ℕ). range_with_len a n) next)

-- The trees of devices, and how many blocks they have.

pub length-device_trees : (place : ℕ) (devices : List ThinDevice) → length (device_trees place devices) ≡ trees_need devices
unfolding device_trees
length-device_trees place [] = refl
length-device_trees place (d ∷ devices) =
    let here = tree_blocks 8 place (mapping_items d.mappings) in
    let next = place + need_tree 8 (length d.mappings) in
    let items = ap (need_tree 8) (length-items d.mappings) in
    omega (
      arith,
      length-append here (device_trees next devices),
      length-tree_blocks 8 place (mapping_items d.mappings),
      items,
      length-device_trees next devices,
      sum_by-cons (need_tree 8) (length d.mappings) (map (λ (d : ThinDevice). length d.mappings) devices),
    )

-- a device more
pub one_tree_more : (devices : List ThinDevice) (d : ThinDevice) (place : ℕ) → place ≡ 1 + trees_need devices
    → device_trees 1 (devices ++ d ∷ []) ≡ device_trees 1 devices ++ tree_blocks 8 place (mapping_items d.mappings)
unfolding device_trees
one_tree_more devices d place here =
    trees-append 1 devices (d ∷ [])
    ∙ ap (λ (blocks : List (List ℕ)). device_trees 1 devices ++ blocks)
    (append-nil (tree_blocks 8 (1 + trees_need devices) (mapping_items d.mappings)) ∙ ap (λ (p : ℕ). tree_blocks 8 p (mapping_items d.mappings)) (sym here))

pub one_root_more : (devices : List ThinDevice) (d : ThinDevice) (place : ℕ) → place ≡ 1 + trees_need devices
    → device_roots 1 (devices ++ d ∷ []) ≡ device_roots 1 devices ++ record { key = d.id; value = tree_root 8 place (mapping_items d.mappings) } ∷ []
unfolding device_roots
one_root_more devices d place here =
    roots-append 1 devices (d ∷ [])
    ∙ ap (λ (p : ℕ). device_roots 1 devices ++ record { key = d.id; value = tree_root 8 p (mapping_items d.mappings) } ∷ []) (sym here)

-- so many nodes hold so many items
pub nodes_most : (n : ℕ) → n ≤ 252 * nodes_for 252 n
nodes_most n = omega arith

pub need_tree_some : (n : ℕ) → n ≤ 252 * need_tree 8 n
unfolding nodes_of_tree
need_tree_some n = omega (arith, nodes_most n)

-- so the mappings of trees are few where their nodes are
pub sum_few : (mapped : List ℕ) → sum mapped ≤ 252 * sum_by (need_tree 8) mapped
sum_few [] = omega arith
sum_few (n ∷ mapped) = omega (arith, sum_by-cons (λ (x : ℕ). x) n mapped, sum_by-cons (need_tree 8) n mapped, need_tree_some n, sum_few mapped)
